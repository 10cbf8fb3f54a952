-- Blocks from the wrong shelf, computed: each is refused with 3 and the lowest wrong block.
use Rattle.std.specs.Prelude.{◌≡◌, refl, List, [], ◌∷◌, ◌++◌, ℕ, replicate}
use Rattle.std.proofs.lemmas.List.Edits.{sets}
use Rattle.lists.specs.Block.{block, set_block}
use Rattle.endian.specs.Endian.{le32}
use Rattle.image.specs.declared.Verdict.{Verdict}
use Rattle.outcomes.specs.StoreExamples.{answer, bare}

-- the store `bare` with number 8 in the place of 7
eight : List ℕ
eight =
    (64 ∷ 6 ∷ 68 ∷ 6 ∷ 0 ∷ 2 ∷ 0 ∷ 0 ∷ 0 ∷ 0 ∷ 0 ∷ 0 ∷ 40 ∷ 0 ∷ 0 ∷ 0 ∷ 1 ∷ 0 ∷ [])
    ++ ((0 ∷ 0 ∷ 3 ∷ 0 ∷ 0 ∷ 0 ∷ 1 ∷ 0 ∷ 0 ∷ 0 ∷ 1 ∷ 0 ∷ 0 ∷ 0 ∷ 1 ∷ 0 ∷ 0 ∷ 0 ∷ [])
    ++ ((4 ∷ 0 ∷ 0 ∷ 0 ∷ 0 ∷ 0 ∷ 0 ∷ 0 ∷ 1 ∷ [])
    ++ (replicate 59 0
    ++ ((8 ∷ [])
    ++ (replicate 387 0
    ++ (replicate 12 255
    ++ ((8 ∷ 0 ∷ 128 ∷ 255 ∷ 21 ∷ 228 ∷ 29 ∷ 31 ∷ [])
    ++ (replicate 492 0
    ++ ((1 ∷ 0 ∷ 0 ∷ 0 ∷ 255 ∷ 255 ∷ 255 ∷ 255 ∷ 0 ∷ 0 ∷ 0 ∷ 0 ∷ 66 ∷ 0 ∷ 128 ∷ 255 ∷ 66 ∷ 182 ∷ [])
    ++ ((20 ∷ 194 ∷ [])
    ++ (replicate 492 0
    ++ ((1 ∷ 0 ∷ 0 ∷ 0 ∷ 255 ∷ 255 ∷ 255 ∷ 255 ∷ 1 ∷ 0 ∷ 0 ∷ 0 ∷ 2 ∷ 0 ∷ 128 ∷ 255 ∷ 123 ∷ 96 ∷ [])
    ++ ((210 ∷ 226 ∷ [])
    ++ (replicate 256 255
    ++ (replicate 236 0
    ++ (replicate 12 255
    ++ ((4 ∷ 0 ∷ 128 ∷ 255 ∷ 131 ∷ 115 ∷ 15 ∷ 186 ∷ []))))))))))))))))))

-- block 1 of the store with another number
other-store : answer (set_block bare 1 (block eight 1)) ≡ Verdict.Damaged 1
unfolding answer bare eight block set_block
other-store = refl

-- block 2 of the same store at place 1
other_place : answer (set_block bare 1 (block bare 2)) ≡ Verdict.Damaged 1
unfolding answer bare block set_block
other_place = refl

-- block 0 of the store with another number is right by itself, and the next one is not
other-meta : answer (set_block bare 0 (block eight 0)) ≡ Verdict.Damaged 1
unfolding answer bare eight block set_block
other-meta = refl

-- the number alone is another one
other-number : answer (sets bare 104 (le32 8)) ≡ Verdict.Damaged 0
unfolding answer bare le32
other-number = refl

-- it stands twice in what block 0's check covers: the exclusive or with 0xFCA42DAF leaves that check right, and block
-- 1's wrong
hidden-number : answer (sets bare 104 (le32 4238618024)) ≡ Verdict.Damaged 1
unfolding answer bare le32
hidden-number = refl
