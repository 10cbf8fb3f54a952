-- Checks computed: of unused blocks, 508 zeros under a store number, at a place; and two that are one.
use Rattle.std.specs.Prelude.{◌≡◌, refl, List, ℕ, ◌-◌, replicate}
use Rattle.std.proofs.Common.{sym, ap, ◌∙◌}
use Rattle.endian.specs.Endian.{le32}
use Rattle.crc32c.specs.Crc.{crc_bytes, crc_of}
use Rattle.crc32c.specs.FoursLaws.{crc_of-words}
use Rattle.store.specs.Store.{covered, check_of}

-- store number 0, block 0
zero-zero : check_of 0 0 (replicate 508 0) ≡ 0xB84E1C9B
unfolding check_of covered le32 crc_of
zero-zero = refl

-- store number 7, block 4: the number comes first, the other way round it would be 0x576EE5C1
seven-four : check_of 7 4 (replicate 508 0) ≡ 0x0BF4FDC4
unfolding check_of covered le32 crc_of
seven-four = refl

-- the two numbers alone, after which the states are one
same-state : crc_bytes (crc_bytes 0xFFFFFFFF (le32 7)) (le32 1) ≡ crc_bytes (crc_bytes 0xFFFFFFFF (le32 238328596)) (le32 2)
unfolding crc_bytes le32
same-state = refl

-- so block 1 of store 7 passes as block 2 of store 238328596, whatever it holds: not every misplaced block is seen
both-changed : (l : List ℕ) → check_of 7 1 l ≡ check_of 238328596 2 l
unfolding check_of
both-changed l =
    crc_of-words 7 1 (covered l)
    ∙ ap (λ (c : ℕ). 0xFFFFFFFF - crc_bytes c (covered l)) same-state
    ∙ sym (crc_of-words 238328596 2 (covered l))
