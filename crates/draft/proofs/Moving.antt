-- What `copy_within` makes of images, and of numbers.
use Rattle.std.proofs.Common.{◌≡◌, ◌∙◌, sym, ap, ℕ, List, ◌+◌, ◌*◌, ◌-◌, ◌≤◌, ◌<◌, length, get_or, take, drop, append_assoc, ext_get_or, arith}
use Rattle.std.specs.List.{CopiedTo, SameBelow, copy_within}
use lib.Seq.{paste}
use Rattle.lists.specs.Block.{block, set_block}
use Rattle.lists.specs.BlockLaws.{length-block, get_or-block}
use Rattle.store.proofs.Parts.{width}
use Rattle.draft.specs.Open.{Shifted}

-- one image over another
pub image-copied : (l : List ℕ) (from to : ℕ)
    → copy_within l (512 * from) (512 * from + 512) (512 * to) ≡ set_block l to (block l from)
unfolding block set_block
image-copied l from to =
    ap (λ (n : ℕ). paste l (512 * to) (drop (512 * from) l) n) (width from)
    ∙ append_assoc (take (512 * to) l) (take 512 (drop (512 * from) l)) (drop (512 * to + 512) l)

same-block : (s t : List ℕ) (j k : ℕ) → 512 * j + 512 ≤ length s → 512 * k + 512 ≤ length t
    → ((i : ℕ) → i < 512 → get_or t (512 * k + i) 0 ≡ get_or s (512 * j + i) 0) → block t k ≡ block s j
same-block s t j k hs ht h =
    ext_get_or 0 (block t k) (block s j) (length-block t k ht ∙ sym (length-block s j hs)) (λ i hi.
    let l : i < 512 = omega (arith, length-block t k ht) in
    get_or-block t k i l ∙ h i l ∙ sym (get_or-block s j i l))

-- the images from place at up to n, one place up
pub images-shifted : (s t : List ℕ) (at n : ℕ) → at ≤ n → n < 8 → length s ≡ 4096 → length t ≡ 4096
    → SameBelow s t (512 * at + 512) → CopiedTo s t (512 * at) (512 * at + 512) (512 * n - 512 * at)
    → Shifted at n (block s) (block t)
images-shifted s t at n le few ls lt below copied =
    record {
      before =
          λ j h.
          same-block s t j j (omega arith) (omega arith) (λ i l. below (512 * j + i) 0 (omega arith));
      after =
          λ j h u.
          same-block s t j (j + 1) (omega arith) (omega arith) (λ i l.
          let e : 512 * at + (512 * (j + 1) + i - (512 * at + 512)) ≡ 512 * j + i = omega arith in
          copied (512 * (j + 1) + i) 0 (omega arith) (omega arith) ∙ ap (λ (m : ℕ). get_or s m 0) e);
    }

-- the numbers, one place up
pub numbers-shifted : (xs ys : List ℕ) (at n : ℕ) → at ≤ n → SameBelow xs ys (at + 1)
    → CopiedTo xs ys at (at + 1) (n - at) → Shifted at n (λ j. get_or xs j 0) (λ j. get_or ys j 0)
numbers-shifted xs ys at n le below copied =
    record {
      before = λ j h. below j 0 (omega arith);
      after =
          λ j h u.
          let e : at + (j + 1 - (at + 1)) ≡ j = omega arith in
          copied (j + 1) 0 (omega arith) (omega arith) ∙ ap (λ (m : ℕ). get_or xs m 0) e;
    }
