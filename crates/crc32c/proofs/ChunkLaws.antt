-- Bytes that come in fours: a chunk of four at place n, and the bytes after it.
use Rattle.std.specs.Prelude.{◌≡◌, List, ◌++◌, ℕ, ◌+◌, ◌≤◌, length, drop}
use Rattle.std.proofs.Common.{sym, ap, ap₂, ◌∙◌, arith, add-zero, drop-drop, drop_at, length-append, length-drop}
use Rattle.lists.specs.Bytes.{Bytes}
use Rattle.endian.specs.Endian.{le32, u32_at}
use Rattle.endian.proofs.EndianLaws.{u32_at-drop, u32_at-front}
use Rattle.crc32c.specs.Crc.{crc_bytes}
use Rattle.crc32c.specs.FoursLaws.{crc_bytes-fours}

module _ (c : ℕ) (s x t : List ℕ) (n m : ℕ) where
  -- the chunk x, and t after it, stand at place n; m is the next place
  pub record Turn : Type 0 where
    pub inside : m ≤ length s
    pub place : t ≡ drop m s
    pub state : crc_bytes c (drop n s) ≡ crc_bytes (crc_bytes c (le32 (u32_at x 0))) (drop m s)

  pub chunk : Bytes s → drop n s ≡ x ++ t → length x ≡ 4 → m ≡ n + 4 → Turn
  chunk bytes e four next =
      let inside : n + 4 ≤ length s = omega (arith, length-drop n s, ap length e, length-append x t) in
      let number : u32_at s n ≡ u32_at x 0 =
      ap (u32_at s) (sym (add-zero n))
      ∙ sym (u32_at-drop n s 0)
      ∙ ap (λ (l : List ℕ). u32_at l 0) e
      ∙ u32_at-front x t 0 (omega arith) in
      record {
        inside = omega arith;
        place = sym (ap (λ (k : ℕ). drop k s) next ∙ sym (drop-drop 4 n s) ∙ ap (drop 4) e ∙ drop_at x t 4 four);
        state =
            crc_bytes-fours c s n inside bytes
            ∙ ap₂ (λ (w k : ℕ). crc_bytes (crc_bytes c (le32 w)) (drop k s)) number (sym next);
      }
