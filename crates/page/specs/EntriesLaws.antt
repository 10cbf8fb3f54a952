-- The entries of a page's bytes: their number, each one, and their fields.
use Rattle.std.specs.Prelude.{◌≡◌, refl, List, ◌∷◌, length, get_or}
use Rattle.std.proofs.Common.{sym, ap, ◌∙◌, add-one, arith}
use Prim.Native.Nat.{ℕ, zero, suc, ◌+◌, ◌-◌, ◌*◌, ◌<◌}
use Rattle.lists.specs.Lists.{Each}
use Rattle.lists.specs.Bytes.{Bytes}
use Rattle.endian.specs.Endian.{u16_at}
use Rattle.endian.proofs.EndianLaws.{u16_at-lt, u32_at-lt}
use Rattle.page.specs.declared.Entry.{Entry}
use Rattle.page.specs.Pair.{PairFits}
use Rattle.page.specs.Entries.{read_entry, entry_at, entries_from, entries_of}

pub length-entries_from : (l : List ℕ) (k n : ℕ) → length (entries_from l k n) ≡ n
unfolding entries_from
length-entries_from l k zero = refl
length-entries_from l k (suc n) = ap suc (length-entries_from l (suc k) n)

pub length-entries_of : (l : List ℕ) → length (entries_of l) ≡ u16_at l 0
unfolding entries_of
length-entries_of l = length-entries_from l 0 (u16_at l 0)

pub get_or-entries_from : (l : List ℕ) (i n k : ℕ) (d : Entry) → k < n → get_or (entries_from l i n) k d ≡ entry_at l (i + k)
unfolding entries_from
get_or-entries_from l i zero k d h = absurd (omega arith)
get_or-entries_from l i (suc n) zero d h = let e : i ≡ i + 0 = omega arith in ap (entry_at l) e
get_or-entries_from l i (suc n) (suc k) d h =
    let e : suc i + k ≡ i + suc k = omega arith in
    get_or-entries_from l (suc i) n k d (omega arith) ∙ ap (entry_at l) e

pub get_or-entries_of : (l : List ℕ) (k : ℕ) (d : Entry) → k < u16_at l 0 → get_or (entries_of l) k d ≡ entry_at l k
unfolding entries_of
get_or-entries_of l k d h =
    let e : 0 + k ≡ k = omega arith in
    get_or-entries_from l 0 (u16_at l 0) k d h ∙ ap (entry_at l) e

-- the entries from slot i up to slot n, one of them taken apart
pub entries_from-cons : (l : List ℕ) (i n : ℕ) → i < n
    → entries_from l i (n - i) ≡ entry_at l i ∷ entries_from l (i + 1) (n - (i + 1))
unfolding entries_from
entries_from-cons l i n h =
    let m : n - i ≡ suc (n - (i + 1)) = omega arith in
    ap (entries_from l i) m ∙ ap (λ (k : ℕ). entry_at l i ∷ entries_from l k (n - (i + 1))) (sym (add-one i))

-- ---- entries read from bytes have fields of their widths

module _ (l : List ℕ) (bytes : Bytes l) where
  pub entry_at-fits : (k : ℕ) → PairFits (entry_at l k).pair
  unfolding entry_at read_entry
  entry_at-fits k =
      record {
        hash = u32_at-lt l bytes (4 + 12 * k);
        block = u32_at-lt l bytes (4 + 12 * k + 4);
        offset = u16_at-lt l bytes (4 + 12 * k + 8);
      }

  entries_from-fit : (k n : ℕ) → Each (λ (e : Entry). PairFits e.pair) (entries_from l k n)
  unfolding entries_from
  entries_from-fit k zero = tt
  entries_from-fit k (suc n) = (entry_at-fits k, entries_from-fit (suc k) n)

  pub entries_of-fit : Each (λ (e : Entry). PairFits e.pair) (entries_of l)
  unfolding entries_of
  entries_of-fit = entries_from-fit 0 (u16_at l 0)
