-- Free overflow bits: how the bits that stand in chains give the bitmap's bits and the first free one.
use Rattle.std.specs.Prelude.{◌≡◌, refl, Bool, true, false, not, ◌&&◌, ℕ, ◌≤◌, ◌<◌, ltb, eqb}
use Rattle.std.proofs.Common.{sym, ap, ◌∙◌, arith, le-ltb, ltb-true}
use Rattle.std.proofs.Math.Option.{Option, get_or}
use Rattle.lists.specs.Lists.{b2n, any, find, up_from}
use Rattle.lists.specs.RunLaws.{find-same}
use Rattle.model.specs.Index.{Index, top_bit}
use Rattle.model.specs.Pages.{bits_used, free_of, is_free, free_bit, first_free}
use Rattle.model.specs.WellFormed.{uses}
use Rattle.model.specs.TallyLaws.{tally-any}
use Rattle.image.specs.Layout.{map_bit}

-- the test of a free bit, where o says if the bit's block is an overflow page
pub free-same : (x : Index) (n : ℕ) (o : Bool) → (n < top_bit x → b2n o ≡ uses n x)
    → free_of (top_bit x) o n ≡ is_free x n
free-same x n o h = go (ltb 0 n) (ltb n (top_bit x)) refl
  where
    used : n < top_bit x → o ≡ any (eqb n) (bits_used x)
    used l = sym (tally-any (eqb n) (bits_used x) o (sym (h l)))

    go : (a b : Bool) → ltb n (top_bit x) ≡ b → a && (b && not o) ≡ a && (b && not (any (eqb n) (bits_used x)))
    go true true q = ap not (used (ltb-true n (top_bit x) q))
    go true false q = refl
    go false b q = refl

-- a 0 bit is a free one
zero-free : (x : Index) (n : ℕ) → eqb (map_bit x n) 0 ≡ is_free x n
zero-free x n = go (is_free x n)
  where
    go : (b : Bool) → eqb (b2n (not b)) 0 ≡ b
    go true = refl
    go false = refl

-- "first free is the lowest 0 bit or, without one, spares[s]"
pub first-zero : (x : Index) (bit : ℕ → ℕ) → top_bit x ≤ 2048 → ((n : ℕ) → n < 2048 → bit n ≡ map_bit x n)
    → get_or (find (λ n. eqb (bit n) 0) (up_from 0 2048)) (top_bit x) ≡ first_free x
unfolding first_free free_bit
first-zero x bit h same =
    ap (λ (o : Option ℕ). get_or o (top_bit x))
    (find-same (λ n. eqb (bit n) 0) (is_free x) 0 (top_bit x) 2048 h (λ k l g. at k (omega arith))
    (λ k l g. at k (omega arith) ∙ past k (omega arith)))
  where
    at : (n : ℕ) → n < 2048 → eqb (bit n) 0 ≡ is_free x n
    at n h = ap (λ (b : ℕ). eqb b 0) (same n h) ∙ zero-free x n

    past : (n : ℕ) → top_bit x ≤ n → is_free x n ≡ false
    past n l = go (ltb 0 n)
      where
        go : (b : Bool) → b && (ltb n (top_bit x) && not (any (eqb n) (bits_used x))) ≡ false
        go true = rw (le-ltb n (top_bit x) l)
        go false = refl
