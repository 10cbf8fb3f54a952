-- The lowest free bit of a store's bitmap: the page that is taken, and first free afterwards.
use Rattle.std.specs.Prelude.{◌≡◌, Bool, true, false, cond, not, List, ℕ, ◌*◌, ◌/◌, ◌%◌, ◌^◌, ◌<◌, length, get_or, set, Some, None}
use Rattle.std.proofs.Math.Path.{refl, ap}
use Rattle.std.proofs.Common.{sym, ◌∙◌, arith}
use Rattle.std.proofs.Math.Option
use Rattle.std.proofs.Math.Option.{Option, none, some}
use Rattle.std.proofs.Math.Decide.{ℕ_discrete}
use Rattle.std.proofs.Math.Dec.{eqb}
use Rattle.std.specs.Int.Bits.{bit_or}
use Rattle.lists.specs.Lists.{b2n, find, up_from}
use Rattle.lists.specs.ListsLaws.{eqb_yes, eqb_no}
use Rattle.model.specs.Index.{Index, top_bit}
use Rattle.model.specs.Pages.{free_bit, first_free, is_free}
use Rattle.model.specs.WellFormed.{Laid}
use Rattle.model.proofs.LaidLaws.{free-bit}
use Rattle.image.specs.Layout.{map_front, map_bit}
use Rattle.image.specs.Decode.{bit_of}
use Rattle.image.specs.BitmapLaws.{bit_of-map_front}
use Rattle.image.proofs.BoundLaws.{top_small}
use Rattle.image.proofs.EncodeLaws.{map_bit-lt}
use Rattle.image.specs.FreeLaws.{first-zero}
use Rattle.frame.specs.ChainLaws.{Free, free-yes}
use Rattle.chain.specs.Bitmap.{free_as, lowest_free, free_or}
use Rattle.chain.specs.BitmapLaws.{lowest_free-bit}
use Rattle.draft.specs.Bits.{put_bit}
use Rattle.draft.specs.BitLaws.{one_byte, bit_of-same, bit_of-other}
use Rattle.plan.specs.Shape.{Shaped}

-- the bits of a bitmap block
pub bits-shaped : {l : List ℕ} {prev next bucket flags : ℕ} (x : Index)
    → Shaped l (map_front (map_bit x)) prev next bucket flags
    → (n : ℕ) → n < 2048 → bit_of l n ≡ map_bit x n
bits-shaped x h n u = ap (λ (b : List ℕ). bit_of b n) h.whole ∙ bit_of-map_front (map_bit x) (map_bit-lt x) _ n u

-- the byte of bit n with the bit put
pub put_byte : (l map : List ℕ) (n : ℕ) → l ≡ map
    → set l (n / 8) (bit_or (get_or l (n / 8) 0) (1 * 2 ^ (n % 8) % 256)) ≡ put_bit map n true
unfolding put_bit
put_byte l map n e = rw (one_byte (n % 8) (omega arith), e)

-- after bit n is put
pub bits_put : (l : List ℕ) (bit : ℕ → ℕ) (n : ℕ) → n < 2048 → length l ≡ 512
    → ((m : ℕ) → m < 2048 → bit_of l m ≡ bit m)
    → (m : ℕ) → m < 2048 → bit_of (put_bit l n true) m ≡ cond (eqb m n) 1 (bit m)
bits_put l bit n small full same m u = go (ℕ_discrete m n)
  where
    go : Dec (m ≡ n) → bit_of (put_bit l n true) m ≡ cond (eqb m n) 1 (bit m)
    go (yes q) = rw (q, eqb_yes n n refl) (bit_of-same l n true (omega arith))
    go (no q) = rw (eqb_no m n q) (bit_of-other l n true (omega arith) m q ∙ same m u)

module _ (x : Index) (laid : Laid x) (l : List ℕ) (same : (n : ℕ) → n < 2048 → bit_of l n ≡ map_bit x n) where
  -- "first free is the lowest 0 bit or, without one, spares[s]"
  pub first_read : free_or (top_bit x) (lowest_free l) ≡ first_free x
  unfolding lowest_free
  first_read =
      go (find (λ n. eqb (bit_of l n) 0) (up_from 0 2048))
      ∙ first-zero x (bit_of l) (omega (arith, top_small x laid)) same
    where
      go : (o : Option ℕ) → free_or (top_bit x) (free_as o) ≡ Option.get_or o (top_bit x)
      go none = refl
      go (some n) = refl

  zero-free : (b : Bool) → b2n (not b) ≡ 0 → b ≡ true
  zero-free true e = refl
  zero-free false e = absurd (omega arith)

  -- the lowest 0 bit is the page to take
  pub free-read : (n : ℕ) → lowest_free l ≡ Some n → (free_bit x ≡ some n) × Free x n
  unfolding first_free
  free-read n e =
      let b = lowest_free-bit l n e in
      let f : Free x n = free-yes x n (zero-free (is_free x n) (sym (same n b.inside) ∙ b.free)) in
      (go (free_bit x) (sym first_read ∙ ap (free_or (top_bit x)) e) f.1, f)
    where
      go : (o : Option ℕ) → Option.get_or o (top_bit x) ≡ n → n < top_bit x → o ≡ some n
      go none q h = absurd (omega arith)
      go (some k) q h = ap some q

  pub none_read : lowest_free l ≡ None → free_bit x ≡ none
  unfolding first_free
  none_read e = go (free_bit x) refl (sym first_read ∙ ap (free_or (top_bit x)) e)
    where
      go : (o : Option ℕ) → free_bit x ≡ o → Option.get_or o (top_bit x) ≡ top_bit x → o ≡ none
      go none q h = refl
      go (some k) q h = absurd (omega (arith, (free-bit x k q).2))
