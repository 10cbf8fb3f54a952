-- The pages that stand in chains: each bucket's own, and one for each overflow bit that is made and 1, but bit 0.
use Rattle.std.specs.Prelude.{◌≡◌, Bool, true, false, List, [], ◌∷◌, ℕ, zero, suc, ◌+◌, ◌*◌, ◌≤◌, ◌<◌, length}
use Rattle.std.proofs.Math.Path.{refl, sym, ap}
use Rattle.std.proofs.Common.{◌∙◌, arith, lt-ltb, length-append}
use Rattle.std.proofs.Math.Bool.{not}
use Rattle.std.proofs.Math.Decide.{dec_le}
use Rattle.std.proofs.Math.Dec.{eqb}
use Rattle.std.proofs.lemmas.List.{length-map}
use Rattle.lists.specs.Lists.{b2n, any, tally, bind, Each, up_from}
use Rattle.lists.specs.ListsLaws.{eqb_yes, any-no, any-yes}
use Rattle.model.specs.Index.{Page, Chain, Index, top_bit}
use Rattle.model.specs.Held.{count}
use Rattle.model.specs.Pages.{bits_of, bits_used, is_free}
use Rattle.model.specs.WellFormed.{uses, Laid, WF}
use Rattle.model.proofs.LaidLaws.{top_one}
use Rattle.model.proofs.BoundLaws.{laid-room, bits-le, count-pages}
use Rattle.image.specs.declared.Meta.{Meta}
use Rattle.image.specs.Layout.{map_bit}
use Rattle.image.specs.Decode.{decode}
use Rattle.image.specs.Rules.{map_at, bit_at, top_at}
use Rattle.image.proofs.BoundLaws.{top_small}
use Rattle.image.proofs.EncodeBitmapLaws.{bit-encode}
use Rattle.shape.specs.SumLaws.{sum, sum-tally, sum-length}
use Rattle.view.specs.Reads.{Reads}
use Rattle.view.specs.ReadsLaws.{reads-laid}
use Rattle.gauge.specs.Gauge.{pages_in, pages}
use Rattle.gauge.specs.Ones.{ones_in}

-- ---- sums over a run of numbers

sum_first : (f : ℕ → ℕ) (n : ℕ) → sum f 0 (suc n) ≡ f 0 + sum f 1 n
unfolding sum
sum_first f n = refl

sum_same : (f g : ℕ → ℕ) (i n : ℕ) → ((k : ℕ) → i ≤ k → k < i + n → f k ≡ g k) → sum f i n ≡ sum g i n
unfolding sum
sum_same f g i zero h = refl
sum_same f g i (suc n) h =
    omega (
      arith,
      h i (omega arith) (omega arith),
      sum_same f g (suc i) n (λ k l m. h k (omega arith) (omega arith)),
    )

-- what holds of every number that stands in a list holds of each of its elements
each_stands : (P : ℕ → Type 0) (ns : List ℕ) → ((n : ℕ) → 1 ≤ tally (eqb n) ns → P n) → Each P ns
each_stands P [] h = tt
each_stands P (k ∷ ns) h = (
  h k (omega (arith, ap b2n (eqb_yes k k refl))),
  each_stands P ns (λ n l. h n (omega (arith, l))),
)

-- ---- pages and overflow bits

pages-parts : (cs : List Chain) → pages_in cs ≡ length cs + length (bind cs bits_of)
pages-parts [] = refl
pages-parts (c ∷ cs) =
    simp length-append (omega (arith, length-map c.more (λ (g : Page). g.bit), pages-parts cs))

pub pages-used : (x : Index) → pages x ≡ length x.chains + length (bits_used x)
unfolding pages
pages-used x = pages-parts x.chains

module _ (x : Index) (l : Laid x) where
  -- a made bit is 1 exactly if it stands in a chain
  bit-used : (n : ℕ) → 1 ≤ n → n < top_bit x → b2n (not (is_free x n)) ≡ uses n x
  bit-used n some made =
      rw (lt-ltb 0 n some, lt-ltb n (top_bit x) made) (go (any (eqb n) (bits_used x)) refl)
    where
      go : (b : Bool) → any (eqb n) (bits_used x) ≡ b → b2n (not (not b)) ≡ uses n x
      go true e = omega (arith, any-yes (eqb n) (bits_used x) e, l.once n)
      go false e = omega (arith, any-no (eqb n) (bits_used x) e)

  -- the bitmap's own bit stands in none
  bit-none : uses 0 x ≡ 0
  bit-none = go (dec_le 1 (uses 0 x))
    where
      go : Dec (1 ≤ uses 0 x) → uses 0 x ≡ 0
      go (yes h) = absurd (omega (arith, (l.made 0 h).0))
      go (no h) = omega arith

  -- the made bits that are 1
  ones-used : tally (λ n. not (is_free x n)) (up_from 0 (top_bit x)) ≡ suc (length (bits_used x))
  ones-used = sym (sum-tally (λ n. not (is_free x n)) 0 (top_bit x)) ∙ go (top_bit x) refl
    where
      go : (t : ℕ) → top_bit x ≡ t → sum (λ n. b2n (not (is_free x n))) 0 t ≡ suc (length (bits_used x))
      go zero e = absurd (omega (arith, top_one x l, e))
      go (suc t) e =
          omega (
            arith,
            bit-none,
            sum_first (λ n. b2n (not (is_free x n))) t,
            sum_first (λ n. tally (eqb n) (bits_used x)) t,
            sum_same (λ n. b2n (not (is_free x n))) (λ n. tally (eqb n) (bits_used x)) 1 t
                (λ n i j. bit-used n i (omega (arith, e, j))),
            sum-length (suc t) (bits_used x)
                (each_stands (λ n. n < suc t) (bits_used x) (λ n h. omega (arith, e, (l.made n h).1))),
          )

  -- the number that the code works out
  pub pages-ones : pages x ≡ x.max_bucket + tally (λ n. not (is_free x n)) (up_from 0 (top_bit x))
  pages-ones = omega (arith, pages-used x, l.whole, ones-used)

  pub pages-some : 2 ≤ pages x
  pages-some = omega (arith, pages-used x, l.whole, l.two)

  -- meta and bitmap are none of them
  pub pages-few : pages x + 2 ≤ x.size
  pages-few = omega (arith, pages-used x, l.whole, bits-le x l, laid-room x l)

-- forty entries a page
pub count_room : (x : Index) → WF x → count x ≤ 40 * pages x
count_room x w = omega (arith, count-pages x w, pages-used x)

-- ---- as they stand in a store

bit-one : (b : Bool) → eqb (b2n b) 1 ≡ b
bit-one true = refl
bit-one false = refl

module _ {s : List ℕ} {m : Meta} (r : Reads s m) where
  bit-read : (n : ℕ) → n < 2048 → bit_at s n ≡ map_bit (decode s) n
  bit-read n h = ap (λ (t : List ℕ). bit_at t n) r.bytes ∙ bit-encode (decode s) r.wf n h

  pub top_read : top_at s ≡ top_bit (decode s)
  unfolding decode
  top_read = refl

  pub ones-read : ones_in (map_at s) (top_at s) ≡ tally (λ n. not (is_free (decode s) n)) (up_from 0 (top_bit (decode s)))
  unfolding ones_in
  ones-read =
      ap (λ (t : ℕ). tally (λ n. eqb (bit_at s n) 1) (up_from 0 t)) top_read
      ∙ sym (sum-tally (λ n. eqb (bit_at s n) 1) 0 (top_bit (decode s)))
      ∙ sum_same (λ n. b2n (eqb (bit_at s n) 1)) (λ n. b2n (not (is_free (decode s) n))) 0 (top_bit (decode s)) one
      ∙ sum-tally (λ n. not (is_free (decode s) n)) 0 (top_bit (decode s))
    where
      one : (n : ℕ) → 0 ≤ n → n < 0 + top_bit (decode s)
          → b2n (eqb (bit_at s n) 1) ≡ b2n (not (is_free (decode s) n))
      one n i j =
          ap b2n
          (ap (λ (b : ℕ). eqb b 1) (bit-read n (omega (arith, j, top_small (decode s) (reads-laid r))))
          ∙ bit-one (not (is_free (decode s) n)))
