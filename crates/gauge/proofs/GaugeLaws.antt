-- What the gauge shows of an index: the exact cases, and between which numbers it lies.
use Rattle.std.specs.Prelude.{◌≡◌, refl, true, false, List, ℕ, suc, ◌*◌, ◌<◌, negsuc, Float, Err}
use Rattle.std.proofs.Common.{ap, ap₂, ◌∙◌, arith}
use Rattle.std.specs.Float.{fin, binary64}
use Rattle.std.specs.Float.Ieee.{round, of_bits, le}
use Rattle.model.specs.declared.Refusal.{Refusal}
use Rattle.model.specs.Index.{Index}
use Rattle.model.specs.Held.{count}
use Rattle.model.specs.WellFormed.{Laid, WF}
use Rattle.outcomes.specs.Outcomes.{Tested, passed, failed, tested}
use Rattle.model.proofs.MachineLaws.{never}
use Rattle.gauge.specs.declared.Gauge.{Gauge}
use Rattle.gauge.specs.Gauge.{quotient, pages, gauge_of, zero64, zeros, gauge_on, gauge_outcome}
use Rattle.gauge.specs.PagesLaws.{pages-some, pages-few, count_room}
use Rattle.gauge.specs.QuotientLaws.{quotient_le, quotient-zero, quotient-pos}

-- 0.5
abbrev pub half : Float
half = fin false 1 (negsuc 0)

-- the bits of 0.5 and of +0
pub half-bits : half ≡ of_bits binary64 0x3fe0000000000000
unfolding of_bits
half-bits = refl

pub zero_bits : zero64 ≡ of_bits binary64 0
unfolding of_bits
zero_bits = refl

half-quotient : quotient 40 80 ≡ half
unfolding round
half-quotient = refl

-- "40 entries in two pages must show exactly 0.5"
pub half_full : (x : Index) → count x ≡ 40 → pages x ≡ 2 → (gauge_of x).per_page ≡ half
unfolding gauge_of
half_full x n p = ap₂ (λ (a k : ℕ). quotient a (40 * k)) n p ∙ half-quotient

-- "an empty store shows 0 twice"
pub empty-zero : (x : Index) → Laid x → count x ≡ 0 → gauge_of x ≡ zeros
unfolding gauge_of
empty-zero x l n =
    let buckets : quotient (count x) (suc x.max_bucket) ≡ zero64 =
    ap (λ (a : ℕ). quotient a (suc x.max_bucket)) n ∙ quotient-zero (suc x.max_bucket) (omega arith) in
    let room : quotient (count x) (40 * pages x) ≡ zero64 =
    ap (λ (a : ℕ). quotient a (40 * pages x)) n ∙ quotient-zero (40 * pages x) (omega (arith, pages-some x l)) in
    λ i. record { per_bucket = buckets i; per_page = room i }

-- Where the two numbers lie: neither below 0, the first at most 20,440, for which 1,024 blocks have room, and the
-- second at most 1. So neither is a NaN or an infinity.
pub record InRange (g : Gauge) : Type 0 where
  pub bucket_low : le zero64 g.per_bucket ≡ true
  pub bucket_high : le g.per_bucket (quotient 20440 1) ≡ true
  pub page_low : le zero64 g.per_page ≡ true
  pub page_high : le g.per_page (quotient 1 1) ≡ true

pub gauge-range : (x : Index) → WF x → InRange (gauge_of x)
unfolding gauge_of
gauge-range x w =
    let l = w.laid in
    let some : 0 < 40 * pages x = omega (arith, pages-some x l) in
    record {
      bucket_low = quotient-pos (count x) (suc x.max_bucket) (omega arith);
      bucket_high =
          quotient_le (count x) (suc x.max_bucket) 20440 1 (omega arith) (omega arith)
          (omega (arith, count_room x w, pages-few x l, l.size, l.two));
      page_low = quotient-pos (count x) (40 * pages x) some;
      page_high = quotient_le (count x) (40 * pages x) 1 1 some (omega arith) (omega (arith, count_room x w));
    }

-- "then both are 0"
pub refused-zero : (s : List ℕ) (r : Refusal) → (gauge_outcome s).answer ≡ Err r → (gauge_outcome s).gauge ≡ zeros
unfolding gauge_outcome
refused-zero s r e = go (tested true s) e
  where
    go : (t : Tested) → (gauge_on t).answer ≡ Err r → (gauge_on t).gauge ≡ zeros
    go (failed q) e = refl
    go (passed x) e = never (cc)
