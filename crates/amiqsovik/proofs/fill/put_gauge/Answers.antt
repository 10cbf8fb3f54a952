use Rattle.std.proofs.Common.{◌≡◌, refl, List, [], ◌∷◌, length, slice_set, arith}
use Rattle.std.specs.Prelude.{Float}
use Rattle.amiqsovik.specs.Result.{gauge_numbers}
use Rattle.amiqsovik.proofs.fill.put_gauge.Goals as goal

-- both numbers of two are written
both : (l : List Float) (a b : Float) → length l ≡ 2 → slice_set (slice_set l 0 a) 1 b ≡ a ∷ b ∷ []
both [] a b e = absurd (omega (arith, e))
both (x ∷ []) a b e = absurd (omega (arith, e))
both (x ∷ y ∷ []) a b e = refl
both (x ∷ y ∷ z ∷ l) a b e = absurd (omega (arith, e))

pub returns : goal.returns
unfolding gauge_numbers
returns c = both c.args.numbers.now c.args.gauge.per_bucket c.args.gauge.per_page c.told-numbers
