-- The fill gauge, docs/RULES.md 6.15: "one record of two binary64 numbers: held entries divided by buckets, and held
-- entries divided by 40 times the pages that stand in chains".
use Rattle.std.specs.Prelude.{true, false, List, [], ◌∷◌, ℕ, suc, ◌+◌, ◌*◌, pos, Float, Ok, Err}
use Rattle.std.specs.Float.{fin, binary64}
use Rattle.std.specs.Float.Ieee.{round}
use Rattle.model.specs.Index.{Chain, Index}
use Rattle.model.specs.Held.{count}
use Rattle.model.specs.Squeeze.{pages_of}
use Rattle.outcomes.specs.Outcomes.{Tested, passed, failed, tested}
use Rattle.gauge.specs.declared.Gauge.{Gauge}
use Rattle.gauge.specs.declared.GaugeAnswer.{GaugeAnswer}

-- a / b, for b above 0: "the quotient of two whole numbers, rounded once to binary64"
abbrev pub quotient : (a b : ℕ) → Float
quotient a b = round binary64 false a b

-- of each chain the bucket page, empty or not, and the overflow pages
abbrev pub pages_in : List Chain → ℕ
pages_in [] = 0
pages_in (c ∷ cs) = pages_of c + pages_in cs

-- "the pages that stand in chains"
unfoldable pub pages : Index → ℕ
pages x = pages_in x.chains

unfoldable pub gauge_of : Index → Gauge
gauge_of x =
    record {
      per_bucket = quotient (count x) (suc x.max_bucket);
      per_page = quotient (count x) (40 * pages x);
    }

-- +0
abbrev pub zero64 : Float
zero64 = fin false 0 (pos 0)

abbrev pub zeros : Gauge
zeros = record { per_bucket = zero64; per_page = zero64 }

abbrev pub shows : Gauge → GaugeAnswer
shows g = record { answer = Ok tt; gauge = g }

-- "Refusals 1, 3 and 4 as everywhere; then both are 0."
abbrev pub gauge_on : Tested → GaugeAnswer
gauge_on (failed r) = record { answer = Err r; gauge = zeros }
gauge_on (passed x) = shows (gauge_of x)

unfoldable pub gauge_outcome : List ℕ → GaugeAnswer
gauge_outcome s = gauge_on (tested true s)
