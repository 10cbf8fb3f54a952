-- What standing (docs/RULES.md 6.6) writes: 28 bytes, little-endian, and nothing when it is refused; what the gauge
-- (6.15) writes: two numbers, also when it is refused.
use Rattle.std.specs.Prelude.{Bool, true, false, List, [], ◌∷◌, ◌++◌, ℕ, suc, ◌-◌, ◌/◌, ◌%◌, ◌^◌, ltb, Float, ℤ, pos, negsuc, length, drop}
use Rattle.std.specs.Prelude.{Ok, Err}
use Rattle.endian.specs.Endian.{le32}
use Rattle.model.specs.declared.Standing.{Standing}
use Rattle.model.specs.Answers.{StandingAnswer, phase_no, phase_old, phase_new}
use Rattle.outcomes.specs.Outcomes.{standing_outcome}
use Rattle.gauge.specs.declared.Gauge.{Gauge}
use Rattle.amiqsovik.specs.Words.{standing_word, short_word}

-- two's complement in 64 bits: a number of at least zero is itself, and -(n + 1) is 2^64 - (n + 1)
abbrev pub twos_complement : ℤ → ℕ
twos_complement (pos n) = n
twos_complement (negsuc n) = 2 ^ 64 - suc n

-- the slack as eight bytes, the lowest first
unfoldable pub slack_bytes : ℤ → List ℕ
slack_bytes z = let n = twos_complement z in le32 (n % 4294967296) ++ le32 (n / 4294967296)

-- "count, buckets, the job's phase with its two bucket numbers, and the slack"
unfoldable pub standing_bytes : Standing → List ℕ
standing_bytes s =
    le32 s.count ++ le32 s.buckets ++ le32 (phase_no s.phase) ++ le32 (phase_old s.phase)
    ++ le32 (phase_new s.phase) ++ slack_bytes s.slack

-- the result afterwards: what stands, and later bytes stay; "Every refusal leaves store and output untouched"
abbrev pub shown : StandingAnswer → List ℕ → List ℕ
shown (Ok s) out = standing_bytes s ++ drop 28 out
shown (Err r) out = out

-- A word and the result slice afterwards.
pub record Told : Type 0 where
  pub word : ℕ
  pub result : List ℕ

-- A result of less than 28 bytes is refused before anything is looked at.
abbrev pub told_in : (short : Bool) → StandingAnswer → List ℕ → Told
told_in true a out = record { word = short_word; result = out }
told_in false a out = record { word = standing_word a; result = shown a out }

unfoldable pub standing_told : List ℕ → (result : List ℕ) → Told
standing_told s out = told_in (ltb (length out) 28) (standing_outcome s) out

-- ---- the gauge

-- "two binary64 numbers"
unfoldable pub gauge_numbers : Gauge → List Float
gauge_numbers g = g.per_bucket ∷ g.per_page ∷ []
