-- The limits of a store (docs/RULES.md 2.1: "N outside 4..1024"), by name. The code's largest N is in src/limits.rt;
-- LimitLaws computes what follows from the numbers.
use Rattle.std.specs.Prelude.{ℕ}

-- the largest N of a store
abbrev pub max_blocks : ℕ
max_blocks = 1024

-- the point with that many buckets in all: the overflow point of a store is below it
abbrev pub point_bound : ℕ
point_bound = 13
