use Rattle.std.proofs.Common.{ℕ, List, [], sym, arith, drop_of_length-le}
use Rattle.address.specs.LimitLaws.{buckets-sixteen}
use Rattle.vectors.specs.Rest.{RestOf}
use Rattle.vectors.proofs.Fits.{bucket-fits}
use Rattle.vectors.proofs.show.show_buckets.Goals as goal

-- all is taken
none-left : (line : List ℕ) → RestOf [] line
none-left line = record { upto = omega arith; left = sym (drop_of_length-le line (omega arith)) }

pub returns-then-bucket-ge-PLACED_BUCKETS : goal.returns-then-bucket-ge-PLACED_BUCKETS
returns-then-bucket-ge-PLACED_BUCKETS g c = none-left _

pub bucket_block-block-requires : goal.bucket_block-block-requires
bucket_block-block-requires g c = (omega (arith, buckets-sixteen), bucket-fits _ _ c.requires c.in-Some.ensures.0)
