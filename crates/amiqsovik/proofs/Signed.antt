-- The bits of a 64-bit number with a sign are its two's complement.
use Rattle.std.proofs.Common.{◌≡◌, refl, w64, of_z}
use Rattle.std.specs.Prelude.{ℤ, pos, negsuc}
use Rattle.amiqsovik.specs.Result.{twos_complement}

pub bits-twos_complement : (z : ℤ) → of_z w64 z ≡ twos_complement z
bits-twos_complement (pos n) = refl
bits-twos_complement (negsuc n) = refl
