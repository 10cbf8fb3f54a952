-- Differences of numbers in 64 bits with a sign.
use mathlib.Core.Path.{◌≡◌, refl, ap, ap₂, ◌∙◌}
use mathlib.Core.Bool.{Bool, true, false, cond}
use Prim.Native.Nat.{ℕ, zero, suc, ◌-◌, ◌^◌, ◌<◌}
use native.Mathlib.Omega.{arith}
use borrow.Author.Tests.{le-ltb}
use lib.Dec.{ltb}
use lib.IntN.{pos, negsuc, sub_ℕ, ◌-ℤ◌}
use lib.Signed.{mag}
use mir.Syntax.{w64}
use mir.Val.{SFits, to_z}
use mir.ValLaws.{to_z_pos}

pos-sub : (a b : ℕ) → pos a -ℤ pos b ≡ sub_ℕ a b
pos-sub a zero = rw (le-ltb a 0 (omega arith)) (ap pos (omega arith))
pos-sub a (suc b) = refl

module _ (a b : ℕ) (ha : a < 2 ^ 63) (hb : b < 2 ^ 63) where
  pub sub_is : to_z w64 a -ℤ to_z w64 b ≡ sub_ℕ a b
  sub_is = ap₂ ◌-ℤ◌ (to_z_pos w64 a ha) (to_z_pos w64 b hb) ∙ pos-sub a b

  small : (t : Bool) → ltb a b ≡ t → mag (cond t (negsuc (b - suc a)) (pos (a - b))) < 2 ^ 63
  small true e = omega arith
  small false e = omega arith

  pub sub-fits : SFits w64 (to_z w64 a -ℤ to_z w64 b)
  sub-fits = rw sub_is (record { sfits = small (ltb a b) refl })
