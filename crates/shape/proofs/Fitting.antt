-- Rule 3, case by case as the code goes.
use mathlib.Core.Path.{◌≡◌, refl, ap, ap₂, ◌∙◌}
use mathlib.Core.Logic.{◌≢◌}
use mathlib.Core.Bool.{Bool, true, false, cond, ◌&&◌, ◌||◌}
use mathlib.Core.List.{List}
use Prim.Native.Nat.{ℕ, zero, suc}
use native.Mathlib.Omega.{arith}
use borrow.Author.Tests.{ne_eqb}
use lib.Dec.{leb, eqb}
use Rattle.lists.specs.Block.{block}
use Rattle.address.specs.Address.{split_from}
use Rattle.address.specs.Role.{Role, bit_page, role_of}
use Rattle.address.specs.declared.BlockRole.{BlockRole}
use Rattle.address.specs.BlockRole.{role_case}
use Rattle.store.specs.Store.{bucket_at, flags_at, id_at}
use Rattle.image.specs.declared.Meta.{Meta}
use Rattle.image.specs.Decode.{max_at, role_at}
use Rattle.image.specs.Rules.{unused, unlinked, bucket_flags_ok, fits}
use Rattle.reader.specs.Known.{Known2}
use Rattle.reader.specs.KnownLaws.{max-is}
use Rattle.reader.specs.Roles.{as_role}
use Rattle.reader.specs.RolesLaws.{role-found}

-- ---- flags of a bucket page

module _ (max b : ℕ) where
  pub flags-populated : bucket_flags_ok max b 18 ≡ eqb b max
  flags-populated = go (eqb b max) (eqb b (split_from max))
    where
      go : (x y : Bool) → (x && true) || (y && false) ≡ x
      go true y = refl
      go false true = refl
      go false false = refl

  -- the bucket that a job splits has one of two flags
  pub flags-old : (f : ℕ) → bucket_flags_ok max b f ≡ (eqb b max && false) || (eqb b (split_from max) && true)
      → bucket_flags_ok max b f ≡ eqb b (split_from max)
  flags-old f e = e ∙ go (eqb b max) (eqb b (split_from max))
    where
      go : (x y : Bool) → (x && false) || (y && true) ≡ y
      go true true = refl
      go true false = refl
      go false true = refl
      go false false = refl

  pub flags-none : (f : ℕ) → f ≢ 2 → f ≢ 18 → (f ≡ 34 → ⊥) → (f ≡ 66 → ⊥) → bucket_flags_ok max b f ≡ false
  flags-none f a p q r =
      rw (ne_eqb f 2 a, ne_eqb f 18 p, ne_eqb f 34 q, ne_eqb f 66 r) (go (eqb b max) (eqb b (split_from max)))
    where
      go : (x y : Bool) → (x && false) || (y && false) ≡ false
      go true true = refl
      go true false = refl
      go false true = refl
      go false false = refl

-- ---- blocks of overflow bits

module _ (max : ℕ) (l : List ℕ) where
  pub fits-first : (n : ℕ) → n ≡ 0 → fits max (bit_page n) l ≡ unlinked 4 l
  unfolding fits
  fits-first zero e = refl
  fits-first (suc n) e = absurd (omega arith)

  pub fits-later : (n : ℕ) → n ≢ 0
      → fits max (bit_page n) l ≡ cond (eqb (flags_at l) 1) (eqb (id_at l) 0xFF80 && leb (bucket_at l) max) (unused l)
  unfolding fits
  fits-later zero e = absurd (e refl)
  fits-later (suc n) e = refl

-- ---- the role that the code finds

-- block k fits its role
abbrev pub fits_at : List ℕ → ℕ → Bool
fits_at s k = fits (max_at s) (role_at s k) (block s k)

module _ {s : List ℕ} {m : Meta} (known : Known2 s m) (k : ℕ) (r : BlockRole)
    (found : r ≡ role_case (role_of m.spares m.point k)) where
  pub fits-found : (l : List ℕ) → l ≡ block s k → fits m.max (as_role r) l ≡ fits_at s k
  fits-found l e =
      ap₂ (λ (n : ℕ) (x : Role). fits n x l) (max-is known) (role-found known k r found)
      ∙ ap (fits (max_at s) (role_at s k)) e
