-- The role that the code finds, and overflow pages among the roles.
use Rattle.std.specs.Prelude.{◌≡◌, refl, ◌≢◌, false, List, ℕ, zero, suc, ◌<◌, eqb}
use Rattle.std.proofs.Common.{sym, ap, subst, ◌∙◌, arith}
use Rattle.lists.specs.Block.{blocks, block}
use Rattle.address.specs.Role.{Role, meta, bucket_page, bit_page, unmade, role_of, RoleIs}
use Rattle.address.specs.declared.BlockRole.{BlockRole}
use Rattle.address.specs.BlockRole.{role_case}
use Rattle.store.specs.Store.{flags_at}
use Rattle.image.specs.declared.Meta.{Meta}
use Rattle.image.specs.Decode.{point_at, spares_at, role_at}
use Rattle.image.specs.Rules.{overflow_as, is_overflow}
use Rattle.reader.specs.Known.{Known2}
use Rattle.reader.specs.KnownLaws.{role-is, role-at, bit-inside}
use Rattle.reader.specs.Roles.{as_role}

pub as_role-case : (r : Role) → as_role (role_case r) ≡ r
as_role-case meta = refl
as_role-case (bucket_page b) = refl
as_role-case (bit_page n) = refl
as_role-case unmade = refl

-- ---- overflow bits

pub overflow-first : (l : List ℕ) (n : ℕ) → n ≡ 0 → overflow_as (bit_page n) l ≡ false
unfolding overflow_as
overflow-first l zero e = refl
overflow-first l (suc n) e = absurd (omega arith)

pub overflow-later : (l : List ℕ) (n : ℕ) → n ≢ 0 → overflow_as (bit_page n) l ≡ eqb (flags_at l) 1
unfolding overflow_as
overflow-later l zero e = absurd (e refl)
overflow-later l (suc n) e = refl

-- ---- in a store

module _ {s : List ℕ} {m : Meta} (known : Known2 s m) (k : ℕ) (r : BlockRole)
    (found : r ≡ role_case (role_of m.spares m.point k)) where
  pub role-found : as_role r ≡ role_at s k
  role-found = ap as_role found ∙ as_role-case (role_of m.spares m.point k) ∙ role-is known k

  pub overflow-found : (q : BlockRole) → r ≡ q → is_overflow s k ≡ overflow_as (as_role q) (block s k)
  overflow-found q e = ap (λ (x : Role). overflow_as x (block s k)) (sym role-found ∙ ap as_role e)

  pub bit_found : (n : ℕ) → r ≡ BlockRole.Bit n → k < blocks s
  bit_found n e =
      let at : role_at s k ≡ bit_page n = sym role-found ∙ ap as_role e in
      let is : RoleIs (spares_at s) (point_at s) k (bit_page n) =
      subst (RoleIs (spares_at s) (point_at s) k) at (role-at known k) in
      subst (λ (j : ℕ). j < blocks s) is.1 (bit-inside known n is.0)
