-- The first spares of a store, 0 and 1, for max bucket 1: overflow point 1, the roles of the four made blocks.
use Rattle.std.specs.Prelude.{◌≡◌, refl, [], ◌∷◌, ℕ, zero, suc, ◌≤◌, ◌<◌, get_or}
use Rattle.std.proofs.Common.{ap, ◌∙◌, arith}
use Rattle.address.specs.Address.{buckets_at, point, bucket_point, bucket_block, bit_block, made}
use Rattle.address.specs.Role.{SparesOk, Role, bucket_page, bit_page, unmade, role_of}
use Rattle.address.specs.RoleLaws.{role-only}

pub point-first : point 1 ≡ 1
unfolding point buckets_at
point-first = refl

pub made-first : made (0 ∷ 1 ∷ []) 1 ≡ 4
unfolding made buckets_at
made-first = refl

pub spares-first : SparesOk (0 ∷ 1 ∷ []) 1 4
spares-first =
    record { points = refl; zeroth = refl; rising = rising; bitmap = omega arith; room = omega (arith, made-first) }
  where
    rising : (i : ℕ) → i < 1 → get_or (0 ∷ 1 ∷ []) i 0 ≤ get_or (0 ∷ 1 ∷ []) (suc i) 0
    rising zero h = omega arith
    rising (suc i) h = absurd (omega arith)

-- ---- roles

at_first : (k : ℕ) (r : Role) → role_of (0 ∷ 1 ∷ []) 1 k ≡ r → role_of (0 ∷ 1 ∷ []) (point 1) k ≡ r
at_first k r e = ap (λ (s : ℕ). role_of (0 ∷ 1 ∷ []) s k) point-first ∙ e

pub role-first : role_of (0 ∷ 1 ∷ []) (point 1) 1 ≡ bucket_page 0
unfolding role_of buckets_at bucket_block
role-first = at_first 1 (bucket_page 0) refl

pub role-second : role_of (0 ∷ 1 ∷ []) (point 1) 2 ≡ bucket_page 1
unfolding role_of buckets_at bucket_point bucket_block
role-second = at_first 2 (bucket_page 1) refl

pub role-bitmap : role_of (0 ∷ 1 ∷ []) (point 1) 3 ≡ bit_page 0
unfolding role_of buckets_at bucket_point bucket_block bit_block
role-bitmap = at_first 3 (bit_page 0) refl

pub role-past : (k : ℕ) → 4 ≤ k → role_of (0 ∷ 1 ∷ []) (point 1) k ≡ unmade
role-past k h =
    at_first k unmade
    (role-only (0 ∷ 1 ∷ []) 1 4 spares-first (omega arith) k unmade (omega (arith, made-first)))
