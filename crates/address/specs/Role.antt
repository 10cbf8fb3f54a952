-- Whose block each block is, by the spares sp and the overflow point s (docs/RULES.md 4.4 to 4.6, 5.2).
use Rattle.std.specs.Prelude.{Bool, true, false, List, ℕ, suc, ◌≤◌, ◌<◌, ◌≡◌, eqb, length, get_or}
use Rattle.std.proofs.Math.Option.{Option, none, some}
use Rattle.lists.specs.Lists.{find, up_from}
use Rattle.address.specs.Address.{buckets_at, bucket_block, bit_block, made}

-- "spares[0] zero, spares[1..s] at least 1 and not falling .. made blocks at most N"
pub record SparesOk (sp : List ℕ) (s n : ℕ) : Type 0 where
  pub points : length sp ≡ suc s
  pub zeroth : get_or sp 0 0 ≡ 0
  pub rising : (i : ℕ) → i < s → get_or sp i 0 ≤ get_or sp (suc i) 0
  pub bitmap : 1 ≤ get_or sp 1 0
  pub room : made sp s ≤ n

-- the meta block, the page of a bucket, an overflow bit's block, or not yet made
pub data Role : Type 0 where
  meta : Role
  bucket_page : ℕ → Role
  bit_page : ℕ → Role
  unmade : Role

abbrev pub role_from : Bool → (bucket bit : Option ℕ) → Role
role_from true bucket bit = meta
role_from false (some b) bit = bucket_page b
role_from false none (some n) = bit_page n
role_from false none none = unmade

-- block k's role, among the buckets in all at point s and the overflow bits that are made
unfoldable pub role_of : List ℕ → (s k : ℕ) → Role
role_of sp s k =
    role_from (eqb k 0)
    (find (λ b. eqb (bucket_block sp b) k) (up_from 0 (buckets_at s)))
    (find (λ n. eqb (bit_block sp s n) k) (up_from 0 (get_or sp s 0)))

module _ (sp : List ℕ) (s : ℕ) where
  -- what it is for block k to have a role
  abbrev pub RoleIs : ℕ → Role → Type 0
  RoleIs k meta = k ≡ 0
  RoleIs k (bucket_page b) = (b < buckets_at s) × (bucket_block sp b ≡ k)
  RoleIs k (bit_page m) = (m < get_or sp s 0) × (bit_block sp s m ≡ k)
  RoleIs k unmade = made sp s ≤ k
