-- Where things stood before request 2026-09, when every group was laid out whole. The sentences are document 01's own.
use Rattle.std.specs.Prelude.{◌≡◌, List, ℕ, zero, suc, pred, ◌+◌, ◌^◌, ◌≤◌, eqb, get_or}
use Rattle.lists.specs.Lists.{find, up_from}
use Rattle.address.specs.Address.{first_over, power, point, bucket_block, bit_point, bit_block, made}
use Rattle.address.specs.Role.{Role, role_from, role_of}

-- "Overflow point s is the smallest s of at least 1 with 2^s at least max bucket + 1."
unfoldable pub point_before : ℕ → ℕ
point_before m = first_over power m 1 m

-- "Bucket b: block 1 for b = 0; otherwise b + spares[g - 1] + 1, g the smallest with 2^g at least b + 1"
unfoldable pub bucket_before : List ℕ → ℕ → ℕ
bucket_before sp zero = 1
bucket_before sp (suc b) = suc b + get_or sp (pred (first_over power (suc b) 0 (suc b))) 0 + 1

-- "Overflow bit n: block 2^i + n + 1, i the smallest from 1 to s with n + 1 at most spares[i], or s."
unfoldable pub bit_before : List ℕ → (s n : ℕ) → ℕ
bit_before sp s n = 2 ^ bit_point sp n 1 (pred s) + n + 1

-- "Made blocks: 2^s + spares[s] + 1."
unfoldable pub made_before : List ℕ → ℕ → ℕ
made_before sp s = 2 ^ s + get_or sp s 0 + 1

-- block k's role, among these buckets and bits
unfoldable pub role_before : List ℕ → (s k : ℕ) → Role
role_before sp s k =
    role_from (eqb k 0)
    (find (λ b. eqb (bucket_before sp b) k) (up_from 0 (2 ^ s)))
    (find (λ n. eqb (bit_before sp s n) k) (up_from 0 (get_or sp s 0)))

-- by max bucket m and spares sp, every address is what it was
pub record AsBefore (m : ℕ) (sp : List ℕ) : Type 0 where
  pub points : point m ≡ point_before m
  pub blocks : made sp (point m) ≡ made_before sp (point_before m)
  pub roles : (k : ℕ) → role_of sp (point m) k ≡ role_before sp (point_before m) k
  pub buckets : (b : ℕ) → b ≤ m → bucket_block sp b ≡ bucket_before sp b
  pub bits : (n : ℕ) → bit_block sp (point m) n ≡ bit_before sp (point_before m) n
