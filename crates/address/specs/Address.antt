-- docs/RULES.md 4, "Where things stand": buckets of hash codes, and blocks of buckets and overflow bits, by max bucket
-- m, spares sp and overflow point s.
use Rattle.std.specs.Prelude.{true, false, cond, ◌&&◌, ◌||◌, List, ℕ, zero, suc, pred, ◌+◌, ◌-◌, ◌*◌, ◌/◌, ◌%◌, ◌^◌, leb, ltb, eqb, get_or}

-- the smallest j of at least k with n below f j, looked for in `fuel` places
abbrev pub first_over : (ℕ → ℕ) → (fuel k n : ℕ) → ℕ
first_over f zero k n = k
first_over f (suc fuel) k n = elim (ltb n (f k)) [ true ↦ k | false ↦ first_over f fuel (suc k) n ]

abbrev pub power : ℕ → ℕ
power j = 2 ^ j

-- the buckets in all with the phases 0 to p of group g: "group g goes from 2^(g - 1) buckets in all to 2^g, and each of
-- its phases brings 2^(g - 3)"
abbrev pub phased : (g p : ℕ) → ℕ
phased g p = 2 ^ (g - 1) + suc p * 2 ^ (g - 3)

-- "The buckets in all at point i are 2^i up to point 9 .. Groups from 10 on are laid out in four equal phases, and
-- there a point is a phase"
unfoldable pub buckets_at : ℕ → ℕ
buckets_at i = cond (ltb i 10) (2 ^ i) (phased (10 + (i - 10) / 4) ((i - 10) % 4))

-- ---- the bucket of a hash code

-- the number of binary digits of the high mask
unfoldable pub mask_digits : ℕ → ℕ
mask_digits m = first_over power m 2 m

-- "High mask is the smallest of 3, 7, 15, .. that is at least max bucket"
unfoldable pub high_mask : ℕ → ℕ
high_mask m = 2 ^ mask_digits m - 1

-- "low mask is half of it, rounded down"
unfoldable pub low_mask : ℕ → ℕ
low_mask m = high_mask m / 2

-- "h AND high mask; if above max bucket, h AND low mask": with masks of this form AND is a remainder
unfoldable pub bucket_of : ℕ → ℕ → ℕ
bucket_of m h = let b = h % (high_mask m + 1) in cond (leb b m) b (h % (low_mask m + 1))

-- the number of binary digits
unfoldable pub bit_length : ℕ → ℕ
bit_length n = first_over power n 0 n

-- "Bucket m splits off from m less its highest one bit."
unfoldable pub split_from : ℕ → ℕ
split_from m = m - 2 ^ pred (bit_length m)

-- "the highest m from 2 to max bucket with m = b or m split off from b; 1 if none"
unfoldable pub last_split : (max b : ℕ) → ℕ
last_split zero b = 1
last_split (suc m) b = cond (ltb 0 m && (eqb (suc m) b || eqb (split_from (suc m)) b)) (suc m) (last_split m b)

-- ---- blocks

-- "the smallest s of at least 1 with at least max bucket + 1 buckets in all"
unfoldable pub point : ℕ → ℕ
point m = first_over buckets_at m 1 m

-- "g the smallest point with at least b + 1 buckets in all"
unfoldable pub bucket_point : ℕ → ℕ
bucket_point b = first_over buckets_at b 0 b

-- "block 1 for b = 0; otherwise b + spares[g - 1] + 1"
unfoldable pub bucket_block : List ℕ → ℕ → ℕ
bucket_block sp zero = 1
bucket_block sp (suc b) = suc b + get_or sp (pred (bucket_point (suc b))) 0 + 1

-- the smallest from i to i + k with n + 1 at most its spares, or i + k
abbrev pub bit_point : List ℕ → ℕ → ℕ → ℕ → ℕ
bit_point sp n i zero = i
bit_point sp n i (suc k) = elim (ltb n (get_or sp i 0)) [ true ↦ i | false ↦ bit_point sp n (suc i) k ]

-- "block (buckets in all at point i) + n + 1, i the smallest from 1 to s with n + 1 at most spares[i], or s"
unfoldable pub bit_block : List ℕ → ℕ → ℕ → ℕ
bit_block sp s n = buckets_at (bit_point sp n 1 (pred s)) + n + 1

-- "Made blocks: (buckets in all at point s) + spares[s] + 1."
unfoldable pub made : List ℕ → ℕ → ℕ
made sp s = buckets_at s + get_or sp s 0 + 1
