-- The role of block k, by the overflow point it stands at: the buckets that the point adds come first, then its overflow bits.
use mathlib.Core.Path.{◌≡◌, sym, ap, ◌∙◌}
use mathlib.Core.List.{List}
use Prim.Native.Nat.{ℕ, suc, pred, ◌+◌, ◌-◌, ◌≤◌, ◌<◌}
use native.Mathlib.Omega.{arith}
use native.Mathlib.Decide.{dec_lt}
use lib.ListN.{get_or, take}
use Rattle.address.specs.Address.{buckets_at, bucket_block, bit_point, made}
use Rattle.address.specs.Role.{SparesOk, Role, bucket_page, bit_page, unmade, role_of, RoleIs}
use Rattle.address.specs.OverLaws.{buckets-mono, buckets-zero}
use Rattle.address.specs.BlockLaws.{spares-mono, BitAt, bit_at, bucket-at}
use Rattle.address.specs.PointLaws.{bucket_point-only}
use Rattle.address.specs.RoleLaws.{role-only}
use Rattle.address.specs.AgreeLaws.{role_same, spares-front, spares-point}

-- the spares up to the overflow point
abbrev up_to : ℕ → List ℕ → List ℕ
up_to s sp = take (suc s) sp

module _ (sp : List ℕ) (s n : ℕ) (ok : SparesOk (up_to s sp) s n) where
  at : (i : ℕ) → i ≤ s → get_or (up_to s sp) i 0 ≡ get_or sp i 0
  at = spares-front sp s

  pos : 1 ≤ s
  pos = spares-point (up_to s sp) s n ok

  -- the sums that the code makes fit
  pub sum_below : (i j : ℕ) → i ≤ s → j ≤ s → buckets_at i + get_or sp j 0 < n
  unfolding made
  sum_below i j h l =
      omega (
        arith,
        ok.room,
        buckets-mono i s h,
        spares-mono (up_to s sp) s n ok pos j s l (omega arith),
        at j l,
      )

  pub zeroth : get_or sp 0 0 ≡ 0
  zeroth = sym (at 0 (omega arith)) ∙ ok.zeroth

  role : (k : ℕ) (r : Role) → RoleIs (up_to s sp) s k r → role_of sp s k ≡ r
  role k r h = sym (role_same (up_to s sp) sp s at k) ∙ role-only (up_to s sp) s n ok pos k r h

  pub role-unmade : (k : ℕ) → 1 ≤ k → buckets_at s + get_or sp s 0 ≤ k - 1 → role_of sp s k ≡ unmade
  unfolding made
  role-unmade k p h = role k unmade (omega (arith, at s (omega arith)))

  -- at point j + 1, past the points before it
  module _ (j k : ℕ) (last : j < s) (some : 1 ≤ k) where
    module _ (low : 1 ≤ j → buckets_at j + get_or sp j 0 ≤ k - 1) where
      pub before-le : get_or sp j 0 ≤ k - 1
      before-le = go (dec_lt 0 j)
        where
          go : Dec (0 < j) → get_or sp j 0 ≤ k - 1
          go (yes l) = omega (arith, low l)
          go (no l) = let e : j ≡ 0 = omega arith in omega (arith, ap (λ (i : ℕ). get_or sp i 0) e, zeroth)

      pub bucket-in : k - 1 < buckets_at (suc j) + get_or sp j 0 → role_of sp s k ≡ bucket_page (k - 1 - get_or sp j 0)
      unfolding bucket_block
      bucket-in up = role k (bucket_page b) (small, block (dec_lt 0 b) (dec_lt 0 j))
        where
          b : ℕ
          b = k - 1 - get_or sp j 0

          small : b < buckets_at s
          small = omega (arith, up, before-le, buckets-mono (suc j) s last)

          block : Dec (0 < b) → Dec (0 < j) → bucket_block (up_to s sp) b ≡ k
          block (yes p) d =
              (bucket-at (up_to s sp) s n ok pos b p small).block
              ∙ ap (λ (g : ℕ). b + get_or (up_to s sp) (pred g) 0 + 1)
              (bucket_point-only b (suc j) (over d) (omega (arith, up, before-le)))
              ∙ omega (arith, before-le, at j (omega arith))
            where
              over : Dec (0 < j) → buckets_at j ≤ b
              over (yes l) = omega (arith, low l)
              over (no l) = let e : j ≡ 0 = omega arith in omega (arith, ap buckets_at e, buckets-zero)
          block (no p) (yes l) = absurd (omega (arith, low l, buckets-zero, buckets-mono 0 j (omega arith)))
          block (no p) (no l) =
              let z : b ≡ 0 = omega arith in
              let e : j ≡ 0 = omega arith in
              ap (bucket_block (up_to s sp)) z ∙ omega (arith, before-le, ap (λ (i : ℕ). get_or sp i 0) e, zeroth)

    pub bit_in : buckets_at (suc j) + get_or sp j 0 ≤ k - 1 → k - 1 < buckets_at (suc j) + get_or sp (suc j) 0
        → role_of sp s k ≡ bit_page (k - 1 - buckets_at (suc j))
    bit_in low up = role k (bit_page m) (small, x.block ∙ ap (λ (g : ℕ). buckets_at g + m + 1) here ∙ omega arith)
      where
        m : ℕ
        m = k - 1 - buckets_at (suc j)

        r : ℕ
        r = bit_point (up_to s sp) m 1 (pred s)

        mono : (i j : ℕ) → i ≤ j → j ≤ s → get_or (up_to s sp) i 0 ≤ get_or (up_to s sp) j 0
        mono = spares-mono (up_to s sp) s n ok pos

        small : m < get_or (up_to s sp) s 0
        small = omega (arith, at (suc j) last, mono (suc j) s last (omega arith))

        x : BitAt (up_to s sp) s n ok pos m r
        x = bit_at (up_to s sp) s n ok pos m small

        -- the bit's point is j + 1: spares do not fall
        same : Dec (r < suc j) → Dec (suc j < r) → r ≡ suc j
        same (yes h) d =
            absurd (omega (arith, x.under, at j (omega arith), mono r j (omega arith) (omega arith)))
        same (no h) (yes g) =
            let l : pred r ≤ s = omega (arith, x.last) in
            absurd (omega (arith, x.over, at (suc j) last, mono (suc j) (pred r) (omega arith) l))
        same (no h) (no g) = omega arith

        here : r ≡ suc j
        here = same (dec_lt r (suc j)) (dec_lt (suc j) r)
