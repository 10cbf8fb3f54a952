-- What the addresses of blocks rest on: a max bucket, its overflow point and the spares, as rule 2 has them.
use Rattle.std.specs.Prelude.{◌≡◌, true, List, ℕ, suc, ◌≤◌, ◌<◌, leb, eqb, length, get_or, take}
use Rattle.std.proofs.Common.{sym, subst, arith, leb-true, eqb-true}
use Rattle.lists.specs.ListsLaws.{and_left, and_right}
use Rattle.address.specs.Address.{buckets_at, high_mask, low_mask, point, bucket_block, bit_block, made}
use Rattle.address.specs.Role.{SparesOk}
use Rattle.address.specs.BlockLaws.{point-pos, point-is, bucket-made, bit-made}
use Rattle.address.specs.AgreeLaws.{bucket-same, bit-same, spares-front, spares-point, spares-wider}
use Rattle.model.specs.Calls.{fill_ok}
use Rattle.image.specs.declared.Meta.{Meta}
use Rattle.image.specs.Rules.{spares_ok, meta_ok}
use Rattle.meta.specs.SparesLaws.{point-low, spares-ok}

-- of a store of at most n blocks
pub record Addressed (n : ℕ) (m : Meta) : Type 0 where
  pub two : 1 ≤ m.max
  pub point : m.point ≡ point m.max
  pub low : m.point ≤ 15
  pub spares : SparesOk (take (suc m.point) m.spares) m.point n

pub addressed : (n : ℕ) (m : Meta) → length m.spares ≡ 16 → meta_ok n m ≡ true → Addressed n m
unfolding meta_ok
addressed n m sixteen ok =
    let r₁ = and_right (fill_ok m.fill) _ ok in
    let r₂ = and_right (leb 1 m.max) _ r₁ in
    let r₃ = and_right (eqb m.high (high_mask m.max)) _ r₂ in
    let r₄ = and_right (eqb m.low (low_mask m.max)) _ r₃ in
    let r₅ = and_right (eqb m.point (point m.max)) _ r₄ in
    let s : ℕ = point m.max in
    let p : m.point ≡ s = eqb-true _ _ (and_left (eqb m.point s) _ r₄) in
    let fine : spares_ok s m.spares ≡ true = and_left (spares_ok s m.spares) _ r₅ in
    let room : made m.spares s ≤ n = leb-true _ _ (and_right (spares_ok s m.spares) _ r₅) in
    record {
      two = leb-true _ _ (and_left (leb 1 m.max) _ r₁);
      point = p;
      low = rw p (point-low s m.spares fine sixteen);
      spares =
          subst (λ (k : ℕ). SparesOk (take (suc k) m.spares) k n) (sym p)
          (spares-ok s m.spares fine sixteen n (point-pos m.max) room);
    }

-- ---- what follows

module _ (n : ℕ) (m : Meta) (a : Addressed n m) where
  pub max-under : m.max < buckets_at m.point
  max-under = rw a.point (point-is m.max).over

  pos : 1 ≤ m.point
  pos = spares-point (take (suc m.point) m.spares) m.point n a.spares

  pub home-inside : (b : ℕ) → b ≤ m.max → bucket_block m.spares b < n
  home-inside b h =
      let sp : List ℕ = take (suc m.point) m.spares in
      let under : b < buckets_at m.point = omega (arith, max-under) in
      omega (
        arith,
        bucket-same sp m.spares m.point (spares-front m.spares m.point) b under,
        bucket-made sp m.point n a.spares pos b under,
        a.spares.room,
      )

  pub bit-inside : (b : ℕ) → b < get_or m.spares m.point 0 → bit_block m.spares m.point b < n
  bit-inside b h =
      let sp : List ℕ = take (suc m.point) m.spares in
      let same = spares-front m.spares m.point in
      omega (
        arith,
        bit-same sp m.spares m.point same b,
        bit-made sp m.point n a.spares pos b (omega (arith, same m.point (omega arith))),
        a.spares.room,
      )

pub addressed-wider : (n k : ℕ) (m : Meta) → n ≤ k → Addressed n m → Addressed k m
addressed-wider n k m h a =
    record {
      two = a.two;
      point = a.point;
      low = a.low;
      spares = spares-wider (take (suc m.point) m.spares) m.point n k h a.spares;
    }
