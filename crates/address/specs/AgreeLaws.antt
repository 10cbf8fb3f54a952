-- Only the spares up to the overflow point count: those that agree there give the same blocks and roles.
use Rattle.std.specs.Prelude.{◌≡◌, List, [], ◌∷◌, ltb, length, take}
use Rattle.std.proofs.Math.Path.{refl, ap, ap₂}
use Rattle.std.proofs.Common.{◌∙◌, arith, get_or-take}
use Rattle.std.proofs.Math.Bool.{true, false}
use Prim.Native.Nat.{ℕ, zero, suc, pred, ◌+◌, ◌≤◌, ◌<◌}
use Rattle.std.proofs.Math.Dec.{eqb}
use Rattle.std.proofs.Math.ListN.{get_or}
use Rattle.lists.specs.Lists.{find, up_from}
use Rattle.lists.specs.RunLaws.{find-same}
use Rattle.address.specs.Address.{buckets_at, bucket_point, bucket_block, bit_point, bit_block, made}
use Rattle.address.specs.Role.{SparesOk, role_from, role_of}
use Rattle.address.specs.PointLaws.{bucket_point-le}

module _ (sp sq : List ℕ) (s : ℕ) (same : (i : ℕ) → i ≤ s → get_or sp i 0 ≡ get_or sq i 0) where
  pub bucket-same : (b : ℕ) → b < buckets_at s → bucket_block sp b ≡ bucket_block sq b
  unfolding bucket_block
  bucket-same zero h = refl
  bucket-same (suc b) h =
      ap (λ (x : ℕ). suc b + x + 1) (same (pred (bucket_point (suc b))) (omega (arith, bucket_point-le (suc b) s h)))

  pub bit-same : (n : ℕ) → bit_block sp s n ≡ bit_block sq s n
  unfolding bit_block
  bit-same n = ap (λ (i : ℕ). buckets_at i + n + 1) (go 1 (pred s) (λ l. omega arith))
    where
      go : (i k : ℕ) → (1 ≤ k → i + k ≤ s) → bit_point sp n i k ≡ bit_point sq n i k
      go i zero h = refl
      go i (suc k) h =
          let l : i + suc k ≤ s = h (omega arith) in
          both (same i (omega arith)) (go (suc i) k (λ _. omega arith))
        where
          both : get_or sp i 0 ≡ get_or sq i 0 → bit_point sp n (suc i) k ≡ bit_point sq n (suc i) k
              → bit_point sp n i (suc k) ≡ bit_point sq n i (suc k)
          both p q = λ j. elim (ltb n (p j)) [ true ↦ i | false ↦ q j ]

  pub made-same : made sp s ≡ made sq s
  unfolding made
  made-same = ap (λ (x : ℕ). buckets_at s + x + 1) (same s (omega arith))

  pub role_same : (k : ℕ) → role_of sp s k ≡ role_of sq s k
  unfolding role_of
  role_same k =
      ap₂ (role_from (eqb k 0))
      (find-same _ _ 0 (buckets_at s) (buckets_at s) (omega arith)
      (λ b l g. ap (λ (x : ℕ). eqb x k) (bucket-same b (omega arith))) (λ b l g. absurd (omega arith)))
      (find-same _ _ 0 (get_or sp s 0) (get_or sp s 0) (omega arith) (λ n l g. ap (λ (x : ℕ). eqb x k) (bit-same n))
      (λ n l g. absurd (omega arith))
      ∙ ap (λ (x : ℕ). find (λ n. eqb (bit_block sq s n) k) (up_from 0 x)) (same s (omega arith)))

-- the spares up to the overflow point, of more
pub spares-front : (sp : List ℕ) (s i : ℕ) → i ≤ s → get_or (take (suc s) sp) i 0 ≡ get_or sp i 0
spares-front sp s i h = get_or-take (suc s) sp i 0 (omega arith)

-- ---- the rule of spares

pub spares-point : (sp : List ℕ) (s n : ℕ) → SparesOk sp s n → 1 ≤ s
spares-point sp s n ok = go sp ok.points ok.bitmap
  where
    go : (sp : List ℕ) → length sp ≡ suc s → 1 ≤ get_or sp 1 0 → 1 ≤ s
    go [] e h = absurd (omega arith)
    go (x ∷ []) e h = absurd (omega arith)
    go (x ∷ y ∷ sp) e h = omega arith

pub spares-wider : (sp : List ℕ) (s n m : ℕ) → n ≤ m → SparesOk sp s n → SparesOk sp s m
spares-wider sp s n m h ok =
    record {
      points = ok.points;
      zeroth = ok.zeroth;
      rising = ok.rising;
      bitmap = ok.bitmap;
      room = omega (arith, ok.room);
    }
