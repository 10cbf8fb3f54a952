-- With small numbers and spares the blocks of buckets and overflow bits fit 32 bits.
use mathlib.Core.Bool.{Bool, true, false}
use mathlib.Core.List.{List, [], ◌∷◌}
use Prim.Native.Nat.{ℕ, zero, suc, pred, ◌+◌, ◌^◌, ◌≤◌, ◌<◌}
use native.Mathlib.Omega.{arith}
use lib.Dec.{ltb}
use lib.ListN.{get_or, set, replicate}
use Rattle.address.specs.Address.{bucket_point, bucket_block, bit_point, bit_block}
use Rattle.address.specs.OverLaws.{buckets-mono}
use Rattle.address.specs.LimitLaws.{buckets-sixteen}
use Rattle.vectors.specs.Small.{Small}

pub small-set : (sp : List ℕ) (k v : ℕ) → Small sp → v < 65536 → Small (set sp k v)
small-set [] k v h l i = omega arith
small-set (x ∷ sp) zero v h l zero = l
small-set (x ∷ sp) zero v h l (suc i) = h (suc i)
small-set (x ∷ sp) (suc k) v h l zero = h zero
small-set (x ∷ sp) (suc k) v h l (suc i) = small-set sp k v (λ j. h (suc j)) l i

pub small-zeros : (k : ℕ) → Small (replicate k 0)
small-zeros zero i = omega arith
small-zeros (suc k) zero = omega arith
small-zeros (suc k) (suc i) = small-zeros k i

pub bucket-fits : (sp : List ℕ) (b : ℕ) → Small sp → b < 65536 → bucket_block sp b < 2 ^ 32
unfolding bucket_block
bucket-fits sp zero h l = omega arith
bucket-fits sp (suc b) h l = omega (arith, h (pred (bucket_point (suc b))))

bit_point-upto : (sp : List ℕ) (n i k : ℕ) → bit_point sp n i k ≤ i + k
bit_point-upto sp n i zero = omega arith
bit_point-upto sp n i (suc k) = go (ltb n (get_or sp i 0)) (bit_point-upto sp n (suc i) k)
  where
    go : (t : Bool) → bit_point sp n (suc i) k ≤ suc i + k
        → ◌≤◌ (elim t [ true ↦ i | false ↦ bit_point sp n (suc i) k ]) (i + suc k)
    go true h = omega arith
    go false h = omega arith

pub bit-fits : (sp : List ℕ) (s n : ℕ) → s ≤ 15 → n < 65536 → bit_block sp s n < 2 ^ 32
unfolding bit_block
bit-fits sp s n h l =
    let g : bit_point sp n 1 (pred s) ≤ 16 = omega (arith, bit_point-upto sp n 1 (pred s)) in
    omega (arith, buckets-sixteen, buckets-mono (bit_point sp n 1 (pred s)) 16 g)
