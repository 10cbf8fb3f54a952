-- The numbers of a well-formed index fit their fields.
use Rattle.std.specs.Prelude.{◌≡◌, Bool, true, false, cond, ◌&&◌, ◌||◌, List, [], ◌∷◌, eqb, ltb, get_or, replicate}
use Rattle.std.proofs.Math.Path.{refl}
use Rattle.std.proofs.Math.Option
use Rattle.std.proofs.Math.Option.{Option, none, some}
use Prim.Native.Nat.{ℕ, zero, suc, pred, ◌+◌, ◌-◌, ◌*◌, ◌^◌, ◌≤◌, ◌<◌}
use Rattle.std.proofs.Math.Decide.{dec_lt}
use native.Mathlib.Omega.{arith}
use Rattle.std.proofs.Math.ListN.{length, get_or-eq_default}
use Rattle.std.proofs.Common.{length-append, pow_mono}
use Rattle.std.proofs.lemmas.List.{length-replicate, length-map}
use Rattle.lists.specs.Lists.{bind}
use Rattle.lists.specs.ListsLaws.{each_append}
use Rattle.address.specs.Limits.{max_blocks}
use Rattle.address.specs.Address.{buckets_at, mask_digits, high_mask, split_from, last_split, point}
use Rattle.address.specs.MaskLaws.{mask_is, high-double, low-size}
use Rattle.address.specs.BlockLaws.{point-is, point-pos, spares-mono}
use Rattle.model.specs.Index.{Page, Chain, no_chain, Job, idle, copying, clearing, Index, top_bit}
use Rattle.model.specs.Pages.{bits_of, free_bit, first_free}
use Rattle.model.specs.WellFormed.{Laid, WF}
use Rattle.model.proofs.LaidLaws.{free-bit}
use Rattle.model.proofs.BoundLaws.{laid-room, laid-point, count-le}
use Rattle.image.specs.Layout.{meta_front, padded, meta_of, flags_in, flags_of}
use Rattle.image.proofs.MetaLaws.{Words, MetaFits, length-meta_front}
use Rattle.lists.specs.TestLaws.{each_all}

-- ---- chains

pub bits-part : (cs : List Chain) (k : ℕ) → k < length cs → length (get_or cs k no_chain).more ≤ length (bind cs bits_of)
bits-part [] k h = absurd (omega arith)
bits-part (c ∷ cs) zero h = simp length-append (omega (arith, length-map c.more (λ (g : Page). g.bit)))
bits-part (c ∷ cs) (suc k) h = simp length-append (omega (arith, bits-part cs k (omega arith)))

-- of any chain, and of two: their overflow pages are different ones
pub one-part : (cs : List Chain) (i : ℕ) → length (get_or cs i no_chain).more ≤ length (bind cs bits_of)
one-part cs i = go (dec_lt i (length cs))
  where
    go : Dec (i < length cs) → length (get_or cs i no_chain).more ≤ length (bind cs bits_of)
    go (yes h) = bits-part cs i h
    go (no h) = rw (get_or-eq_default cs no_chain (let q : length cs ≤ i = omega arith in q)) (omega arith)

pub two-parts : (cs : List Chain) (i j : ℕ) → i < j
    → length (get_or cs i no_chain).more + length (get_or cs j no_chain).more ≤ length (bind cs bits_of)
two-parts [] i j h = omega arith
two-parts (c ∷ cs) i zero h = absurd (omega arith)
two-parts (c ∷ cs) zero (suc j) h =
    simp length-append (omega (arith, one-part cs j, length-map c.more (λ (g : Page). g.bit)))
two-parts (c ∷ cs) (suc i) (suc j) h = simp length-append (omega (arith, two-parts cs i j (omega arith)))

-- ---- buckets and masks

pub last-le : (m b : ℕ) → last_split m b ≤ suc m
unfolding last_split
last-le zero b = omega arith
last-le (suc m) b = go (ltb 0 m && (eqb (suc m) b || eqb (split_from (suc m)) b)) (last-le m b)
  where
    go : (c : Bool) → last_split m b ≤ suc m → cond c (suc m) (last_split m b) ≤ suc (suc m)
    go true ih = omega arith
    go false ih = omega arith

high_le : (m : ℕ) → 1 ≤ m → high_mask m ≤ 2 * m + 1
high_le m one = go (dec_lt 2 (mask_digits m))
  where
    go : Dec (2 < mask_digits m) → high_mask m ≤ 2 * m + 1
    go (yes h) = omega (arith, high-double m, (mask_is m).least h)
    go (no h) = let p : pred (mask_digits m) ≤ 1 = omega arith in omega (arith, high-double m, pow_mono p)

-- ---- the numbers of an index

module _ (x : Index) (l : Laid x) where
  pub max-under : x.max_bucket < buckets_at (point x.max_bucket)
  max-under = (point-is x.max_bucket).over

  pub max-small : x.max_bucket < max_blocks
  max-small = omega (arith, laid-room x l, l.size)

  pub top_small : top_bit x < max_blocks
  top_small = omega (arith, laid-room x l, l.size)

  free-small : first_free x ≤ top_bit x
  unfolding first_free
  free-small = go (free_bit x) refl
    where
      go : (o : Option ℕ) → free_bit x ≡ o → Option.get_or o (top_bit x) ≤ top_bit x
      go none e = omega arith
      go (some n) e = omega (arith, (free-bit x n e).2)

  pub length-padded : length (padded x.spares) ≡ 16
  unfolding padded
  length-padded = simp (length-append, length-replicate) (omega (arith, l.spares.points, laid-point x l))

  pub length-meta : length (meta_front (meta_of x)) ≡ 492
  unfolding meta_of
  length-meta = length-meta_front (meta_of x) length-padded

  words-fit : Words (padded x.spares)
  unfolding padded
  words-fit =
      each_append (λ (v : ℕ). v < 2 ^ 32) x.spares (replicate (16 - length x.spares) 0)
      (each_all (λ (v : ℕ). v < 2 ^ 32) 0 x.spares (λ i h.
      let s : ℕ = point x.max_bucket in
      omega (
        arith,
        spares-mono x.spares s x.size l.spares (point-pos x.max_bucket) i s
            (omega (arith, l.spares.points)) (omega arith),
        top_small,
      )))
      (zeros (16 - length x.spares))
    where
      zeros : (n : ℕ) → Words (replicate n 0)
      zeros zero = tt
      zeros (suc n) = (omega arith, zeros n)

pub meta-fits : (x : Index) → WF x → MetaFits (meta_of x)
unfolding meta_of
meta-fits x w =
    let l = w.laid in
    let m : ℕ = x.max_bucket in
    let max = max-small x l in
    let high = high_le m l.two in
    record {
      count = omega (arith, count-le x w, l.size);
      fill = omega (arith, l.fill_high);
      max = omega arith;
      high = omega arith;
      low = omega (arith, high-double m, low-size m);
      point = omega (arith, laid-point x l);
      free = omega (arith, free-small x l, top_small x l);
      size = omega (arith, l.size);
      sixteen = length-padded x l;
      words = words-fit x l;
      number = l.number;
    }

pub flags-small : (x : Index) (b : ℕ) → flags_of x b < 2 ^ 16
unfolding flags_of
flags-small x b = go x.job
  where
    three : (c d : Bool) → cond c 18 (cond d 34 2) < 2 ^ 16
    three true d = omega arith
    three false true = omega arith
    three false false = omega arith

    pair : (c : Bool) → cond c 66 2 < 2 ^ 16
    pair true = omega arith
    pair false = omega arith

    go : (j : Job) → flags_in j x.max_bucket (split_from x.max_bucket) b < 2 ^ 16
    go idle = omega arith
    go copying = three (eqb b x.max_bucket) (eqb b (split_from x.max_bucket))
    go clearing = pair (eqb b (split_from x.max_bucket))
