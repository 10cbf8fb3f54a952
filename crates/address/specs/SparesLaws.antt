-- Spares that grow: by an overflow page at the overflow point, or by a point. They keep their rule and move no block.
use Rattle.std.specs.Prelude.{◌≡◌, Bool, cond, List, [], ◌∷◌, ◌++◌, ltb, set}
use Rattle.std.proofs.Math.Path.{refl, ap}
use Rattle.std.proofs.Common.{sym, ◌∙◌, lt-ltb, ltb→lt, nltb→le, length-set, length-append, get_or-set_same, get_or-set_other}
use Rattle.std.proofs.Math.Bool.{true, false}
use Prim.Native.Nat.{ℕ, zero, suc, pred, ◌+◌, ◌≤◌, ◌<◌}
use native.Mathlib.Omega.{arith}
use Rattle.std.proofs.Math.Decide.{ℕ_discrete, dec_lt}
use Rattle.std.proofs.Math.ListN.{get_or, get_or-append}
use Rattle.std.proofs.Math.Seq.{get_or-append_seam}
use Rattle.address.specs.Address.{buckets_at, point, bucket_point, bucket_block, bit_point, bit_block, made}
use Rattle.address.specs.Role.{SparesOk}
use Rattle.address.specs.OverLaws.{Over, over-unique, buckets-grow}
use Rattle.address.specs.BlockLaws.{point-is, spares-mono, bucket-at}

-- the overflow point of one bucket more
pub point-next : (m : ℕ) (k : Bool) → ltb (point m) (point (suc m)) ≡ k → point (suc m) ≡ cond k (suc (point m)) (point m)
point-next m k e = go (dec_lt (suc m) (buckets_at s)) k e
  where
    s : ℕ
    s = point m

    p : Over buckets_at 1 m s
    p = point-is m

    same : (j : ℕ) → Over buckets_at 1 (suc m) j → point (suc m) ≡ j
    same j o = over-unique buckets_at buckets-grow 1 (suc m) (point (suc m)) j (point-is (suc m)) o

    kept : suc m < buckets_at s → point (suc m) ≡ s
    kept l = same s (record { from = p.from; over = l; least = λ g. omega (arith, p.least g) })

    grown : buckets_at s ≤ suc m → point (suc m) ≡ suc s
    grown l =
        same (suc s) (record { from = omega arith; over = omega (arith, p.over, buckets-grow s); least = λ g. l })

    go : Dec (suc m < buckets_at s) → (k : Bool) → ltb s (point (suc m)) ≡ k → point (suc m) ≡ cond k (suc s) s
    go (yes l) true e = absurd (omega (arith, kept l, ltb→lt s (point (suc m)) (rw e tt)))
    go (yes l) false e = kept l
    go (no l) true e = grown (omega arith)
    go (no l) false e = absurd (omega (arith, grown (omega arith), nltb→le s (point (suc m)) (rw e tt)))

pub top_pos : (sp : List ℕ) (s n : ℕ) → SparesOk sp s n → 1 ≤ s → 1 ≤ get_or sp s 0
top_pos sp s n l p = omega (arith, l.bitmap, spares-mono sp s n l p 1 s p (omega arith))

-- ---- the rule is kept

-- one overflow page more
pub spares-more : (sp : List ℕ) (s n : ℕ) → SparesOk sp s n → 1 ≤ s → made sp s < n
    → SparesOk (set sp s (suc (get_or sp s 0))) s n
unfolding made
spares-more sp s n l p r =
    record {
      points = length-set sp s v ∙ l.points;
      zeroth = get_or-set_other sp s 0 v 0 (omega arith) ∙ l.zeroth;
      rising = λ i h. at i h (ℕ_discrete (suc i) s);
      bitmap = first (ℕ_discrete 1 s);
      room = omega (arith, r, here);
    }
  where
    v : ℕ
    v = suc (get_or sp s 0)

    here : get_or (set sp s v) s 0 ≡ v
    here = get_or-set_same sp s v 0 (omega (arith, l.points))

    at : (i : ℕ) → i < s → Dec (suc i ≡ s) → get_or (set sp s v) i 0 ≤ get_or (set sp s v) (suc i) 0
    at i h (yes e) =
        rw e (omega (arith, here, get_or-set_other sp s i v 0 (omega arith), l.rising i h, ap (λ (k : ℕ). get_or sp k 0) e))
    at i h (no e) =
        omega (arith, get_or-set_other sp s i v 0 (omega arith), get_or-set_other sp s (suc i) v 0 e, l.rising i h)

    first : Dec (1 ≡ s) → 1 ≤ get_or (set sp s v) 1 0
    first (yes e) = rw e (omega (arith, here))
    first (no e) = omega (arith, get_or-set_other sp s 1 v 0 e, l.bitmap)

-- one overflow point more
pub spares-new-point : (sp : List ℕ) (s n : ℕ) → SparesOk sp s n → 1 ≤ s → buckets_at (suc s) + get_or sp s 0 + 1 ≤ n
    → SparesOk (sp ++ get_or sp s 0 ∷ []) (suc s) n
unfolding made
spares-new-point sp s n l p r =
    record {
      points = length-append sp _ ∙ omega (arith, l.points);
      zeroth = below 0 (omega arith) ∙ l.zeroth;
      rising = λ i h. at i (ℕ_discrete i s) h;
      bitmap = omega (arith, below 1 p, l.bitmap);
      room = omega (arith, last);
    }
  where
    sp' : List ℕ
    sp' = sp ++ get_or sp s 0 ∷ []

    below : (i : ℕ) → i ≤ s → get_or sp' i 0 ≡ get_or sp i 0
    below i h = get_or-append sp (get_or sp s 0 ∷ []) 0 i (omega (arith, l.points))

    last : get_or sp' (suc s) 0 ≡ get_or sp s 0
    last = ap (λ (k : ℕ). get_or sp' k 0) (sym l.points) ∙ get_or-append_seam sp (get_or sp s 0) [] 0

    at : (i : ℕ) → Dec (i ≡ s) → i < suc s → get_or sp' i 0 ≤ get_or sp' (suc i) 0
    at i (yes e) h = rw e (omega (arith, last, below s (omega arith)))
    at i (no e) h = omega (arith, below i (omega arith), below (suc i) (omega arith), l.rising i (omega arith))

-- ---- no block moves

module _ (sp : List ℕ) (s n : ℕ) (ok : SparesOk sp s n) (pos : 1 ≤ s) where
  pub bucket-spares : (v b : ℕ) → b < buckets_at s → bucket_block (set sp s v) b ≡ bucket_block sp b
  unfolding bucket_block
  bucket-spares v zero l = refl
  bucket-spares v (suc b) l =
      let y = bucket-at sp s n ok pos (suc b) (omega arith) l in
      ap (λ (k : ℕ). suc b + k + 1)
      (get_or-set_other sp s (pred (bucket_point (suc b))) v 0 (λ q. omega (arith, q, y.one, y.last)))

  pub bit-spares : (v m : ℕ) → bit_block (set sp s v) s m ≡ bit_block sp s m
  unfolding bit_block
  bit-spares v m = ap (λ (i : ℕ). buckets_at i + m + 1) (go 1 (pred s) (omega arith))
    where
      go : (i k : ℕ) → i + k ≤ s → bit_point (set sp s v) m i k ≡ bit_point sp m i k
      go i zero h = refl
      go i (suc k) h = at (get_or-set_other sp s i v 0 (λ q. omega arith)) (go (suc i) k (omega arith))
        where
          at : get_or (set sp s v) i 0 ≡ get_or sp i 0 → bit_point (set sp s v) m (suc i) k ≡ bit_point sp m (suc i) k
              → bit_point (set sp s v) m i (suc k) ≡ bit_point sp m i (suc k)
          at p q = λ j. elim (ltb m (p j)) [ true ↦ i | false ↦ q j ]

  pub bucket-append : (v b : ℕ) → b < buckets_at s → bucket_block (sp ++ v ∷ []) b ≡ bucket_block sp b
  unfolding bucket_block
  bucket-append v zero l = refl
  bucket-append v (suc b) l =
      let y = bucket-at sp s n ok pos (suc b) (omega arith) l in
      ap (λ (k : ℕ). suc b + k + 1)
      (get_or-append sp (v ∷ []) 0 (pred (bucket_point (suc b))) (omega (arith, y.last, ok.points)))

  pub bit-append : (v m : ℕ) → m < get_or sp s 0 → bit_block (sp ++ v ∷ []) (suc s) m ≡ bit_block sp s m
  unfolding bit_block
  bit-append v m h =
      ap (λ (i : ℕ). buckets_at i + m + 1) (ap (bit_point (sp ++ v ∷ []) m 1) back ∙ go 1 (pred s) (omega arith))
    where
      back : pred (suc s) ≡ suc (pred s)
      back = omega arith

      front : (i : ℕ) → i ≤ s → get_or (sp ++ v ∷ []) i 0 ≡ get_or sp i 0
      front i l = get_or-append sp (v ∷ []) 0 i (omega (arith, ok.points))

      go : (i k : ℕ) → i + k ≡ s → bit_point (sp ++ v ∷ []) m i (suc k) ≡ bit_point sp m i k
      go i zero q =
          let e : i ≡ s = omega arith in
          let l : m < get_or (sp ++ v ∷ []) i 0 = rw (front i (omega arith), e) h in
          at (ltb m (get_or (sp ++ v ∷ []) i 0)) (lt-ltb m (get_or (sp ++ v ∷ []) i 0) l)
        where
          at : (b : Bool) → b ≡ true → Path ℕ (elim b [ true ↦ i | false ↦ suc i ]) i
          at b p = rw p
      go i (suc k) q = at (front i (omega arith)) (go (suc i) k (omega arith))
        where
          at : get_or (sp ++ v ∷ []) i 0 ≡ get_or sp i 0 → bit_point (sp ++ v ∷ []) m (suc i) (suc k) ≡ bit_point sp m (suc i) k
              → bit_point (sp ++ v ∷ []) m i (suc (suc k)) ≡ bit_point sp m i (suc k)
          at p r = λ j. elim (ltb m (p j)) [ true ↦ i | false ↦ r j ]
