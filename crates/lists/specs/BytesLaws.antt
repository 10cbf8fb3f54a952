-- Runs of stores in a list, and parts of it.
use Rattle.std.specs.Prelude.{◌≡◌, refl, ◌⊎◌, true, List, [], ◌∷◌, ◌++◌, ℕ, zero, suc, ◌+◌, ◌-◌, ◌≤◌, ◌<◌, eqb, length, get_or, take, drop, set, replicate}
use Rattle.std.proofs.Common.{sym, ap, ◌∙◌, inl, inr, ⊎_elim, not-suc-le-zero, le_of_suc-le-suc, add-zero, add-suc, suc-add, arith, length-set, length-take, length-drop, get_or-set_same, get_or-set_other, get_or-take, get_or-drop, drop-drop, take_at, drop_at, take-add}
use Rattle.std.proofs.lemmas.List.Edits.{sets}
use Rattle.lists.specs.Lists.{all}
use Rattle.lists.specs.ListsLaws.{and_left, and_right, eqb-eq}
use Rattle.lists.specs.Bytes.{Bytes, part, all_zero}

-- ---- runs of stores

-- a run of stores leaves what lies before it and after it
pub get_or-sets-out : (vs l : List ℕ) (i k : ℕ) → (k < i) ⊎ (i + length vs ≤ k) → get_or (sets l i vs) k 0 ≡ get_or l k 0
get_or-sets-out [] l i k h = refl
get_or-sets-out (v ∷ vs) l i k h =
    get_or-sets-out vs (set l i v) (suc i) k (⊎_elim (λ a. inl (omega arith)) (λ b. inr (omega arith)) h)
    ∙ get_or-set_other l i k v 0 (⊎_elim (λ a. omega arith) (λ b. omega arith) h)

-- and holds its own elements
pub get_or-sets-in : (vs l : List ℕ) (i k : ℕ) → k < length vs → i + length vs ≤ length l → get_or (sets l i vs) (i + k) 0 ≡ get_or vs k 0
get_or-sets-in [] l i k h b = absurd (not-suc-le-zero h)
get_or-sets-in (v ∷ vs) l i zero h b =
    rw add-zero (get_or-sets-out vs (set l i v) (suc i) i (inl (omega arith)) ∙ get_or-set_same l i v 0 (omega arith))
get_or-sets-in (v ∷ vs) l i (suc k) h b =
    rw (add-suc i k, ← suc-add i k) (get_or-sets-in vs (set l i v) (suc i) k (le_of_suc-le-suc h) (simp length-set (omega arith)))

-- two runs, one after the other, are one
pub sets-append : (us vs l : List ℕ) (i : ℕ) → sets (sets l i us) (i + length us) vs ≡ sets l i (us ++ vs)
sets-append [] vs l i = ap (λ (n : ℕ). sets l n vs) (add-zero i)
sets-append (u ∷ us) vs l i =
    ap (λ (n : ℕ). sets (sets (set l i u) (suc i) us) n vs) (add-suc i (length us) ∙ sym (suc-add i (length us)))
    ∙ sets-append us vs (set l i u) (suc i)

-- ---- bytes

pub Bytes-append : (a b : List ℕ) → Bytes a → Bytes b → Bytes (a ++ b)
Bytes-append [] b ha hb i = hb i
Bytes-append (x ∷ a) b ha hb zero = ha 0
Bytes-append (x ∷ a) b ha hb (suc i) = Bytes-append a b (λ k. ha (suc k)) hb i

pub Bytes-take : (n : ℕ) (l : List ℕ) → Bytes l → Bytes (take n l)
Bytes-take zero l h i = omega arith
Bytes-take (suc n) [] h i = h i
Bytes-take (suc n) (x ∷ l) h zero = h 0
Bytes-take (suc n) (x ∷ l) h (suc i) = Bytes-take n l (λ k. h (suc k)) i

pub Bytes-drop : (n : ℕ) (l : List ℕ) → Bytes l → Bytes (drop n l)
Bytes-drop n l h i = rw get_or-drop (h (n + i))

-- ---- parts

pub length_part : (a e : ℕ) (l : List ℕ) → e ≤ length l → length (part a e l) ≡ e - a
unfolding part
length_part a e l h = simp (length-take, length-drop) (omega arith)

pub get_d_part : (a e : ℕ) (l : List ℕ) (k : ℕ) → k < e - a → get_or (part a e l) k 0 ≡ get_or l (a + k) 0
unfolding part
get_d_part a e l k h = get_or-take (e - a) (drop a l) k 0 h ∙ get_or-drop a l k 0

-- a part in the middle of a list
pub part_at : (a b c : List ℕ) (i k : ℕ) → length a ≡ i → i + length b ≡ k → part i k (a ++ (b ++ c)) ≡ b
unfolding part
part_at a b c i k ea eb = ap (take (k - i)) (drop_at a (b ++ c) i ea) ∙ take_at b c (k - i) (omega arith)

-- two parts that meet are one
pub part-part : (a m e : ℕ) (l : List ℕ) → a ≤ m → m ≤ e → part a m l ++ part m e l ≡ part a e l
unfolding part
part-part a m e l h k =
    let d : drop m l ≡ drop (m - a) (drop a l) = ap (λ (n : ℕ). drop n l) (back a m h) ∙ sym (drop-drop (m - a) a l) in
    ap (λ (x : List ℕ). take (m - a) (drop a l) ++ take (e - m) x) d
    ∙ sym (take-add (m - a) (e - m) (drop a l))
    ∙ ap (λ (n : ℕ). take n (drop a l)) (whole a m e h k)
  where
    back : (a m : ℕ) → a ≤ m → m ≡ a + (m - a)
    back a m h = omega arith

    whole : (a m e : ℕ) → a ≤ m → m ≤ e → (m - a) + (e - m) ≡ e - a
    whole a m e h k = omega arith

-- ---- zeros

pub Bytes-replicate : (n : ℕ) → Bytes (replicate n 0)
Bytes-replicate zero i = omega arith
Bytes-replicate (suc n) zero = omega arith
Bytes-replicate (suc n) (suc i) = Bytes-replicate n i

pub all_zero-replicate : (l : List ℕ) → all_zero l ≡ true → l ≡ replicate (length l) 0
unfolding all_zero
all_zero-replicate [] h = refl
all_zero-replicate (x ∷ xs) h =
    let e : x ≡ 0 = eqb-eq x 0 (and_left (eqb x 0) (all (λ y. eqb y 0) xs) h) in
    let r = all_zero-replicate xs (and_right (eqb x 0) (all (λ y. eqb y 0) xs) h) in
    λ i. e i ∷ r i

pub replicate-all_zero : (n : ℕ) → all_zero (replicate n 0) ≡ true
unfolding all_zero
replicate-all_zero zero = refl
replicate-all_zero (suc n) = replicate-all_zero n
