-- Bytes moved up and down by twelve: a turn of such a loop, and what twelve bytes put in or taken out make of them.
use Rattle.std.specs.Prelude.{◌≡◌, List, ◌∷◌, ◌++◌, ℕ, suc, ◌+◌, ◌-◌, ◌≤◌, ◌<◌, length, get_or, take, drop, set}
use Rattle.std.proofs.Common.{sym, ap, ap₂, ◌∙◌, append_assoc, suc-add, arith, length-append, length-drop, take-append-drop, take-suc, take_at, take-take, drop_at, drop-drop, get_or-take, get_or-drop, get_or-append-add, length-take-le}
use Rattle.std.proofs.Math.ListN.{get_or-append}
use Rattle.std.proofs.Math.Seq.{slice, slice_empty, slice-cons, paste, paste-suc, length_paste_head, drop-append-add, append_snoc}
use Rattle.std.proofs.lemmas.Slice.{between_is}
use Rattle.std.proofs.lemmas.List.Edits.{sets, sets-eq}
use Rattle.std.proofs.lemmas.List.{set_at, take-append-le}
use Rattle.page.specs.Gap.{opened, closed}

-- ---- up

pub opened-none : (l : List ℕ) (b : ℕ) → l ≡ opened l b b
unfolding opened
opened-none l b =
    sym
    (ap (λ (x : List ℕ). take (b + 12) l ++ (x ++ drop (b + 12) l)) (slice_empty b l)
    ∙ take-append-drop (b + 12) l)

opened-step : (l : List ℕ) (i b : ℕ) → i < b → b + 12 ≤ length l
    → set (opened l (suc i) b) (i + 12) (get_or (opened l (suc i) b) i 0) ≡ opened l i b
unfolding opened
opened-step l i b h k =
    let X : List ℕ = slice (suc i) b l ++ drop (b + 12) l in
    let front : length (take (suc i + 12) l) ≡ suc i + 12 = length-take-le (suc i + 12) l (omega arith) in
    let read : get_or (take (suc i + 12) l ++ X) i 0 ≡ get_or l i 0 =
    get_or-append (take (suc i + 12) l) X 0 i (omega arith) ∙ get_or-take (suc i + 12) l i 0 (omega arith) in
    let split : take (suc i + 12) l ++ X ≡ take (i + 12) l ++ get_or l (i + 12) 0 ∷ X =
    ap (λ (n : ℕ). take n l ++ X) (suc-add i 12)
    ∙ ap (λ (x : List ℕ). x ++ X) (take-suc l (i + 12) 0 (omega arith))
    ∙ append_snoc (take (i + 12) l) (get_or l (i + 12) 0) X in
    ap₂ (λ (x : List ℕ) (v : ℕ). set x (i + 12) v) split read
    ∙ set_at (take (i + 12) l) (get_or l (i + 12) 0) X (get_or l i 0) (i + 12) (length-take-le (i + 12) l (omega arith))
    ∙ ap (λ (x : List ℕ). take (i + 12) l ++ (x ++ drop (b + 12) l)) (sym (slice-cons i b l 0 h (omega arith)))

-- a turn of the loop that moves bytes up, from the last one down
pub opened-turn : (l p : List ℕ) (i b : ℕ) → 0 < i → i ≤ b → b + 12 ≤ length l → p ≡ opened l i b
    → set p (i - 1 + 12) (get_or p (i - 1) 0) ≡ opened l (i - 1) b
opened-turn l p i b pos h k e =
    let back : i ≡ suc (i - 1) = omega arith in
    ap (λ (x : List ℕ). set x (i - 1 + 12) (get_or x (i - 1) 0)) (e ∙ ap (λ (n : ℕ). opened l n b) back)
    ∙ opened-step l (i - 1) b (omega arith) k

-- bytes copied twelve places up
pub opened-paste : (l : List ℕ) (a b : ℕ) → a ≤ b → paste l (a + 12) (drop a l) (b - a) ≡ opened l a b
unfolding opened
opened-paste l a b h =
    let end : a + 12 + (b - a) ≡ b + 12 = omega arith in
    ap (λ (n : ℕ). take (a + 12) l ++ take (b - a) (drop a l) ++ drop n l) end
    ∙ ap (λ (x : List ℕ). take (a + 12) l ++ x ++ drop (b + 12) l) (between_is l a b)
    ∙ append_assoc (take (a + 12) l) (slice a b l) (drop (b + 12) l)

-- twelve bytes E go in between P and M, over what stood after M
pub sets-opened : (P M Z R E : List ℕ) (a b : ℕ) → length P ≡ a → a + length M ≡ b → length Z ≡ 12 → length E ≡ 12
    → sets (opened (P ++ (M ++ (Z ++ R))) a b) a E ≡ P ++ (E ++ (M ++ R))
unfolding opened
sets-opened P M Z R E a b hp hm hz he =
    let l : List ℕ = P ++ (M ++ (Z ++ R)) in
    let Q : List ℕ = take (a + 12) l in
    let X : List ℕ = M ++ R in
    let hl : length l ≡ a + (length M + (12 + length R)) = simp (length-append, hp, hz) in
    let h_q : length Q ≡ a + 12 = length-take-le (a + 12) l (omega arith) in
    let s₁ : slice a b l ≡ M =
    ap (drop a)
    (ap (take b) (sym (append_assoc P M (Z ++ R))) ∙ take_at (P ++ M) (Z ++ R) b (simp length-append (omega arith)))
    ∙ drop_at P M a hp in
    let s₂ : drop (b + 12) l ≡ R =
    ap (drop (b + 12)) (simp (← append_assoc)) ∙ drop_at (P ++ M ++ Z) R (b + 12) (simp length-append (omega arith)) in
    let t : take a (Q ++ X) ≡ P =
    take-append-le a Q X (omega arith) ∙ take-take a (a + 12) l (omega arith) ∙ take_at P (M ++ (Z ++ R)) a hp in
    let d : drop (a + length E) (Q ++ X) ≡ X = drop_at Q X (a + length E) (omega arith) in
    ap₂ (λ (x y : List ℕ). sets (Q ++ (x ++ y)) a E) s₁ s₂
    ∙ sets-eq E (Q ++ X) a (simp length-append (omega arith))
    ∙ ap₂ (λ (x y : List ℕ). x ++ E ++ y) t d
    ∙ append_assoc P E X

-- ---- down

-- what is read past the copied bytes is what stood there
read_past : (l : List ℕ) (a j : ℕ) → a + 12 + j < length l
    → get_or (paste l a (drop (a + 12) l) j) (a + j + 12) 0 ≡ get_or l (a + j + 12) 0
read_past l a j h =
    let s : List ℕ = drop (a + 12) l in
    let ls : length s ≡ length l - (a + 12) = length-drop (a + 12) l in
    let head : length (take a l ++ take j s) ≡ a + j = length_paste_head l a s j (omega arith) (omega arith) in
    ap (λ (n : ℕ). get_or (take a l ++ take j s ++ drop (a + j) l) (n + 12) 0) (sym head)
    ∙ get_or-append-add (take a l ++ take j s) (drop (a + j) l) 12 0
    ∙ get_or-drop (a + j) l 12 0

-- a turn of the loop that moves bytes down, from the first one up
pub closed-turn : (l p : List ℕ) (a i : ℕ) → a ≤ i → i + 12 < length l → p ≡ paste l a (drop (a + 12) l) (i - a)
    → set p i (get_or p (i + 12) 0) ≡ paste l a (drop (a + 12) l) (i + 1 - a)
closed-turn l p a i h k e =
    let s : List ℕ = drop (a + 12) l in
    let j : ℕ = i - a in
    let ls : length s ≡ length l - (a + 12) = length-drop (a + 12) l in
    let ei : i ≡ a + j = omega arith in
    let ej : suc j ≡ i + 1 - a = omega arith in
    let ek : a + j + 12 ≡ a + 12 + j = omega arith in
    let val : get_or (paste l a s j) (a + j + 12) 0 ≡ get_or s j 0 =
    read_past l a j (omega arith) ∙ ap (λ (n : ℕ). get_or l n 0) ek ∙ sym (get_or-drop (a + 12) l j 0) in
    ap₂ (λ (x : List ℕ) (n : ℕ). set x n (get_or x (n + 12) 0)) e ei
    ∙ ap (λ (v : ℕ). set (paste l a s j) (a + j) v) val
    ∙ paste-suc l a s j 0 (omega arith) (omega arith)
    ∙ ap (paste l a s) ej

-- twelve bytes E are taken out between P and M, and Z stands after M
pub sets-closed : (P E M R Z : List ℕ) (a b : ℕ) → length P ≡ a → length E ≡ 12 → a + 12 + length M ≡ b → length Z ≡ 12
    → sets (closed (P ++ (E ++ (M ++ R))) a b) (b - 12) Z ≡ P ++ (M ++ (Z ++ R))
unfolding closed
sets-closed P E M R Z a b hp he hm hz =
    let l : List ℕ = P ++ (E ++ (M ++ R)) in
    let s : List ℕ = drop (a + 12) l in
    let m : ℕ = b - (a + 12) in
    let D : List ℕ = drop (a + m) l in
    let em : m ≡ length M = omega arith in
    let ls : s ≡ M ++ R =
    ap (drop (a + 12)) (sym (append_assoc P E (M ++ R)))
    ∙ drop_at (P ++ E) (M ++ R) (a + 12) (length-append P E ∙ omega arith) in
    let t₁ : take a l ≡ P = take_at P (E ++ (M ++ R)) a hp in
    let t₂ : take m s ≡ M = ap (take m) ls ∙ take_at M R m (sym em) in
    let l_pm : length (P ++ M) ≡ b - 12 = length-append P M ∙ omega arith in
    let d_r : drop 12 D ≡ R =
    drop-drop 12 (a + m) l
    ∙ ap (drop (a + m + 12)) (simp (← append_assoc))
    ∙ drop_at (P ++ E ++ M) R (a + m + 12) (simp length-append (omega arith)) in
    let l_d : length D ≡ 12 + length R = length-drop (a + m) l ∙ (simp length-append (omega arith)) in
    let past : b - 12 + length Z ≡ length (P ++ M) + 12 = omega arith in
    ap₂ (λ (x y : List ℕ). sets (x ++ y ++ D) (b - 12) Z) t₁ t₂
    ∙ sets-eq Z (P ++ M ++ D) (b - 12) (simp length-append (omega (arith, l_d, l_pm, length-append P M)))
    ∙ ap₂ (λ (x y : List ℕ). x ++ Z ++ y) (take_at (P ++ M) D (b - 12) l_pm)
    (ap (λ (n : ℕ). drop n (P ++ M ++ D)) past ∙ drop-append-add (P ++ M) D 12 ∙ d_r)
    ∙ simp append_assoc
