-- When a journal holds a change.
use Rattle.std.specs.Prelude.{◌≡◌, refl, ◌≢◌, Bool, true, false, not, ◌&&◌, List, [], ◌∷◌, ℕ, ◌≤◌, ◌<◌, eqb, leb, ltb, take}
use Rattle.std.proofs.Common.{sym, ap, ◌∙◌, arith, ltb-true, leb-true, lt-ltb, le-leb, ne_eqb}
use Rattle.std.proofs.lemmas.Bool.{eqb-false, not-true}
use Rattle.lists.specs.Lists.{all, up_from}
use Rattle.lists.specs.ListsLaws.{and_left, and_right, and_both, eqb_yes, eqb-eq}
use Rattle.lists.specs.RunLaws.{all-get, all-put}
use Rattle.lists.specs.Block.{blocks}
use Rattle.endian.specs.Endian.{u32_at}
use Rattle.endian.proofs.EndianLaws.{u32_at-take}
use Rattle.store.specs.Store.{checks}
use Rattle.journal.specs.Journal.{Disk, head_of, end_of, number_in, count_in, name_in, image_in, equal, wiped}
use Rattle.journal.specs.Journal.{head_wiped, images_good, names_below, names_differ, end_copies, holds_in, holds}
use Rattle.journal.specs.HeadLaws.{count-wiped}

pub equal-eq : (a b : List ℕ) → equal a b ≡ true → a ≡ b
equal-eq [] [] h = refl
equal-eq [] (y ∷ ys) h = let z : ◌≡◌ {A = ℕ} 0 1 = cc in absurd (omega arith)
equal-eq (x ∷ xs) [] h = let z : ◌≡◌ {A = ℕ} 0 1 = cc in absurd (omega arith)
equal-eq (x ∷ xs) (y ∷ ys) h =
    let p : x ≡ y = eqb-eq x y (and_left (eqb x y) (equal xs ys) h) in
    let q : xs ≡ ys = equal-eq xs ys (and_right (eqb x y) (equal xs ys) h) in
    cc

pub equal-yes : (a b : List ℕ) → a ≡ b → equal a b ≡ true
equal-yes a b e = ap (equal a) (sym e) ∙ same a
  where
    same : (a : List ℕ) → equal a a ≡ true
    same [] = refl
    same (x ∷ xs) = and_both (eqb x x) (equal xs xs) (eqb_yes x x refl) (same xs)

-- "while the head isn't wiped"
pub head_wiped-yes : (j : List ℕ) → head_of j ≡ wiped → head_wiped j ≡ true
unfolding head_wiped
head_wiped-yes j e = equal-yes (head_of j) wiped e

pub head_wiped-eq : (j : List ℕ) → head_wiped j ≡ true → head_of j ≡ wiped
unfolding head_wiped
head_wiped-eq j h = equal-eq (head_of j) wiped h

-- the tests, as facts
pub record Held (d : Disk) : Type 0 where
  pub some : 1 ≤ count_in d.journal
  pub few : count_in d.journal ≤ 14
  pub head : checks (number_in d.journal) 0 (head_of d.journal) ≡ true
  pub end : checks (number_in d.journal) 15 (end_of d.journal) ≡ true
  pub copy : take 508 (end_of d.journal) ≡ take 508 (head_of d.journal)
  pub images : (i : ℕ) → i < count_in d.journal
      → checks (number_in d.journal) (name_in d.journal i) (image_in d.journal i) ≡ true
  pub below : (i : ℕ) → i < count_in d.journal → name_in d.journal i < blocks d.store
  pub differ : (i j : ℕ) → i < j → j < count_in d.journal → name_in d.journal i ≢ name_in d.journal j

pub holds-held : (d : Disk) → holds d ≡ true → Held d
unfolding holds
holds-held d h = go (leb 1 (count_in j)) (leb (count_in j) 14) refl refl h
  where
    j : List ℕ
    j = d.journal

    n : ℕ
    n = count_in j

    parts : leb 1 n ≡ true → leb n 14 ≡ true → holds_in true d ≡ true → Held d
    parts p q h =
        let a = checks (number_in j) 0 (head_of j) in
        let b = checks (number_in j) 15 (end_of j) in
        let c = end_copies j in
        let f = images_good d in
        let g = names_below d in
        let k = names_differ d in
        let h1 = and_right a (b && (c && (f && (g && k)))) h in
        let h2 = and_right b (c && (f && (g && k))) h1 in
        let h3 = and_right c (f && (g && k)) h2 in
        let h4 = and_right f (g && k) h3 in
        record {
          some = leb-true 1 n p;
          few = leb-true n 14 q;
          head = and_left a (b && (c && (f && (g && k)))) h;
          end = and_left b (c && (f && (g && k))) h1;
          copy = equal-eq (take 508 (end_of j)) (take 508 (head_of j)) (and_left c (f && (g && k)) h2);
          images = λ i l.
              all-get (λ i. checks (number_in j) (name_in j i) (image_in j i)) 0 n (and_left f (g && k) h3) i
              (omega arith) (omega arith);
          below = λ i l.
              ltb-true (name_in j i) (blocks d.store)
              (all-get (λ i. ltb (name_in j i) (blocks d.store)) 0 n (and_left g k h4) i (omega arith) (omega arith));
          differ = λ i m l r e.
              eqb-false (name_in j i) (name_in j m)
              (not-true (eqb (name_in j i) (name_in j m))
              (all-get (λ i. not (eqb (name_in j i) (name_in j m))) 0 m
              (all-get (λ m. all (λ i. not (eqb (name_in j i) (name_in j m))) (up_from 0 m)) 0 n (and_right g k h4) m
              (omega arith) (omega arith)) i
              (omega arith) (omega arith))) e;
        }

    go : (a b : Bool) → leb 1 n ≡ a → leb n 14 ≡ b → holds_in (a && b) d ≡ true → Held d
    go true true p q h = parts p q h
    go true false p q h = let z : ◌≡◌ {A = ℕ} 0 1 = cc in absurd (omega arith)
    go false b p q h = let z : ◌≡◌ {A = ℕ} 0 1 = cc in absurd (omega arith)

pub held-holds : (d : Disk) → Held d → holds d ≡ true
unfolding holds
held-holds d h =
    let j = d.journal in
    let n = count_in j in
    let few : leb 1 n && leb n 14 ≡ true =
    and_both (leb 1 n) (leb n 14) (le-leb 1 n h.some) (le-leb n 14 h.few) in
    ap (λ (b : Bool). holds_in b d) few
    ∙ and_both _ _ h.head
    (and_both _ _ h.end
    (and_both _ _ (equal-yes (take 508 (end_of j)) (take 508 (head_of j)) h.copy)
    (and_both _ _
    (all-put (λ i. checks (number_in j) (name_in j i) (image_in j i)) 0 n (λ i a l. h.images i (omega arith)))
    (and_both _ _
    (all-put (λ i. ltb (name_in j i) (blocks d.store)) 0 n
    (λ i a l. lt-ltb (name_in j i) (blocks d.store) (h.below i (omega arith))))
    (all-put (λ m. all (λ i. not (eqb (name_in j i) (name_in j m))) (up_from 0 m)) 0 n
    (λ m a l.
    all-put (λ i. not (eqb (name_in j i) (name_in j m))) 0 m
    (λ i b r. ap not (ne_eqb (name_in j i) (name_in j m) (h.differ i m (omega arith) (omega arith))))))))))

-- one test that fails is enough
pub fails : (d : Disk) → (Held d → ⊥) → holds d ≡ false
fails d f = go (holds d) refl
  where
    go : (b : Bool) → holds d ≡ b → holds d ≡ false
    go true e = absurd (f (holds-held d e))
    go false e = e

never : (b : Bool) → b ≡ true → b ≡ false → ⊥
never b p q = let z : ◌≡◌ {A = ℕ} 0 1 = cc in omega arith

pub wiped-fails : (d : Disk) → head_of d.journal ≡ wiped → holds d ≡ false
wiped-fails d e = fails d (λ h. omega (arith, h.some, count-wiped d.journal e))

pub head-fails : (d : Disk) → checks (u32_at (head_of d.journal) 0) 0 (head_of d.journal) ≡ false → holds d ≡ false
head-fails d e = fails d (λ h. never (checks (number_in d.journal) 0 (head_of d.journal)) h.head e)

pub end-fails : (d : Disk) → checks (u32_at (end_of d.journal) 0) 15 (end_of d.journal) ≡ false → holds d ≡ false
end-fails d e =
    fails d
    (λ h.
    let b : List ℕ = end_of d.journal in
    let same : u32_at b 0 ≡ number_in d.journal =
    sym (u32_at-take 508 b 0 (omega arith))
    ∙ ap (λ (l : List ℕ). u32_at l 0) h.copy
    ∙ u32_at-take 508 (head_of d.journal) 0 (omega arith) in
    never (checks (u32_at b 0) 15 b) (ap (λ (n : ℕ). checks n 15 b) same ∙ h.end) e)
