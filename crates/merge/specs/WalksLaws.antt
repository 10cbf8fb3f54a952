-- Walks whose blocks are pages, merged: their pages, and their entries by number.
use Rattle.std.specs.Prelude.{◌≡◌, refl, Bool, cond, List, [], ◌∷◌, ◌++◌, ℕ, suc, ◌+◌, ◌<◌, length, get_or, drop, ◌-◌, ◌≤◌}
use Rattle.std.proofs.Common.{ap, ap₂, ◌∙◌, add-zero, arith, le-ltb, sym, subst}
use Rattle.std.proofs.Math.Decide.{dec_lt}
use Rattle.std.proofs.lemmas.List.{get_or_append_left, get_or-append-add}
use Rattle.lists.specs.Lists.{bind}
use Rattle.lists.specs.Bytes.{Bytes}
use Rattle.lists.specs.Block.{block, blocks}
use Rattle.lists.specs.BlockLaws.{Bytes-block}
use Rattle.page.specs.declared.Entry.{Entry}
use Rattle.page.specs.PairLaws.{before-hash}
use Rattle.page.specs.Places.{place_of}
use Rattle.page.specs.Allowed.{Sorted, Allowed}
use Rattle.page.proofs.RuleLaws.{page_ok-allowed}
use Rattle.chain.specs.Within.{entries_on, PagesOk, Within}
use Rattle.chain.specs.WithinLaws.{block_inside, block-sorted, block-fine}
use Rattle.merge.specs.Tree.{max_pages}
use Rattle.merge.specs.Merge.{joined}
use Rattle.merge.specs.MergeLaws.{joined_same}
use Rattle.merge.specs.Heads.{page_at, Pages, left_of, CursorsAt}

-- ---- the pages of a walk, and of two

-- one walk stands first among the pages, and then another
pub record Joined (first second pages : List ℕ) : Type 0 where
  pub one : (i : ℕ) → i < length first → get_or pages i 0 ≡ get_or first i 0
  pub two : (i : ℕ) → i < length second → get_or pages (length first + i) 0 ≡ get_or second i 0

pub joined-append : (first second : List ℕ) → Joined first second (first ++ second)
joined-append first second =
    record {
      one = λ i h. get_or_append_left first second 0 i h;
      two = λ i h. get_or-append-add first second i 0;
    }

-- block b is one that passes the page rule
record Page (s : List ℕ) (b : ℕ) : Type 0 where
  inside : b < blocks s
  sorted : Sorted (block s b)
  allowed : Allowed (entries_on s b)

module _ {s : List ℕ} (bytes : Bytes s) where
  page-at : {walk : List ℕ} → Within s walk → PagesOk s walk → (i : ℕ) → i < length walk → Page s (get_or walk i 0)
  page-at {walk} w fine i h =
      record {
        inside = block_inside w i h;
        sorted = block-sorted w i h fine;
        allowed =
            page_ok-allowed (block s (get_or walk i 0)) (Bytes-block s (get_or walk i 0) bytes) (block-fine w i h fine);
      }

  pages-by : {ks : List ℕ} {n : ℕ} → n ≤ max_pages → ((i : ℕ) → i < n → Page s (get_or ks i 0)) → Pages s ks n
  pages-by few each =
      record {
        few = few;
        inside = λ i h. (each i h).inside;
        sorted = λ i h. (each i h).sorted;
        allowed = λ i h. (each i h).allowed;
      }

  pub alone-pages : {walk : List ℕ} → Within s walk → PagesOk s walk → Pages s walk (length walk)
  alone-pages w fine = pages-by w.few (page-at w fine)

  module _ {first second ks : List ℕ} (j : Joined first second ks) (w : Within s first) (fine : PagesOk s first)
      (v : Within s second) (fine' : PagesOk s second) where
    page-of : (i : ℕ) → i < length first + length second → Page s (get_or ks i 0)
    page-of i h = go (dec_lt i (length first))
      where
        go : Dec (i < length first) → Page s (get_or ks i 0)
        go (yes l) = subst (Page s) (sym (j.one i l)) (page-at w fine i l)
        go (no l) =
            let m : i - length first < length second = omega (arith, h, l) in
            let e : length first + (i - length first) ≡ i = omega (arith, l) in
            subst (Page s) (sym (j.two (i - length first) m) ∙ ap (λ (x : ℕ). get_or ks x 0) e)
            (page-at v fine' (i - length first) m)

    pub joined-pages : length first + length second ≤ max_pages → Pages s ks (length first + length second)
    joined-pages few = pages-by few page-of

-- ---- their entries

-- where a walk stands among the pages from number `at` on
walk-joined : (s ks walk : List ℕ) (at : ℕ)
    → ((i : ℕ) → i < length walk → get_or ks (at + i) 0 ≡ get_or walk i 0)
    → joined (page_at s ks) at (length walk) ≡ bind walk (entries_on s)
walk-joined s ks [] at h = refl
walk-joined s ks (b ∷ walk) at h =
    ap₂ (λ (x y : List Entry). x ++ y) (ap (entries_on s) (rw add-zero at (h 0 (omega arith))))
    (walk-joined s ks walk (suc at) (λ i l.
    let e : suc at + i ≡ at + suc i = omega arith in ap (λ (k : ℕ). get_or ks k 0) e ∙ h (suc i) (omega arith)))

pub alone-entries : (s walk : List ℕ) → joined (page_at s walk) 0 (length walk) ≡ bind walk (entries_on s)
alone-entries s walk =
    walk-joined s walk walk 0 (λ i h. let z : 0 + i ≡ i = omega arith in ap (λ (k : ℕ). get_or walk k 0) z)

-- those of the first of two walks, and of the second
module _ (s : List ℕ) {first second ks : List ℕ} (j : Joined first second ks) where
  pub joined-first : joined (page_at s ks) 0 (length first) ≡ bind first (entries_on s)
  joined-first =
      walk-joined s ks first 0
      (λ i h. let z : 0 + i ≡ i = omega arith in ap (λ (k : ℕ). get_or ks k 0) z ∙ j.one i h)

  pub joined-second : joined (page_at s ks) (length first) (length second) ≡ bind second (entries_on s)
  joined-second = walk-joined s ks second (length first) j.two

-- from the pair 0, 0, 0 on: every entry
zero-place : (es : List Entry) → place_of (record { hash = 0; block = 0; offset = 0 }) es ≡ 0
unfolding place_of
zero-place [] = refl
zero-place (e ∷ es) =
    ap (λ (b : Bool). cond b (suc (place_of (record { hash = 0; block = 0; offset = 0 }) es)) 0)
    (before-hash e.pair 0 ∙ le-ltb e.pair.hash 0 (omega arith))

pub from_all : (s ks : List ℕ) (n : ℕ) (tails : List ℕ) → CursorsAt s ks
    (record { hash = 0; block = 0; offset = 0 }) n tails
    → joined (left_of s ks tails) 0 n ≡ joined (page_at s ks) 0 n
from_all s ks n tails f =
    joined_same (left_of s ks tails) (page_at s ks) 0 n
    (λ i l h. ap (λ (c : ℕ). drop c (page_at s ks i)) (f i (omega (arith, h)) ∙ zero-place (page_at s ks i)))
