-- The first free bit after a page is freed: the lower one of what it was and the page's bit.
use Rattle.std.specs.Prelude.{◌≡◌, refl, ◌≢◌, Bool, true, false, cond, ℕ, zero, suc, ◌+◌, ◌≤◌, ◌<◌, min, eqb}
use Rattle.std.proofs.Common.{sym, ap, ◌∙◌, arith, eq-eqb, ne_eqb}
use Rattle.std.proofs.Math.Option.{Option, get_or}
use Rattle.std.proofs.Math.Nat.{min-eq_left, min-eq_right}
use Rattle.std.proofs.Math.Decide.{ℕ_discrete}
use Rattle.lists.specs.Lists.{find, up_from}
use Rattle.lists.specs.RunLaws.{find-same}
use Rattle.model.specs.Index.{Index, top_bit}
use Rattle.model.specs.Pages.{first_free}
use Rattle.model.specs.WellFormed.{Laid}
use Rattle.image.specs.Layout.{map_bit}
use Rattle.image.proofs.BoundLaws.{top_small}
use Rattle.image.specs.FreeLaws.{first-zero}
use Rattle.frame.specs.ListsLaws.{find-hit, find-pass}
use Rattle.std.specs.Prelude.{Option as Freed, Some, None}
use Rattle.removal.specs.Freeing.{clears, lowers}

-- the first number of a run that passes, or top
abbrev first_or : (ℕ → Bool) → (i n top : ℕ) → ℕ
first_or t i n top = get_or (find t (up_from i n)) top

first-hit : (t : ℕ → Bool) (i n top : ℕ) → t i ≡ true → first_or t i (suc n) top ≡ i
first-hit t i n top e = ap (λ (o : Option ℕ). get_or o top) (find-hit t i (up_from (suc i) n) e)

first-pass : (t : ℕ → Bool) (i n top : ℕ) → t i ≡ false → first_or t i (suc n) top ≡ first_or t (suc i) n top
first-pass t i n top e = ap (λ (o : Option ℕ). get_or o top) (find-pass t i (up_from (suc i) n) e)

first_above : (t : ℕ → Bool) (k i n top : ℕ) → k ≤ i → k ≤ top → k ≤ first_or t i n top
first_above t k i zero top h l = l
first_above t k i (suc n) top h l = go (t i) refl (first_above t k (suc i) n top (omega arith) l)
  where
    go : (b : Bool) → t i ≡ b → k ≤ first_or t (suc i) n top → k ≤ first_or t i (suc n) top
    go true e ih = omega (arith, first-hit t i n top e)
    go false e ih = omega (arith, first-pass t i n top e)

-- j passes besides
module _ (t u : ℕ → Bool) (j top : ℕ) (here : u j ≡ true) (else : (k : ℕ) → k ≢ j → u k ≡ t k) (under : j ≤ top) where
  first-lower : (i n : ℕ) → i ≤ j → j < i + n → first_or u i n top ≡ min j (first_or t i n top)
  first-lower i zero h l = absurd (omega arith)
  first-lower i (suc n) h l = at (ℕ_discrete i j) (λ lt. first-lower (suc i) n lt (omega arith))
    where
      at : Dec (i ≡ j) → (i < j → first_or u (suc i) n top ≡ min j (first_or t (suc i) n top))
          → first_or u i (suc n) top ≡ min j (first_or t i (suc n) top)
      at (yes e) ih =
          first-hit u i n top (ap u e ∙ here) ∙ e
          ∙ sym (min-eq_left (first_above t j i (suc n) top (omega arith) under))
      at (no ne) ih = go (t i) refl
        where
          go : (b : Bool) → t i ≡ b → first_or u i (suc n) top ≡ min j (first_or t i (suc n) top)
          go true e =
              let q = first-hit t i n top e in
              first-hit u i n top (else i ne ∙ e) ∙ sym q ∙ sym (min-eq_right (omega arith))
          go false e =
              first-pass u i n top (else i ne ∙ e) ∙ ih (omega arith)
              ∙ ap (min j) (sym (first-pass t i n top e))

-- ---- of an index

pub first-freed : (x y : Index) → Laid x → Laid y → top_bit y ≡ top_bit x → (f : Freed ℕ)
    → ((i : ℕ) → map_bit y i ≡ clears f (map_bit x) i) → ((n : ℕ) → f ≡ Some n → n < top_bit x)
    → first_free y ≡ lowers f (first_free x)
first-freed x y l m top f bits small =
    sym (first-zero y (map_bit y) (omega (arith, top_small y m)) (λ n h. refl))
    ∙ ap (first_or (λ n. eqb (map_bit y n) 0) 0 2048) top
    ∙ go f bits small
    ∙ ap (lowers f) (first-zero x (map_bit x) (omega (arith, top_small x l)) (λ n h. refl))
  where
    go : (f : Freed ℕ) → ((i : ℕ) → map_bit y i ≡ clears f (map_bit x) i) → ((n : ℕ) → f ≡ Some n → n < top_bit x)
        → first_or (λ n. eqb (map_bit y n) 0) 0 2048 (top_bit x)
        ≡ lowers f (first_or (λ n. eqb (map_bit x n) 0) 0 2048 (top_bit x))
    go (Some n) b s =
        let h : n < top_bit x = s n refl in
        first-lower (λ i. eqb (map_bit x i) 0) (λ i. eqb (map_bit y i) 0) n (top_bit x)
        (ap (λ (v : ℕ). eqb v 0) (b n ∙ ap (λ (e : Bool). cond e 0 (map_bit x n)) (eq-eqb n n refl)))
        (λ k ne. ap (λ (v : ℕ). eqb v 0) (b k ∙ ap (λ (e : Bool). cond e 0 (map_bit x k)) (ne_eqb k n ne)))
        (omega arith) 0 2048 (omega arith) (omega (arith, top_small x l))
    go None b s =
        ap (λ (o : Option ℕ). get_or o (top_bit x))
        (find-same _ _ 0 2048 2048 (omega arith) (λ k i h. ap (λ (v : ℕ). eqb v 0) (b k))
        (λ k i h. absurd (omega arith)))
