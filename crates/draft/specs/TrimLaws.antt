-- The trimmed draft differs from the draft in checks alone.
use Rattle.std.specs.Prelude.{◌≡◌, refl, ◌≢◌, Bool, true, false, cond, ◌&&◌, List, [], ◌∷◌, ℕ, suc, ◌+◌, ◌*◌, ◌/◌, ◌<◌, eqb, get_or, drop}
use Rattle.std.proofs.Common.{sym, ap₂, ◌∙◌, ⊎_elim, add-one, arith, drop-cons}
use Rattle.std.proofs.Math.Path.{ap}
use Rattle.std.proofs.Math.ListN.{length}
use Rattle.std.proofs.Math.Seq.{drop-length}
use Rattle.lists.specs.Lists.{bind, up_from}
use Rattle.lists.specs.ListsLaws.{and_left, and_right, eqb_yes, eqb_no, eqb-eq}
use Rattle.lists.specs.Block.{blocks, block}
use Rattle.lists.specs.BlockLaws.{length-block}
use Rattle.store.specs.declared.Change.{Change}
use Rattle.store.specs.Store.{covered, sealed, number_at}
use Rattle.store.proofs.CheckLaws.{sealed-cong}
use Rattle.store.proofs.ChangeLaws.{find-number}
use Rattle.store.specs.Finish.{finished, resealed, Sealed}
use Rattle.store.proofs.FinishLaws.{bind-run, length-images, block-images}
use Rattle.draft.specs.Draft.{Listed}
use Rattle.draft.specs.DraftLaws.{block-rest}
use Rattle.draft.specs.FinishLaws.{finished-draft}
use Rattle.draft.specs.Trim.{alike, trimmed_block, trimmed, Trimmed}

-- ---- alike

pub alike-eq : (a b : List ℕ) → alike a b ≡ true → a ≡ b
alike-eq [] [] h = refl
alike-eq [] (y ∷ b) h = let z : ◌≡◌ {A = ℕ} 0 1 = cc in absurd (omega arith)
alike-eq (x ∷ a) [] h = let z : ◌≡◌ {A = ℕ} 0 1 = cc in absurd (omega arith)
alike-eq (x ∷ a) (y ∷ b) h =
    let e : x ≡ y = eqb-eq x y (and_left (eqb x y) (alike a b) h) in
    let r = alike-eq a b (and_right (eqb x y) (alike a b) h) in
    λ i. e i ∷ r i

alike_refl : (a : List ℕ) → alike a a ≡ true
alike_refl [] = refl
alike_refl (x ∷ a) = rw (eqb_yes x x refl) (alike_refl a)

pub alike-ne : (a b : List ℕ) → alike a b ≡ false → a ≢ b
alike-ne a b h e =
    let y : alike a b ≡ true = ap (alike a) (sym e) ∙ alike_refl a in
    let z : ◌≡◌ {A = ℕ} 0 1 = cc in
    omega arith

-- what is left of two lists, an element at a time
module _ (a b : List ℕ) (i : ℕ) (ha : i < length a) (hb : i < length b) where
  alike_next : alike (drop i a) (drop i b) ≡ eqb (get_or a i 0) (get_or b i 0) && alike (drop (suc i) a) (drop (suc i) b)
  alike_next = ap₂ alike (drop-cons a i 0 ha) (drop-cons b i 0 hb)

  pub alike-more : get_or a i 0 ≡ get_or b i 0 → alike (drop i a) (drop i b) ≡ alike (drop (i + 1) a) (drop (i + 1) b)
  alike-more e = rw (alike_next, eqb_yes (get_or a i 0) (get_or b i 0) e, add-one)

  pub alike-stop : get_or a i 0 ≢ get_or b i 0 → alike (drop i a) (drop i b) ≡ false
  alike-stop ne = rw (alike_next, eqb_no (get_or a i 0) (get_or b i 0) ne)

pub alike_end : (a b : List ℕ) (i : ℕ) → length a ≡ i → length b ≡ i → alike (drop i a) (drop i b) ≡ true
alike_end a b i ha hb =
    ap₂ alike (ap (λ (n : ℕ). drop n a) (sym ha) ∙ drop-length a) (ap (λ (n : ℕ). drop n b) (sym hb) ∙ drop-length b)

-- ---- the trimmed draft

module _ (s d : List ℕ) (whole : length s ≡ 512 * blocks s) (same : length d ≡ length s) where
  full : (k : ℕ) → k < blocks s → length (trimmed_block s d k) ≡ 512
  full k h = go (alike (covered (block s k)) (covered (block d k)))
    where
      go : (t : Bool) → length (cond t (block s k) (block d k)) ≡ 512
      go true = length-block s k (omega arith)
      go false = length-block d k (omega arith)

  pub length-trimmed : length (trimmed s d) ≡ 512 * blocks s
  unfolding trimmed
  length-trimmed = length-images (trimmed_block s d) (blocks s) full

  pub block-trimmed : (k : ℕ) → k < blocks s → block (trimmed s d) k ≡ trimmed_block s d k
  unfolding trimmed
  block-trimmed k h = block-images (trimmed_block s d) (blocks s) full k h

  pub covered-trimmed : (k : ℕ) → k < blocks s → covered (block (trimmed s d) k) ≡ covered (block d k)
  covered-trimmed k h = ap covered (block-trimmed k h) ∙ go (alike (covered (block s k)) (covered (block d k))) refl
    where
      go : (t : Bool) → alike (covered (block s k)) (covered (block d k)) ≡ t
          → covered (cond t (block s k) (block d k)) ≡ covered (block d k)
      go true e = alike-eq _ _ e
      go false e = refl

  pub resealed-trimmed : (number : ℕ) → resealed number (trimmed s d) ≡ resealed number d
  unfolding resealed blocks
  resealed-trimmed number =
      let e : length (trimmed s d) / 512 ≡ length d / 512 = omega (arith, length-trimmed) in
      ap (λ (n : ℕ). bind (up_from 0 n) (λ k. sealed number k (block (trimmed s d) k))) e
      ∙ bind-run (λ k. sealed number k (block (trimmed s d) k)) (λ k. sealed number k (block d k)) 0 (length d / 512)
      (λ k l h. sealed-cong number k (block (trimmed s d) k) (block d k) (covered-trimmed k (omega arith)))

-- ---- the change that makes it

module _ {s d : List ℕ} {r : Change} {images' : List ℕ} (t : Trimmed s d r images') (same : length d ≡ length s) where
  pub finished-trimmed : Sealed s → finished s r images' ≡ resealed (number_at s) d
  finished-trimmed sound =
      finished-draft t.draft sound ∙ resealed-trimmed s d t.draft.whole same (number_at s)

  -- a block that is altered is listed
  pub listed-altered : (k : ℕ) → k < blocks s → covered (block s k) ≢ covered (block d k) → Listed r k
  listed-altered k h ne = ⊎_elim (λ w. w) (λ none. absurd (go none)) (find-number r.numbers k r.count)
    where
      whole : length s ≡ 512 * blocks s
      whole = t.draft.whole

      pick : (b : Bool) → alike (covered (block s k)) (covered (block d k)) ≡ b
          → cond b (block s k) (block d k) ≡ block s k
          → covered (block s k) ≡ covered (block d k)
      pick true e q = alike-eq _ _ e
      pick false e q = ap covered (sym q)

      go : ((j : ℕ) → j < r.count → get_or r.numbers j 0 ≢ k) → ⊥
      go none =
          ne
          (pick _ refl
          (sym (block-trimmed s d whole same k h)
          ∙ block-rest t.draft k h (λ w. none w.0 w.1 w.2)))
