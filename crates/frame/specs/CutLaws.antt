-- The blocks that a pair taken out of a chain alters.
use Rattle.std.specs.Prelude.{◌≡◌, refl, ◌≢◌, Bool, true, false, cond, not, ◌&&◌, ◌||◌, List, [], ◌∷◌, ◌++◌, map, ℕ, suc, ◌+◌, ◌≤◌, eqb, get_or}
use Rattle.std.proofs.Common.{sym, ap, ◌∙◌, subst, subst₂, arith, ne_eqb}
use Rattle.std.proofs.Math.Decide.{ℕ_discrete}
use Rattle.lists.specs.Lists.{tally, find, Each}
use Rattle.lists.specs.ListsLaws.{tally-append, any-no, any-yes}
use Rattle.address.specs.Address.{point}
use Rattle.page.specs.declared.Pair.{Pair}
use Rattle.page.specs.declared.Entry.{Entry}
use Rattle.page.specs.Pair.{is}
use Rattle.model.specs.Index.{Page, Index, on_pages}
use Rattle.model.specs.Pages.{thin, in_use}
use Rattle.model.specs.WellFormed.{MoreOk}
use Rattle.model.specs.ChainLaws.{cut_more, keep-page, pages-none}
use Rattle.model.proofs.MachineLaws.{never}
use Rattle.image.specs.Layout.{LinkedPage, next_of, linked_of}
use Rattle.store.specs.Flags.{no_link}
use Rattle.frame.specs.Frame.{Apart, block_of_bit, blocks_after, on_page, more_place, frees}
use Rattle.frame.specs.ListsLaws.{find-pass, find-cons, find-skip}
use Rattle.image.specs.LinkedLaws.{has_bit}
use Rattle.frame.specs.ChainLaws.{linked_as, other-bit}

pub frees-none : (p : Pair) (gs : List Page) → tally (is p) (on_pages gs) ≡ 0 → frees p gs ≡ false
frees-none p [] z = refl
frees-none p (g ∷ gs) z = go (on_page p g) refl (frees-none p gs (omega (arith, q)))
  where
    q : tally (is p) (g.entries ++ on_pages gs) ≡ tally (is p) g.entries + tally (is p) (on_pages gs)
    q = tally-append (is p) g.entries (on_pages gs)

    go : (a : Bool) → on_page p g ≡ a → frees p gs ≡ false → a && not (in_use (thin p g)) || frees p gs ≡ false
    go true e ih = absurd (omega (arith, q, any-yes (is p) g.entries e))
    go false e ih = ih

-- ---- the overflow pages gs after the block prev

module _ (x : Index) (p : Pair) where
  abbrev sp : List ℕ
  sp = x.spares

  abbrev s : ℕ
  s = point x.max_bucket

  abbrev blk : Page → ℕ
  blk g = block_of_bit x g.bit

  abbrev linked : (b prev : ℕ) → List Page → List LinkedPage
  linked b prev gs = linked_of sp s b prev gs

  -- the blocks that the removal alters, but for meta and bitmap
  abbrev pub altered : (empty : Bool) → (prev place : ℕ) → List Page → List ℕ
  altered false prev i gs = get_or (blocks_after x gs) i no_link ∷ []
  altered true prev i gs =
      get_or (prev ∷ blocks_after x gs) i no_link ∷ get_or (blocks_after x gs) i no_link ∷ get_or (blocks_after x gs) (suc i)
      no_link ∷ []

  abbrev pub alters : ℕ → List Page → List ℕ
  alters prev gs = altered (frees p gs) prev (more_place p gs) gs

  -- by whether the first page has the pair, and is left empty
  data CutView (prev : ℕ) (g : Page) (gs : List Page) : (empty : Bool) → List Page → List ℕ → Type 0 where
    here : CutView prev g gs false (thin p g ∷ gs) (blk g ∷ [])
    gone : CutView prev g gs true gs (prev ∷ blk g ∷ get_or (blocks_after x gs) 0 no_link ∷ [])
    later : CutView prev g gs (frees p gs) (g ∷ cut_more p gs) (alters (blk g) gs)

  cut-view : (prev : ℕ) (g : Page) (gs : List Page) → Each MoreOk (g ∷ gs) → tally (is p) (on_pages (g ∷ gs)) ≤ 1
      → CutView prev g gs (frees p (g ∷ gs)) (cut_more p (g ∷ gs)) (alters prev (g ∷ gs))
  cut-view prev g gs o h = go (on_page p g) refl
    where
      q : tally (is p) (g.entries ++ on_pages gs) ≡ tally (is p) g.entries + tally (is p) (on_pages gs)
      q = tally-append (is p) g.entries (on_pages gs)

      rest : on_page p g ≡ true → tally (is p) (on_pages gs) ≡ 0
      rest e = omega (arith, q, h, any-yes (is p) g.entries e)

      found : (u f : Bool) (r : List Page) → f ≡ false → r ≡ gs
          → CutView prev g gs (not u || f) (cond u (thin p g ∷ r) r) (altered (not u || f) prev 0 (g ∷ gs))
      found true f r k i = rw (k, i) here
      found false f r k i = rw i gone

      shift : (f : Bool) → altered f (blk g) (more_place p gs) gs ≡ altered f prev (suc (more_place p gs)) (g ∷ gs)
      shift true = refl
      shift false = refl

      go : (a : Bool) → on_page p g ≡ a
          → CutView prev g gs (a && not (in_use (thin p g)) || frees p gs) (cut_more p (g ∷ gs))
          (altered (a && not (in_use (thin p g)) || frees p gs) prev (cond a 0 (suc (more_place p gs))) (g ∷ gs))
      go true e =
          found (in_use (thin p g)) (frees p gs) (cut_more p gs) (frees-none p gs (rest e))
          (pages-none p gs o.1 (rest e))
      go false e =
          subst₂ (CutView prev g gs (frees p gs)) (sym (keep-page p g gs o.0.used (any-no (is p) g.entries e)))
          (shift (frees p gs)) later

  -- the link of the page before stays, where that page is not altered
  pub next-cut : (prev : ℕ) (gs : List Page) → Each MoreOk gs → tally (is p) (on_pages gs) ≤ 1
      → Apart prev (alters prev gs)
      → next_of sp s (cut_more p gs) ≡ next_of sp s gs
  next-cut prev [] o h c = refl
  next-cut prev (g ∷ gs) o h c = go (cut-view prev g gs o h) c
    where
      go : {f : Bool} {r : List Page} {js : List ℕ} → CutView prev g gs f r js → Apart prev js → next_of sp s r ≡ blk g
      go here c = refl
      go gone c = absurd (c.0 refl)
      go later c = refl

  -- the bits stay, where no page is freed
  pub bits-cut : (gs : List Page) → Each MoreOk gs → tally (is p) (on_pages gs) ≤ 1 → frees p gs ≡ false
      → map (λ (g : Page). g.bit) (cut_more p gs) ≡ map (λ (g : Page). g.bit) gs
  bits-cut [] o h e = refl
  bits-cut (g ∷ gs) o h e =
      go (cut-view 0 g gs o h) e (bits-cut gs o.1 (omega (arith, tally-append (is p) g.entries (on_pages gs))))
    where
      go : {f : Bool} {r : List Page} {js : List ℕ} → CutView 0 g gs f r js → f ≡ false
          → (frees p gs ≡ false → map (λ (g : Page). g.bit) (cut_more p gs) ≡ map (λ (g : Page). g.bit) gs)
          → map (λ (g : Page). g.bit) r ≡ g.bit ∷ map (λ (g : Page). g.bit) gs
      go here e ih = refl
      go gone e ih = never (cc)
      go later e ih = ap (λ (r : List ℕ). g.bit ∷ r) (ih e)

  -- a chain whose first page has another page before it
  moved : (m b prev prev' : ℕ) (hs : List Page) → block_of_bit x m ≢ get_or (blocks_after x hs) 0 no_link
      → find (has_bit m) (linked b prev hs) ≡ find (has_bit m) (linked b prev' hs)
  moved m b prev prev' [] c = refl
  moved m b prev prev' (h ∷ hs) c =
      find-skip (has_bit m) _ (linked_as b prev' (next_of sp s hs) h h.entries) (linked b (blk h) hs)
      (linked b (blk h) hs)
      (other-bit x m h c) (other-bit x m h c) refl

  pub linked-cut : (m b prev : ℕ) (gs : List Page) → Each MoreOk gs → tally (is p) (on_pages gs) ≤ 1
      → Apart (block_of_bit x m) (alters prev gs)
      → find (has_bit m) (linked b prev (cut_more p gs)) ≡ find (has_bit m) (linked b prev gs)
  linked-cut m b prev [] o h c = refl
  linked-cut m b prev (g ∷ gs) o h c =
      go (cut-view prev g gs o h) c (linked-cut m b (blk g) gs o.1 less) (next-cut (blk g) gs o.1 less)
    where
      less : tally (is p) (on_pages gs) ≤ 1
      less = omega (arith, tally-append (is p) g.entries (on_pages gs))

      old : LinkedPage
      old = linked_as b prev (next_of sp s gs) g g.entries

      skip : eqb m g.bit ≡ false → (n : ℕ) (es : List Entry) (hs ks : List LinkedPage)
          → find (has_bit m) hs ≡ find (has_bit m) ks → find (has_bit m) (linked_as b prev n g es ∷ hs)
          ≡ find (has_bit m) (linked_as b prev (next_of sp s gs) g g.entries ∷ ks)
      skip ne n es hs ks q =
          find-skip (has_bit m) (linked_as b prev n g es) (linked_as b prev (next_of sp s gs) g g.entries) hs ks ne ne q

      go : {f : Bool} {r : List Page} {js : List ℕ} → CutView prev g gs f r js → Apart (block_of_bit x m) js
          → (Apart (block_of_bit x m) (alters (blk g) gs)
          → find (has_bit m) (linked b (blk g) (cut_more p gs)) ≡ find (has_bit m) (linked b (blk g) gs))
          → (Apart (blk g) (alters (blk g) gs) → next_of sp s (cut_more p gs) ≡ next_of sp s gs)
          → find (has_bit m) (linked b prev r) ≡ find (has_bit m) (linked b prev (g ∷ gs))
      go here c ih nx =
          skip (other-bit x m g c.0) (next_of sp s gs) (thin p g).entries (linked b (blk g) gs)
          (linked b (blk g) gs) refl
      go gone c ih nx =
          moved m b prev (blk g) gs c.1.1.0
          ∙ sym (find-pass (has_bit m) (linked_as b prev (next_of sp s gs) g g.entries) (linked b (blk g) gs)
          (other-bit x m g c.1.0))
      go later c ih nx = at (ℕ_discrete m g.bit)
        where
          at : Dec (m ≡ g.bit)
              → find (has_bit m)
              (linked_as b prev (next_of sp s (cut_more p gs)) g g.entries ∷ linked b (blk g) (cut_more p gs))
              ≡ find (has_bit m) (linked_as b prev (next_of sp s gs) g g.entries ∷ linked b (blk g) gs)
          at (yes q) =
              ap (λ (n : ℕ). find (has_bit m) (linked_as b prev n g g.entries ∷ linked b (blk g) (cut_more p gs)))
              (nx (subst (λ (k : ℕ). Apart (block_of_bit x k) (alters (blk g) gs)) q c))
              ∙ find-cons (has_bit m) (linked_as b prev (next_of sp s gs) g g.entries) (linked b (blk g) (cut_more p gs))
              (linked b (blk g) gs) (ih c)
          at (no q) =
              skip (ne_eqb m g.bit q) (next_of sp s (cut_more p gs)) g.entries (linked b (blk g) (cut_more p gs))
              (linked b (blk g) gs) (ih c)
