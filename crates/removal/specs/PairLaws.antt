-- Where a pair stands in a chain: its page, and whether that is left empty without it.
use Rattle.std.specs.Prelude.{◌≡◌, refl, Bool, true, false, cond, not, ◌&&◌, ◌||◌, List, [], ◌∷◌, ◌++◌, ℕ, zero, suc, ◌+◌, ◌≤◌, ◌<◌, eqb, ltb, length, get_or}
use Rattle.std.proofs.Common.{sym, ap, ◌∙◌, arith, ltb-true, lt-ltb, ne_eqb}
use Rattle.lists.specs.Lists.{any, tally}
use Rattle.lists.specs.ListsLaws.{tally-append, any-no, any-yes, and_left, and_right}
use Rattle.address.specs.Role.{Role, bucket_page, bit_page}
use Rattle.page.specs.declared.Pair.{Pair}
use Rattle.page.specs.declared.Entry.{Entry}
use Rattle.page.specs.Pair.{is}
use Rattle.page.specs.Places.{place_of, remove_at}
use Rattle.page.specs.SublistLaws.{each-get_or}
use Rattle.page.specs.PlaceLaws.{place-any, remove_at-keep}
use Rattle.model.specs.Index.{Page, Chain, on_pages, entries_in}
use Rattle.model.specs.Pages.{thin_entries, thin, in_use}
use Rattle.model.specs.WellFormed.{PageOk, MoreOk, ChainOk}
use Rattle.model.specs.TallyLaws.{length-parts}
use Rattle.model.proofs.MachineLaws.{never}
use Rattle.frame.specs.Frame.{entries_after, place_entries, on_page, more_place, pair_place, frees}
use Rattle.frame.specs.ImagesLaws.{no_page}
use Rattle.frame.specs.ListsLaws.{get_d_map}
use Rattle.frame.specs.CutLaws.{frees-none}
use Rattle.removal.specs.Freeing.{emptied, freed_if}

-- ---- in a page

-- the entry at the pair's place is the one that has it
module _ (p : Pair) (es : List Entry) (o : PageOk es) (has : any (is p) es ≡ true) where
  at : ltb (place_of p es) (length es) && is p (get_or es (place_of p es) (record { pair = p; moved = false })) ≡ true
  at = sym (place-any p es (record { pair = p; moved = false }) o.order) ∙ has

  pub slot-inside : place_of p es < length es
  slot-inside = ltb-true _ _ (and_left (ltb (place_of p es) (length es)) _ at)

  pub remove-thin : remove_at (place_of p es) es ≡ thin_entries p es
  remove-thin =
      remove_at-keep p es (record { pair = p; moved = false }) o.order slot-inside
      (and_right (ltb (place_of p es) (length es)) _ at)

-- the pages of a chain
pub page-ok : (c : Chain) → ChainOk c → (i : ℕ) → i ≤ length c.more → PageOk (place_entries c i)
page-ok c o zero h = o.first
page-ok c o (suc i) h =
    rw (get_d_map (λ (g : Page). g.entries) c.more i no_page [] h)
    (each-get_or MoreOk c.more i no_page o.more h).page

-- ---- among the overflow pages

module _ (p : Pair) where
  parts : (g : Page) (gs : List Page)
      → tally (is p) (g.entries ++ on_pages gs) ≡ tally (is p) g.entries + tally (is p) (on_pages gs)
  parts g gs = tally-append (is p) g.entries (on_pages gs)

  -- the pair stands on page i
  record MoreAt (gs : List Page) (i : ℕ) : Type 0 where
    inside : i < length gs
    has : any (is p) (get_or (entries_after gs) i []) ≡ true

  more-at : (gs : List Page) → 1 ≤ tally (is p) (on_pages gs) → MoreAt gs (more_place p gs)
  more-at [] h = absurd (omega arith)
  more-at (g ∷ gs) h = go (on_page p g) refl (more-at gs)
    where
      go : (a : Bool) → on_page p g ≡ a → (1 ≤ tally (is p) (on_pages gs) → MoreAt gs (more_place p gs))
          → MoreAt (g ∷ gs) (cond a 0 (suc (more_place p gs)))
      go true e ih = record { inside = omega arith; has = e }
      go false e ih =
          let r = ih (omega (arith, parts g gs, any-no (is p) g.entries e)) in
          record { inside = omega (arith, r.inside); has = r.has }

  -- a page of n + 1 entries without one of them
  one_left : (n : ℕ) → not (ltb 0 n) || false ≡ eqb (suc n) 1
  one_left zero = refl
  one_left (suc n) = rw (lt-ltb 0 (suc n) (omega arith), ne_eqb (suc (suc n)) 1 (λ e. omega arith))

  -- it is left empty if the pair's entry is its only one
  frees-more : (gs : List Page) → tally (is p) (on_pages gs) ≤ 1 → 1 ≤ tally (is p) (on_pages gs)
      → frees p gs ≡ eqb (length (get_or (entries_after gs) (more_place p gs) [])) 1
  frees-more [] h l = absurd (omega arith)
  frees-more (g ∷ gs) h l = go (on_page p g) refl (frees-more gs (omega (arith, parts g gs)))
    where
      go : (a : Bool) → on_page p g ≡ a
          → (1 ≤ tally (is p) (on_pages gs) → frees p gs ≡ eqb (length (get_or (entries_after gs) (more_place p gs) [])) 1)
          → a && not (in_use (thin p g)) || frees p gs
          ≡ eqb (length (get_or (entries_after (g ∷ gs)) (cond a 0 (suc (more_place p gs))) [])) 1
      go true e ih =
          let y : 1 ≤ tally (is p) g.entries = any-yes (is p) g.entries e in
          let n : length g.entries ≡ suc (length (thin_entries p g.entries)) =
          omega (arith, length-parts (is p) g.entries, parts g gs) in
          ap (λ (f : Bool). not (in_use (thin p g)) || f) (frees-none p gs (omega (arith, parts g gs)))
          ∙ one_left (length (thin_entries p g.entries))
          ∙ ap (λ (k : ℕ). eqb k 1) (sym n)
      go false e ih = ih (omega (arith, parts g gs, any-no (is p) g.entries e))

-- ---- in a chain

-- the role of the page at a place of bucket b's chain
abbrev pub place_role : (b : ℕ) → Chain → (place : ℕ) → Role
place_role b c zero = bucket_page b
place_role b c (suc i) = bit_page (get_or c.more i no_page).bit

-- the pair stands on the page at place i
pub record PairAt (p : Pair) (b : ℕ) (c : Chain) (i : ℕ) : Type 0 where
  pub inside : i ≤ length c.more
  pub has : any (is p) (place_entries c i) ≡ true
  pub empties : emptied (place_role b c i) (length (place_entries c i)) ≡ freed_if (frees p c.more) c.more p
  pub over : frees p c.more ≡ true → i ≡ suc (more_place p c.more)

pub pair-at : (p : Pair) (b : ℕ) (c : Chain) → tally (is p) (entries_in c) ≤ 1 → any (is p) (entries_in c) ≡ true
    → PairAt p b c (pair_place p c)
pair-at p b c once stands = go (any (is p) c.first) refl
  where
    split : tally (is p) (entries_in c) ≡ tally (is p) c.first + tally (is p) (on_pages c.more)
    split = tally-append (is p) c.first (on_pages c.more)

    go : (a : Bool) → any (is p) c.first ≡ a → PairAt p b c (cond a 0 (suc (more_place p c.more)))
    go true e =
        let f : frees p c.more ≡ false =
        frees-none p c.more (omega (arith, split, any-yes (is p) c.first e)) in
        record {
          inside = omega arith;
          has = e;
          empties = rw f;
          over = λ h. never (cc);
        }
    go false e =
        let l : 1 ≤ tally (is p) (on_pages c.more) =
        omega (arith, split, any-no (is p) c.first e, any-yes (is p) (entries_in c) stands) in
        let r = more-at p c.more l in
        record {
          inside = r.inside;
          has = r.has;
          empties =
              ap (λ (f : Bool). freed_if f c.more p)
              (sym (frees-more p c.more (omega (arith, split)) l));
          over = λ h. refl;
        }
