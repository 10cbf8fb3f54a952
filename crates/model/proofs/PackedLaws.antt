-- No earlier page has room: each page of the chain but the last has 40 entries, and the chain has no page too many.
use Rattle.std.specs.Prelude.{◌≡◌, ◌↔◌, Bool, true, false, ◌||◌, List, [], ◌∷◌, ◌++◌, ℕ, zero, suc, ◌+◌, ◌*◌, ◌≤◌, ◌<◌, length}
use Rattle.std.proofs.Math.Path.{refl, subst}
use Rattle.std.proofs.Common.{sym, ap, ◌∙◌, arith, ltb-false, le-ltb, length-append}
use Rattle.std.proofs.lemmas.List.{map-append}
use Rattle.std.proofs.Math.Option.{Option, none, some}
use Rattle.lists.specs.Lists.{any, Each}
use Rattle.lists.specs.ListsLaws.{eqb_no}
use Rattle.lists.specs.TestLaws.{each_left, each_right}
use Rattle.page.specs.declared.Entry.{Entry}
use Rattle.page.specs.PairLaws.{no_way}
use Rattle.model.specs.Index.{Page, Chain, on_pages, entries_in}
use Rattle.model.specs.Pages.{has_room, page_room, chain_room}
use Rattle.model.specs.Squeeze.{init, final, earlier, mover_in, mover, pages_for, pages_of}
use Rattle.model.specs.Shift.{entries_on, pages_in, Full}
use Rattle.model.specs.WellFormed.{MoreOk, ChainOk}
use Rattle.model.specs.TallyLaws.{or_left, or_right}
use Rattle.model.proofs.SqueezeLaws.{final-is, final-none, init-end, on_pages-append}

-- ---- pages without room

pub pages-full : (gs : List Page) → any page_room gs ≡ false → Each (λ (g : Page). Full g.entries) gs
pages-full [] h = tt
pages-full (g ∷ gs) h = go (page_room g) refl h (pages-full gs)
  where
    go : (b : Bool) → page_room g ≡ b → b || any page_room gs ≡ false
        → (any page_room gs ≡ false → Each (λ (k : Page). Full k.entries) gs)
        → Each (λ (k : Page). Full k.entries) (g ∷ gs)
    go true e h ih = no_way refl h
    go false e h ih = (ltb-false (length g.entries) 40 e, ih h)

pub full-pages : (gs : List Page) → Each (λ (g : Page). Full g.entries) gs → any page_room gs ≡ false
full-pages [] h = refl
full-pages (g ∷ gs) h = rw (le-ltb (length g.entries) 40 h.0) (full-pages gs h.1)

-- they have forty entries each
full-length : (gs : List Page) → Each MoreOk gs → Each (λ (g : Page). Full g.entries) gs
    → length (on_pages gs) ≡ 40 * length gs
full-length [] o h = refl
full-length (g ∷ gs) o h =
    length-append g.entries (on_pages gs)
    ∙ omega (arith, h.0, o.0.page.full, full-length gs o.1 h.1)

-- ---- a chain with nothing to move: it has one page, or no room before its last one

data Still (c : Chain) : Type 0 where
  alone : c.more ≡ [] → Still c
  filled : (g : Page) → c.more ≡ init c.more ++ g ∷ [] → chain_room (earlier c) ≡ false → Still c

mover-none : (c : Chain) → ChainOk c → mover c ≡ none → Still c
unfolding mover
mover-none c ok h = go (final c.more) (chain_room (earlier c)) refl refl h
  where
    go : (g : Option Page) (r : Bool) → final c.more ≡ g → chain_room (earlier c) ≡ r → mover_in g r ≡ none → Still c
    go none r k l h = alone (final-none c.more k)
    go (some g) false k l h = filled g (final-is c.more g k) l
    go (some g) true k l h =
        let z : length g.entries ≡ 0 = ap length (final-none g.entries h) in
        let oks : Each MoreOk (init c.more ++ g ∷ []) = subst (Each MoreOk) (final-is c.more g k) ok.more in
        absurd (omega (arith, z, (each_right MoreOk (init c.more) (g ∷ []) oks).0.used))

-- ---- how many pages

pages_for-is : (k n : ℕ) → n ≤ 40 * k + 40 → 40 * k ≤ n → (1 ≤ k → 40 * k < n) → suc k ≡ pages_for n
pages_for-is k zero u l g = omega arith
pages_for-is zero (suc n) u l g = rw (eqb_no (suc n) 0 (λ e. omega arith)) (omega arith)
pages_for-is (suc k) (suc n) u l g =
    let h : 40 * suc k < suc n = g (omega arith) in rw (eqb_no (suc n) 0 (λ e. omega arith)) (omega arith)

-- "At stop 9 a chain of n entries has exactly n / 40 pages, rounded up, or one if n is 0"
pub packed : (c : Chain) → ChainOk c → mover c ≡ none → pages_of c ≡ pages_for (length (entries_in c))
packed c ok h = go (mover-none c ok h)
  where
    all : length (entries_in c) ≡ length c.first + length (on_pages c.more)
    all = length-append c.first (on_pages c.more)

    go : Still c → pages_of c ≡ pages_for (length (entries_in c))
    go (alone z) =
        let n : length c.more ≡ 0 = ap length z in
        let o : length (on_pages c.more) ≡ 0 = ap (λ (gs : List Page). length (on_pages gs)) z in
        pages_for-is (length c.more) (length (entries_in c)) (omega (arith, all, ok.first.full))
        (omega (arith, all)) (λ q. omega arith)
    go (filled g more l) =
        let oks : Each MoreOk (init c.more ++ g ∷ []) = subst (Each MoreOk) more ok.more in
        let d = (each_right MoreOk (init c.more) (g ∷ []) oks).0 in
        let a = ltb-false (length c.first) 40 (or_left (has_room c.first) (any page_room (init c.more)) l) in
        let b = full-length (init c.more) (each_left MoreOk (init c.more) (g ∷ []) oks)
        (pages-full (init c.more) (or_right (has_room c.first) (any page_room (init c.more)) l)) in
        let n : length c.more ≡ length (init c.more) + 1 =
        ap length more ∙ length-append (init c.more) (g ∷ []) in
        let t : length (on_pages c.more) ≡ length (on_pages (init c.more)) + length g.entries =
        ap (λ (gs : List Page). length (on_pages gs)) more
        ∙ ap length (on_pages-append (init c.more) (g ∷ []))
        ∙ length-append (on_pages (init c.more)) (g.entries ++ [])
        ∙ omega (arith, length-append g.entries []) in
        pages_for-is (length c.more) (length (entries_in c))
        (omega (arith, all, ok.first.full, d.page.full)) (omega (arith, all, ok.first.full, d.used))
        (λ q. omega (arith, all, ok.first.full, d.used))

-- ---- which pages

to-pages : (gs : List Page) → Each (λ (g : Page). Full g.entries) gs → Each Full (entries_on gs)
to-pages [] h = tt
to-pages (g ∷ gs) h = (h.0, to-pages gs h.1)

of-pages : (gs : List Page) → Each Full (entries_on gs) → Each (λ (g : Page). Full g.entries) gs
of-pages [] h = tt
of-pages (g ∷ gs) h = (h.0, of-pages gs h.1)

-- all pages but the last
but_last : (c : Chain) (g : Page) → c.more ≡ init c.more ++ g ∷ []
    → init (pages_in c) ≡ c.first ∷ entries_on (init c.more)
but_last c g more =
    ap (λ (gs : List Page). init (c.first ∷ entries_on gs)) more
    ∙ ap (λ (l : List (List Entry)). init (c.first ∷ l)) (map-append (λ (h : Page). h.entries) (init c.more) (g ∷ []))
    ∙ init-end (c.first ∷ entries_on (init c.more)) g.entries

-- "no earlier page has room"
pub no_earlier-is : (c : Chain) → ChainOk c → (mover c ≡ none) ↔ Each Full (init (pages_in c))
no_earlier-is c ok = (λ h. to (mover-none c ok h), from)
  where
    to : Still c → Each Full (init (pages_in c))
    to (alone z) = subst (λ (gs : List Page). Each Full (init (c.first ∷ entries_on gs))) (sym z) tt
    to (filled g more l) =
        subst (Each Full) (sym (but_last c g more)) (
          ltb-false (length c.first) 40 (or_left (has_room c.first) (any page_room (init c.more)) l),
          to-pages (init c.more)
              (pages-full (init c.more) (or_right (has_room c.first) (any page_room (init c.more)) l)),
        )

    from : Each Full (init (pages_in c)) → mover c ≡ none
    from h = unfold mover in go (final c.more) refl
      where
        go : (g : Option Page) → final c.more ≡ g → mover_in g (chain_room (earlier c)) ≡ none
        go none k = refl
        go (some g) k =
            let f = subst (Each Full) (but_last c g (final-is c.more g k)) h in
            rw (le-ltb (length c.first) 40 f.0, full-pages (init c.more) (of-pages (init c.more) f.1))
