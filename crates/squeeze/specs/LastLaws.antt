-- A chain's last page: what a step moves out of it, by the places of the last page and of the first one with room; and
-- where an entry is found that stands in a chain once.
use Rattle.std.specs.Prelude.{◌≡◌, refl, Bool, true, false, cond, not, ◌&&◌, ◌||◌, List, [], ◌∷◌, ℕ, zero, suc, ◌≤◌, ◌<◌, eqb, ltb, length, get_or, None}
use Rattle.std.proofs.Common.{sym, ap, ap₂, ◌∙◌, arith, lt-ltb}
use Rattle.std.proofs.Math.Option.{Option, none, some}
use Rattle.std.proofs.Math.Dec.{eqb-zero-suc, eqb-suc-suc}
use Rattle.lists.specs.Lists.{any, tally}
use Rattle.lists.specs.ListsLaws.{tally-append, any-yes, zero-any, and_left, and_right, eqb_yes}
use Rattle.page.specs.declared.Pair.{Pair}
use Rattle.page.specs.declared.Entry.{Entry}
use Rattle.page.specs.Pair.{is}
use Rattle.page.specs.PairLaws.{same_refl}
use Rattle.page.specs.Places.{place_of}
use Rattle.page.specs.PlaceLaws.{place_at, place-any}
use Rattle.page.specs.SublistLaws.{each-get_or}
use Rattle.model.specs.Index.{Page, Chain, Index, on_pages, entries_in, chain, entries_at}
use Rattle.model.specs.Pages.{has_room, page_room, chain_room}
use Rattle.model.specs.Squeeze.{init, final, mover_in, mover}
use Rattle.model.specs.WellFormed.{MoreOk, ChainOk}
use Rattle.model.specs.TallyLaws.{tally-any}
use Rattle.model.proofs.MachineLaws.{never}
use Rattle.frame.specs.Frame.{first_place, room_place, last_place, entries_after, place_entries, page_block, page_entries}
use Rattle.frame.specs.Frame.{more_place, pair_place}
use Rattle.frame.specs.BehindLaws.{place_inside}
use Rattle.frame.specs.ImagesLaws.{no_page}
use Rattle.frame.specs.ListsLaws.{get_d_map}
use Rattle.chain.specs.Search.{at_slot}
use Rattle.view.specs.Places.{find_at}
use Rattle.removal.specs.PairLaws.{page-ok}
use Rattle.squeeze.specs.Spot.{room_before}

-- ---- the last of a list

final-cons : {A : Type 0} (x : A) (xs : List A) (d : A) → final (x ∷ xs) ≡ some (get_or (x ∷ xs) (length xs) d)
final-cons x [] d = refl
final-cons x (y ∷ ys) d = final-cons y ys d

pub final-get_or : {A : Type 0} (xs : List A) (i : ℕ) (d : A) → suc i ≡ length xs → final xs ≡ some (get_or xs i d)
final-get_or [] i d h = absurd (omega arith)
final-get_or (x ∷ xs) i d h =
    let e : length xs ≡ i = omega arith in
    final-cons x xs d ∙ ap (λ (j : ℕ). some (get_or (x ∷ xs) j d)) e

-- one before the last passes, if the first that passes is not the last
any-init : {A : Type 0} (t : A → Bool) (x : A) (xs : List A)
    → any t (init (x ∷ xs)) ≡ any t (x ∷ xs) && not (eqb (first_place t (x ∷ xs)) (length xs))
any-init t x [] = go (t x)
  where
    go : (a : Bool) → false ≡ (a || false) && not (eqb (cond a 0 1) 0)
    go true = refl
    go false = refl
any-init t x (y ∷ ys) = go (t x) (any-init t y ys)
  where
    go : (a : Bool) → any t (init (y ∷ ys)) ≡ any t (y ∷ ys) && not (eqb (first_place t (y ∷ ys)) (length ys))
        → a || any t (init (y ∷ ys))
        ≡ (a || any t (y ∷ ys)) && not (eqb (cond a 0 (suc (first_place t (y ∷ ys)))) (suc (length ys)))
    go true ih = sym (ap not (eqb-zero-suc (length ys)))
    go false ih =
        ih
        ∙ sym (ap (λ (q : Bool). any t (y ∷ ys) && not q) (eqb-suc-suc (first_place t (y ∷ ys)) (length ys)))

-- ---- the last page

-- a step moves the last entry of the last page, where the first page with room is another one
pub mover-last : (c : Chain) → mover c ≡ cond (room_before c) (final (place_entries c (last_place c))) none
unfolding mover
mover-last c = go c.first c.more
  where
    last : (g : Page) (gs : List Page) (d : Page)
        → (get_or (g ∷ gs) (length gs) d).entries ≡ get_or (entries_after (g ∷ gs)) (length gs) []
    last g [] d = refl
    last g (h ∷ gs) d = last h gs d

    alone : (a : Bool) (o : Option Entry) → none ≡ cond ((a || false) && not (eqb (cond a 0 1) 0)) o none
    alone true o = refl
    alone false o = refl

    earlier-room : (a : Bool) (g : Page) (gs : List Page)
        → a || any page_room (init (g ∷ gs))
        ≡ (a || any page_room (g ∷ gs)) && not (eqb (cond a 0 (suc (first_place page_room (g ∷ gs)))) (suc (length gs)))
    earlier-room true g gs = sym (ap not (eqb-zero-suc (length gs)))
    earlier-room false g gs =
        any-init page_room g gs
        ∙ sym (ap (λ (q : Bool). any page_room (g ∷ gs) && not q)
        (eqb-suc-suc (first_place page_room (g ∷ gs)) (length gs)))

    by-room : (g : Page) (a : Bool) → mover_in (some g) a ≡ cond a (final g.entries) none
    by-room g true = refl
    by-room g false = refl

    go : (f : List Entry) (gs : List Page)
        → let d : Chain = record { first = f; more = gs } in
        mover d ≡ cond (room_before d) (final (place_entries d (last_place d))) none
    go f [] = alone (has_room f) (final f)
    go f (g ∷ gs) =
        (λ t. mover_in (final-cons g gs g t) (earlier-room (has_room f) g gs t))
        ∙ by-room (get_or (g ∷ gs) (length gs) g) (room_before (record { first = f; more = g ∷ gs }))
        ∙ ap (λ (es : List Entry). cond (room_before (record { first = f; more = g ∷ gs })) (final es) none) (last g gs g)

pub room-inside : (c : Chain) → chain_room c ≡ true → room_place c ≤ last_place c
room-inside = place_inside (record { pair = record { hash = 0; block = 0; offset = 0 }; moved = false })

-- it is an overflow page, and has entries
pub last-used : (c : Chain) → ChainOk c → room_before c ≡ true → 1 ≤ length (place_entries c (last_place c))
last-used c o h = go (length c.more) refl
  where
    go : (n : ℕ) → length c.more ≡ n → 1 ≤ length (place_entries c n)
    go zero e =
        let i = room-inside c (and_left (chain_room c) _ h) in
        let q : room_place c ≡ last_place c = omega (arith, i, e) in
        let f = eqb_yes (room_place c) (last_place c) q in
        let k = and_right (chain_room c) (not (eqb (room_place c) (last_place c))) h in
        never (cc)
    go (suc i) e =
        rw (get_d_map (λ (g : Page). g.entries) c.more i no_page [] (omega (arith, e)))
        (each-get_or MoreOk c.more i no_page o.more (omega (arith, e))).used

-- ---- a pair that stands in a chain once

module _ (p : Pair) where
  more-once : (gs : List Page) (i : ℕ) → any (is p) (get_or (entries_after gs) i []) ≡ true
      → tally (is p) (on_pages gs) ≤ 1 → (1 ≤ tally (is p) (on_pages gs)) × (more_place p gs ≡ i)
  more-once [] i h o = never (cc)
  more-once (g ∷ gs) zero h o = (
    omega (arith, tally-append (is p) g.entries (on_pages gs), any-yes (is p) g.entries h),
    ap (λ (a : Bool). cond a 0 (suc (more_place p gs))) h,
  )
  more-once (g ∷ gs) (suc i) h o =
      let k = tally-append (is p) g.entries (on_pages gs) in
      let r = more-once gs i h (omega (arith, k, o)) in (
        omega (arith, k, r.0),
        ap (λ (a : Bool). cond a 0 (suc (more_place p gs))) (zero-any (is p) g.entries (omega (arith, k, o, r.0)))
            ∙ ap suc r.1,
      )

  -- stands there, and on the page at place i alone
  once-at : (c : Chain) (i : ℕ) → any (is p) (place_entries c i) ≡ true → tally (is p) (entries_in c) ≤ 1
      → (any (is p) (entries_in c) ≡ true) × (pair_place p c ≡ i)
  once-at c zero h o = (
    tally-any (is p) (entries_in c) true
        (omega (arith, o, tally-append (is p) c.first (on_pages c.more), any-yes (is p) c.first h)),
    ap (λ (a : Bool). cond a 0 (suc (more_place p c.more))) h,
  )
  once-at c (suc i) h o =
      let k = tally-append (is p) c.first (on_pages c.more) in
      let r = more-once c.more i h (omega (arith, k, o)) in (
        tally-any (is p) (entries_in c) true (omega (arith, k, o, r.0)),
        ap (λ (a : Bool). cond a 0 (suc (more_place p c.more)))
            (zero-any (is p) c.first (omega (arith, k, o, r.0)))
            ∙ ap suc r.1,
      )

-- the entry in slot n of the page at place i is found there
pub found_at : (x : Index) (b i n : ℕ) (d : Entry) → ChainOk (chain x b) → i ≤ length (chain x b).more
    → n < length (page_entries x b i)
    → tally (is (get_or (page_entries x b i) n d).pair) (entries_at x b) ≤ 1
    → find_at x b (get_or (page_entries x b i) n d).pair ≡ at_slot (page_block x b i) n
unfolding find_at
found_at x b i n d ok inside l once =
    let es : List Entry = page_entries x b i in
    let p : Pair = (get_or es n d).pair in
    let order = (page-ok (chain x b) ok i inside).order in
    let at : place_of p es ≡ n = place_at es n d order l in
    let has : any (is p) es ≡ true =
    place-any p es d order ∙ (λ t. ltb (at t) (length es) && is p (get_or es (at t) d))
    ∙ ap₂ ◌&&◌ (lt-ltb n (length es) l) (same_refl p) in
    let q = once-at p (chain x b) i has once in
    (λ t. cond (q.0 t) (at_slot (page_block x b (q.1 t)) (place_of p (page_entries x b (q.1 t)))) None)
    ∙ ap (at_slot (page_block x b i)) at
