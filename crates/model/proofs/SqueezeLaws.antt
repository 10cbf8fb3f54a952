-- A squeeze's step, in one chain: what it leaves there, with the same entries and by the rules of pages.
use Rattle.std.specs.Prelude.{◌≡◌, refl, Bool, true, false, cond, not, ◌||◌, List, [], ◌∷◌, ◌++◌, map, ℕ, ◌+◌, ◌≤◌, length}
use Rattle.std.proofs.Common.{sym, ap, ap₂, ◌∙◌, subst, append-nil, append_assoc, arith, ltb-false}
use Rattle.std.proofs.lemmas.List.{map-append}
use Rattle.std.proofs.Math.Option.{Option, none, some}
use Rattle.lists.specs.Lists.{b2n, any, tally, keep, Each}
use Rattle.lists.specs.ListsLaws.{tally-append, tally-none, keep_append, any_append}
use Rattle.lists.specs.TestLaws.{each_left, each_right}
use Rattle.page.specs.declared.Pair.{Pair}
use Rattle.page.specs.declared.Entry.{Entry}
use Rattle.page.specs.Pair.{is}
use Rattle.page.specs.PairLaws.{no_way, same_refl}
use Rattle.model.specs.Index.{Page, Chain, on_pages, entries_in}
use Rattle.model.specs.Pages.{has_room, page_room, chain_room, enter_entry, add_more, add_entry, bits_of, thin_entries}
use Rattle.model.specs.Pages.{thin, in_use, without}
use Rattle.model.specs.Squeeze.{init, final, earlier, mover_in, mover, shortened, squeezed}
use Rattle.model.specs.WellFormed.{EntryOk, MoreOk, ChainOk}
use Rattle.model.specs.ChainLaws.{tally-add, bits-add, bits-without, thin-none, pages-none}
use Rattle.model.specs.ChainOkLaws.{add_entry-ok, without-ok}

-- ---- the last of a list

module _ {A : Type 0} where
  pub final-is : (xs : List A) (x : A) → final xs ≡ some x → xs ≡ init xs ++ x ∷ []
  final-is [] x h = let z : ◌≡◌ {A = ℕ} 0 1 = cc in absurd (omega arith)
  final-is (y ∷ []) x h = cc
  final-is (y ∷ z ∷ zs) x h = ap (λ (l : List A). y ∷ l) (final-is (z ∷ zs) x h)

  pub final-none : (xs : List A) → final xs ≡ none → xs ≡ []
  final-none [] h = refl
  final-none (x ∷ []) h = let z : ◌≡◌ {A = ℕ} 0 1 = cc in absurd (omega arith)
  final-none (x ∷ y ∷ ys) h =
      let k : y ∷ ys ≡ [] = final-none (y ∷ ys) h in let z : ◌≡◌ {A = ℕ} 0 1 = cc in absurd (omega arith)

  pub init-end : (xs : List A) (x : A) → init (xs ++ x ∷ []) ≡ xs
  init-end [] x = refl
  init-end (y ∷ []) x = refl
  init-end (y ∷ z ∷ zs) x = ap (λ (l : List A). y ∷ l) (init-end (z ∷ zs) x)

-- ---- a chain whose last page ends with an entry that moves

abbrev pub pages : List Entry → List Page → Chain
pages f gs = record { first = f; more = gs }

abbrev pub page : (bit : ℕ) → List Entry → Page
page n es = record { bit = n; entries = es }

-- the last page without that entry, or nothing
abbrev pub rest : (bit : ℕ) → List Entry → List Page
rest n es = keep in_use (page n es ∷ [])

-- a chain with pages behind it
abbrev pub behind : List Page → Chain → Chain
behind hs c = record { first = c.first; more = c.more ++ hs }

pub record Moving (c : Chain) (e : Entry) : Type 0 where
  pub before : List Page
  pub bit : ℕ
  pub entries : List Entry
  pub shape : c ≡ pages c.first (before ++ page bit (entries ++ e ∷ []) ∷ [])
  pub early : earlier c ≡ pages c.first before
  pub room : chain_room (pages c.first before) ≡ true
  -- what the step leaves of the last page, and of the chain
  pub left : shortened (final c.more) ≡ rest bit entries
  pub after : squeezed e c ≡ behind (rest bit entries) (add_entry e (pages c.first before))

pub mover-is : (c : Chain) (e : Entry) → mover c ≡ some e → Moving c e
unfolding mover
mover-is c e h = go (final c.more) (chain_room (earlier c)) refl refl h
  where
    go : (g : Option Page) (r : Bool) → final c.more ≡ g → chain_room (earlier c) ≡ r → mover_in g r ≡ some e
        → Moving c e
    go none r k l h = let z : ◌≡◌ {A = ℕ} 0 1 = cc in absurd (omega arith)
    go (some g) false k l h = let z : ◌≡◌ {A = ℕ} 0 1 = cc in absurd (omega arith)
    go (some g) true k l h =
        record {
          before = init c.more;
          bit = g.bit;
          entries = init g.entries;
          shape =
              ap (pages c.first)
              (final-is c.more g k
              ∙ ap (λ (es : List Entry). init c.more ++ page g.bit es ∷ []) (final-is g.entries e h));
          early = refl;
          room = l;
          left = ap shortened k;
          after = ap (λ (o : Option Page). behind (shortened o) (add_entry e (earlier c))) k;
        }

-- ---- pages behind a chain

pub on_pages-append : (gs hs : List Page) → on_pages (gs ++ hs) ≡ on_pages gs ++ on_pages hs
on_pages-append [] hs = refl
on_pages-append (g ∷ gs) hs =
    ap (λ (es : List Entry). g.entries ++ es) (on_pages-append gs hs)
    ∙ sym (append_assoc g.entries (on_pages gs) (on_pages hs))

behind-tally : (t : Entry → Bool) (hs : List Page) (c : Chain)
    → tally t (entries_in (behind hs c)) ≡ tally t (entries_in c) + tally t (on_pages hs)
behind-tally t hs c = simp (on_pages-append, tally-append) (omega arith)

behind-room : (hs : List Page) (c : Chain) → chain_room c ≡ true → chain_room (behind hs c) ≡ true
behind-room hs c h =
    rw (any_append page_room c.more hs) (go (has_room c.first) (any page_room c.more) (any page_room hs) h)
  where
    go : (a b d : Bool) → a || b ≡ true → a || (b || d) ≡ true
    go true b d h = refl
    go false true d h = refl
    go false false d h = no_way h refl

-- an entry goes into the same page
behind-add : (e : Entry) (hs : List Page) (c : Chain) → chain_room c ≡ true
    → add_entry e (behind hs c) ≡ behind hs (add_entry e c)
behind-add e hs c h = go (has_room c.first) h
  where
    more : (gs : List Page) → any page_room gs ≡ true → add_more e (gs ++ hs) ≡ add_more e gs ++ hs
    more [] h = let z : ◌≡◌ {A = ℕ} 0 1 = cc in absurd (omega arith)
    more (g ∷ gs) h = at (page_room g) (more gs) h
      where
        at : (b : Bool) → (any page_room gs ≡ true → add_more e (gs ++ hs) ≡ add_more e gs ++ hs)
            → b || any page_room gs ≡ true
            → cond b (page g.bit (enter_entry e g.entries) ∷ (gs ++ hs)) (g ∷ add_more e (gs ++ hs))
            ≡ cond b (page g.bit (enter_entry e g.entries) ∷ gs) (g ∷ add_more e gs) ++ hs
        at true ih h = refl
        at false ih h = ap (λ (l : List Page). g ∷ l) (ih h)

    go : (b : Bool) → b || any page_room c.more ≡ true
        → cond b (pages (enter_entry e c.first) (c.more ++ hs)) (pages c.first (add_more e (c.more ++ hs)))
        ≡ behind hs (cond b (pages (enter_entry e c.first) c.more) (pages c.first (add_more e c.more)))
    go true h = refl
    go false h = ap (pages c.first) (more c.more h)

-- ---- the step

module _ (c : Chain) (e : Entry) (ok : ChainOk c) (once : tally (is e.pair) (entries_in c) ≤ 1)
    (m : Moving c e) where
  abbrev front : Chain
  front = pages c.first m.before

  -- how often entries stand in the chain
  moving-tally : (t : Entry → Bool)
      → tally t (entries_in c) ≡ tally t (entries_in front) + (tally t m.entries + b2n (t e))
  moving-tally t =
      ap (λ (d : Chain). tally t (entries_in d)) m.shape
      ∙ behind-tally t (page m.bit (m.entries ++ e ∷ []) ∷ []) front
      ∙ simp tally-append (omega arith)

  -- the pair stands nowhere else
  pub nowhere : tally (is e.pair) c.first + tally (is e.pair) (on_pages m.before)
      + tally (is e.pair) m.entries ≡ 0
  nowhere =
      omega (
        arith,
        moving-tally (is e.pair),
        once,
        ap b2n (same_refl e.pair),
        tally-append (is e.pair) c.first (on_pages m.before),
      )

  more-ok : Each MoreOk (m.before ++ page m.bit (m.entries ++ e ∷ []) ∷ [])
  more-ok = subst (λ (d : Chain). Each MoreOk d.more) m.shape ok.more

  pub last-thin : thin_entries e.pair (m.entries ++ e ∷ []) ≡ m.entries
  last-thin =
      keep_append (λ d. not (is e.pair d)) m.entries (e ∷ [])
      ∙ ap₂ (λ (ds es : List Entry). ds ++ es) (thin-none e.pair m.entries (omega (arith, nowhere))) gone
      ∙ append-nil m.entries
    where
      gone : thin_entries e.pair (e ∷ []) ≡ []
      gone = rw (same_refl e.pair)

  -- the entry taken out: nothing changes but the last page
  pub without_is : without e.pair c ≡ behind (rest m.bit m.entries) front
  without_is =
      ap (without p) m.shape
      ∙ ap₂ pages (thin-none p c.first (omega (arith, nowhere)))
      (ap (keep in_use) (map-append (thin p) m.before (last ∷ []))
      ∙ keep_append in_use (map (thin p) m.before) (thin p last ∷ [])
      ∙ ap₂ (λ (gs hs : List Page). gs ++ hs)
      (pages-none p m.before (each_left MoreOk m.before (last ∷ []) more-ok) (omega (arith, nowhere)))
      (ap (rest m.bit) last-thin))
    where
      p : Pair
      p = e.pair

      last : Page
      last = page m.bit (m.entries ++ e ∷ [])

  pub without-room : chain_room (without e.pair c) ≡ true
  without-room = ap chain_room without_is ∙ behind-room (rest m.bit m.entries) front m.room

  -- "a page left empty is freed as by a removal": the step is a removal of the pair, and then an insert
  pub squeezed-is : squeezed e c ≡ add_entry e (without e.pair c)
  squeezed-is =
      m.after ∙ sym (behind-add e (rest m.bit m.entries) front m.room) ∙ ap (add_entry e) (sym without_is)

  rest-tally : (t : Entry → Bool) → tally t (on_pages (rest m.bit m.entries)) ≡ tally t m.entries
  rest-tally t = go (in_use (page m.bit m.entries)) refl
    where
      go : (b : Bool) → in_use (page m.bit m.entries) ≡ b
          → tally t (on_pages (cond b (page m.bit m.entries ∷ []) [])) ≡ tally t m.entries
      go true k = ap (tally t) (append-nil m.entries)
      go false k = sym (tally-none t m.entries (ltb-false 0 (length m.entries) k))

  -- the chain's entries stand as often as they did
  pub squeezed-tally : (t : Entry → Bool) → tally t (entries_in (squeezed e c)) ≡ tally t (entries_in c)
  squeezed-tally t =
      ap (λ (d : Chain). tally t (entries_in d)) m.after
      ∙ behind-tally t (rest m.bit m.entries) (add_entry e front)
      ∙ omega (arith, tally-add t e front m.room, rest-tally t, moving-tally t)

  pub squeezed-bits : (t : ℕ → Bool) → tally t (bits_of (squeezed e c)) ≤ tally t (bits_of c)
  squeezed-bits t =
      omega (
        arith,
        ap (λ (d : Chain). tally t (bits_of d)) squeezed-is,
        bits-add t e (without e.pair c),
        bits-without t e.pair c,
      )

  without-none : tally (is e.pair) (entries_in (without e.pair c)) ≡ 0
  without-none =
      ap (λ (d : Chain). tally (is e.pair) (entries_in d)) without_is
      ∙ behind-tally (is e.pair) (rest m.bit m.entries) front
      ∙ omega (
        arith,
        tally-append (is e.pair) c.first (on_pages m.before),
        rest-tally (is e.pair),
        nowhere,
      )

  mover-ok : EntryOk e
  mover-ok =
      (each_right EntryOk m.entries (e ∷ [])
      (each_right MoreOk m.before (page m.bit (m.entries ++ e ∷ []) ∷ []) more-ok).0.page.numbers).0

  pub squeezed-ok : ChainOk (squeezed e c)
  squeezed-ok =
      subst ChainOk (sym squeezed-is)
      (add_entry-ok e mover-ok (without e.pair c) without-none (without-ok e.pair c ok))
