-- The book of a list's last moment is what its events make of it, so it has a pair exactly when the latest accepted
-- call that bears on the pair put it in.
use Rattle.std.specs.Prelude.{◌≡◌, refl, Bool, true, false, cond, not, ◌&&◌, ◌||◌, List, [], ◌∷◌}
use Rattle.std.proofs.Common.{ap, ap₂, ◌∙◌}
use Rattle.std.proofs.Math.Option.{Option, none, some, get_or}
use Rattle.page.specs.declared.Pair.{Pair}
use Rattle.page.specs.Pair.{same}
use Rattle.model.specs.declared.Order.{Order}
use Rattle.model.specs.Machine.{Call, accepted, Machine}
use Rattle.model.specs.Book.{Book, has, Effect, empties, puts, takes, leaves, has_steps, effect, noted}
use Rattle.model.specs.BookLaws.{has-puts, has-takes}
use Rattle.model.specs.History.{Moment, last_of, within, after, history, start}
use Rattle.model.specs.HistoryLaws.{last-append, after-state, after-book}
use Rattle.model.specs.Events.{Event, events, book_after, bears, latest}

-- ---- events

one-event : (p : Pair) (a : Bool) (e : Effect) (bk : Book)
    → has (cond a (noted e bk) bk) p ≡ get_or (bears p a e) (has bk p)
one-event p false e bk = refl
one-event p true (empties o) bk = refl
one-event p true (puts q) bk = has-puts q p bk ∙ go (same p q)
  where
    go : (b : Bool) → b || has bk p ≡ get_or (cond b (some true) none) (has bk p)
    go true = refl
    go false = refl
one-event p true (takes q) bk = has-takes q p bk ∙ go (same p q)
  where
    go : (b : Bool) → not b && has bk p ≡ get_or (cond b (some false) none) (has bk p)
    go true = refl
    go false = refl
one-event p true leaves bk = refl
one-event p true (has_steps kind budget) bk = refl

has-after : (p : Pair) (es : List Event) (bk : Book) → has (book_after es bk) p ≡ get_or (latest p es) (has bk p)
has-after p [] bk = refl
has-after p (e ∷ es) bk =
    has-after p es (cond e.accepted (noted (effect e.call) bk) bk)
    ∙ go (latest p es) (one-event p e.accepted (effect e.call) bk)
  where
    own : Option Bool
    own = bears p e.accepted (effect e.call)

    go : (o : Option Bool) {b : Bool} → b ≡ get_or own (has bk p)
        → get_or o b ≡ get_or (elim o as (λ _. Option Bool) [ some c ↦ some c | none ↦ own ]) (has bk p)
    go (some c) h = refl
    go none h = h

-- ---- moments, of any machine

module _ (M : Machine) where
  -- the book of the last moment is what the events make of the first one's
  pub history-book : (cs : List Call) (t : Moment M)
      → (last_of M t (history M cs t)).book ≡ book_after (events M cs t.state) t.book
  history-book [] t = refl
  history-book (c ∷ cs) t =
      ap (λ (u : Moment M). u.book)
      (last-append M t (within M (accepted (M.run c t.state).reply) (effect c) t) (after M c t) _)
      ∙ history-book cs (after M c t)
      ∙ ap₂ (λ (s : M.State) bk. book_after (events M cs s) bk) (after-state M c t) (after-book M c t)

  -- the book has a pair exactly when, since the last accepted format, its latest accepted insert or removal is an
  -- insert
  pub book-latest : (cs : List Call) (s : M.State) (o : Order) (p : Pair)
      → let t = start M s o in
      has (last_of M t (history M cs t)).book p ≡ get_or (latest p (events M cs s)) false
  book-latest cs s o p =
      ap (λ bk. has bk p) (history-book cs (start M s o)) ∙ has-after p (events M cs s) []
