-- A squeeze's step moves the last entry of the last page to the first earlier page with room, page by page.
use Rattle.std.specs.Prelude.{◌≡◌, refl, Bool, true, false, cond, ◌||◌, List, [], ◌∷◌, ◌++◌, ℕ, ◌<◌, ltb, length}
use Rattle.std.proofs.Common.{ap, ap₂, ◌∙◌, append_assoc, ltb-true, ltb-false}
use Rattle.std.proofs.lemmas.List.{map-append}
use Rattle.lists.specs.Lists.{any, keep, Each}
use Rattle.page.specs.declared.Entry.{Entry}
use Rattle.model.specs.Index.{Page, Chain}
use Rattle.model.specs.Pages.{has_room, page_room, chain_room, enter_entry, add_more, add_entry}
use Rattle.model.specs.Squeeze.{squeezed}
use Rattle.model.specs.Shift.{entries_on, pages_in, Full, Moves}
use Rattle.model.proofs.MachineLaws.{never}
use Rattle.model.proofs.SqueezeLaws.{Moving, pages, page, rest, behind}

-- an entry into the first page with room
record Enters (e : Entry) (before after : List (List Entry)) : Type 0 where
  full : List (List Entry)
  target : List Entry
  later : List (List Entry)
  was : before ≡ full ++ target ∷ later
  is : after ≡ full ++ enter_entry e target ∷ later
  none : Each Full full
  room : length target < 40

-- behind a full page
later-enters : {e : Entry} {before after : List (List Entry)} (es : List Entry) → Full es → Enters e before after
    → Enters e (es ∷ before) (es ∷ after)
later-enters es h n =
    record {
      full = es ∷ n.full;
      target = n.target;
      later = n.later;
      was = ap (λ (l : List (List Entry)). es ∷ l) n.was;
      is = ap (λ (l : List (List Entry)). es ∷ l) n.is;
      none = (h, n.none);
      room = n.room;
    }

more-enters : (e : Entry) (gs : List Page) → any page_room gs ≡ true → Enters e (entries_on gs) (entries_on (add_more e gs))
more-enters e [] h = never (cc)
more-enters e (g ∷ gs) h = go (page_room g) refl h (more-enters e gs)
  where
    go : (b : Bool) → page_room g ≡ b → b || any page_room gs ≡ true
        → (any page_room gs ≡ true → Enters e (entries_on gs) (entries_on (add_more e gs)))
        → Enters e (entries_on (g ∷ gs))
        (entries_on (cond b (page g.bit (enter_entry e g.entries) ∷ gs) (g ∷ add_more e gs)))
    go true k h ih =
        record {
          full = [];
          target = g.entries;
          later = entries_on gs;
          was = refl;
          is = refl;
          none = tt;
          room = ltb-true (length g.entries) 40 k;
        }
    go false k h ih = later-enters g.entries (ltb-false (length g.entries) 40 k) (ih h)

chain-enters : (e : Entry) (c : Chain) → chain_room c ≡ true → Enters e (pages_in c) (pages_in (add_entry e c))
chain-enters e c h = go (has_room c.first) refl h
  where
    go : (b : Bool) → has_room c.first ≡ b → b || any page_room c.more ≡ true
        → Enters e (pages_in c)
        (pages_in (cond b (pages (enter_entry e c.first) c.more) (pages c.first (add_more e c.more))))
    go true k h =
        record {
          full = [];
          target = c.first;
          later = entries_on c.more;
          was = refl;
          is = refl;
          none = tt;
          room = ltb-true (length c.first) 40 k;
        }
    go false k h =
        later-enters c.first (ltb-false (length c.first) 40 k) (more-enters e c.more h)

pages-behind : (hs : List Page) (c : Chain) → pages_in (behind hs c) ≡ pages_in c ++ entries_on hs
pages-behind hs c = ap (λ (l : List (List Entry)). c.first ∷ l) (map-append (λ (g : Page). g.entries) c.more hs)

rest-pages : (n : ℕ) (es : List Entry) → entries_on (rest n es) ≡ keep (λ (ds : List Entry). ltb 0 (length ds)) (es ∷ [])
rest-pages n es = go (ltb 0 (length es))
  where
    go : (b : Bool) → entries_on (cond b (page n es ∷ []) []) ≡ cond b (es ∷ []) []
    go true = refl
    go false = refl

pub moving-moves : (c : Chain) (e : Entry) → Moving c e → Moves (pages_in c) (pages_in (squeezed e c))
moving-moves c e m =
    record {
      full = n.full;
      target = n.target;
      between = n.later;
      rest = m.entries;
      entry = e;
      was =
          ap pages_in m.shape
          ∙ pages-behind (page m.bit (m.entries ++ e ∷ []) ∷ []) front
          ∙ ap (λ (l : List (List Entry)). l ++ (m.entries ++ e ∷ []) ∷ []) n.was
          ∙ append_assoc n.full (n.target ∷ n.later) ((m.entries ++ e ∷ []) ∷ []);
      is =
          ap pages_in m.after
          ∙ pages-behind (rest m.bit m.entries) (add_entry e front)
          ∙ ap₂ (λ (l k : List (List Entry)). l ++ k) n.is (rest-pages m.bit m.entries)
          ∙ append_assoc n.full (enter_entry e n.target ∷ n.later)
          (keep (λ (ds : List Entry). ltb 0 (length ds)) (m.entries ∷ []));
      none = n.none;
      room = n.room;
    }
  where
    front : Chain
    front = pages c.first m.before

    n : Enters e (pages_in (pages c.first m.before)) (pages_in (add_entry e (pages c.first m.before)))
    n = chain-enters e (pages c.first m.before) m.room
