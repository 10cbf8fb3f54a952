-- A chain that an entry is added to, or that a pair is taken out of, keeps the rules of pages.
use Rattle.std.specs.Prelude.{◌≡◌, refl, Bool, true, false, cond, not, List, [], ◌∷◌, map, ℕ, ◌+◌, length}
use Rattle.std.proofs.Common.{sym, ◌∙◌, arith, ltb-true}
use Rattle.std.proofs.Math.Option.{some}
use Rattle.lists.specs.Lists.{tally, keep, find, Each}
use Rattle.lists.specs.ListsLaws.{tally-append, each_append, each-find}
use Rattle.page.specs.declared.Pair.{Pair}
use Rattle.page.specs.declared.Entry.{Entry}
use Rattle.page.specs.Pair.{is, pair_of}
use Rattle.page.specs.SublistLaws.{sublist-keep, each-sublist, length-sublist}
use Rattle.page.specs.AscendingLaws.{length-enter, each-enter, ascending-sublist, ascending-enter}
use Rattle.model.specs.Index.{Page, Chain, on_pages, entries_in, no_chain}
use Rattle.model.specs.Pages.{has_room, page_room, enter_entry, add_more, add_entry, add_page, thin_entries, thin}
use Rattle.model.specs.Pages.{in_use, without}
use Rattle.model.specs.WellFormed.{EntryOk, PageOk, MoreOk, ChainOk}

pub no_chain-ok : ChainOk no_chain
no_chain-ok = record { first = record { full = omega arith; order = refl; numbers = tt }; more = tt }

-- ---- an entry into a page

module _ (e : Entry) (ok : EntryOk e) where
  enter-ok : (es : List Entry) → tally (is e.pair) es ≡ 0 → has_room es ≡ true → PageOk es → PageOk (enter_entry e es)
  enter-ok es z r o =
      record {
        full = omega (arith, length-enter pair_of e es, ltb-true (length es) 40 r);
        order = ascending-enter pair_of e es z o.order;
        numbers = each-enter pair_of EntryOk e es ok o.numbers;
      }

  add_more-ok : (gs : List Page) → tally (is e.pair) (on_pages gs) ≡ 0 → Each MoreOk gs → Each MoreOk (add_more e gs)
  add_more-ok [] z o = tt
  add_more-ok (g ∷ gs) z o = go (page_room g) refl (add_more-ok gs)
    where
      w : tally (is e.pair) g.entries + tally (is e.pair) (on_pages gs) ≡ 0
      w = sym (tally-append (is e.pair) g.entries (on_pages gs)) ∙ z

      go : (b : Bool) → page_room g ≡ b
          → (tally (is e.pair) (on_pages gs) ≡ 0 → Each MoreOk gs → Each MoreOk (add_more e gs))
          → Each MoreOk (cond b (record { bit = g.bit; entries = enter_entry e g.entries } ∷ gs) (g ∷ add_more e gs))
      go true k ih = (
        record {
          used = omega (arith, length-enter pair_of e g.entries);
          page = enter-ok g.entries (omega (arith, w)) k o.0.page;
        },
        o.1,
      )
      go false k ih = (o.0, ih (omega (arith, w)) o.1)

  pub add_entry-ok : (c : Chain) → tally (is e.pair) (entries_in c) ≡ 0 → ChainOk c → ChainOk (add_entry e c)
  add_entry-ok c z o = go (has_room c.first) refl
    where
      w : tally (is e.pair) c.first + tally (is e.pair) (on_pages c.more) ≡ 0
      w = sym (tally-append (is e.pair) c.first (on_pages c.more)) ∙ z

      go : (b : Bool) → has_room c.first ≡ b
          → ChainOk (cond b (record { first = enter_entry e c.first; more = c.more })
          (record { first = c.first; more = add_more e c.more }))
      go true k = record { first = enter-ok c.first (omega (arith, w)) k o.first; more = o.more }
      go false k = record { first = o.first; more = add_more-ok c.more (omega (arith, w)) o.more }

  pub add_page-ok : (n : ℕ) (c : Chain) → ChainOk c → ChainOk (add_page n e c)
  add_page-ok n c o =
      record {
        first = o.first;
        more = each_append MoreOk c.more _ o.more
            (record { used = omega arith; page = one }, tt);
      }
    where
      one : PageOk (e ∷ [])
      one = record { full = omega arith; order = refl; numbers = (ok, tt) }

-- ---- a pair out of the pages

keep-ok : (t : Entry → Bool) (es : List Entry) → PageOk es → PageOk (keep t es)
keep-ok t es o =
    record {
      full = omega (arith, length-sublist (sublist-keep t es), o.full);
      order = ascending-sublist pair_of (sublist-keep t es) o.order;
      numbers = each-sublist EntryOk (sublist-keep t es) o.numbers;
    }

pub without-ok : (p : Pair) (c : Chain) → ChainOk c → ChainOk (without p c)
without-ok p c o = record { first = keep-ok (λ e. not (is p e)) c.first o.first; more = go c.more o.more }
  where
    go : (gs : List Page) → Each MoreOk gs → Each MoreOk (keep in_use (map (thin p) gs))
    go [] k = tt
    go (g ∷ gs) k = at (in_use (thin p g)) refl (go gs k.1)
      where
        at : (b : Bool) → in_use (thin p g) ≡ b → Each MoreOk (keep in_use (map (thin p) gs))
            → Each MoreOk (cond b (thin p g ∷ keep in_use (map (thin p) gs)) (keep in_use (map (thin p) gs)))
        at true e ih = (
          record {
            used = ltb-true 0 (length (thin_entries p g.entries)) e;
            page = keep-ok (λ e. not (is p e)) g.entries k.0.page;
          },
          ih,
        )
        at false e ih = ih

-- ---- the entries of a chain

pub entries-ok : (c : Chain) → ChainOk c → Each EntryOk (entries_in c)
entries-ok c o = each_append EntryOk c.first _ o.first.numbers (go c.more o.more)
  where
    go : (gs : List Page) → Each MoreOk gs → Each EntryOk (on_pages gs)
    go [] k = tt
    go (g ∷ gs) k = each_append EntryOk g.entries _ k.0.page.numbers (go gs k.1)

pub found_ok : (t : Entry → Bool) (c : Chain) (e : Entry) → ChainOk c → find t (entries_in c) ≡ some e → EntryOk e
found_ok t c e o h = each-find EntryOk t (entries_in c) e (entries-ok c o) h
