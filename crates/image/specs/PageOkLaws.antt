-- The page rule's entries are those of a well-formed page; bytes 0..491 of a page with a trailer after them.
use Rattle.std.specs.Prelude.{◌≡◌, refl, true, not, List, [], ◌∷◌, ◌++◌, ℕ, ◌≤◌, length, take, drop}
use Rattle.std.proofs.Common.{sym, ap, ◌∙◌, append_assoc, take_at}
use Rattle.lists.specs.Lists.{all, Each}
use Rattle.lists.specs.ListsLaws.{and_left, and_right, and_both, not_yes}
use Rattle.lists.specs.Bytes.{Bytes}
use Rattle.page.specs.declared.Entry.{Entry}
use Rattle.page.specs.Pair.{bad_pair, PairFits}
use Rattle.page.specs.Entries.{encode_page, entries_of}
use Rattle.page.specs.PageLaws.{length-encode_page}
use Rattle.page.specs.Rule.{page_ok}
use Rattle.page.specs.Allowed.{Allowed}
use Rattle.page.proofs.RuleLaws.{encode_page-entries_of, page_ok-allowed}
use Rattle.model.specs.WellFormed.{EntryOk, PageOk}

-- ---- entries that a page may have

pub allowed-page : (es : List Entry) → Allowed es → PageOk es
allowed-page es a = record { full = a.few; order = a.order; numbers = go es a.fit a.clean }
  where
    go : (es : List Entry) → Each (λ (e : Entry). PairFits e.pair) es
        → all (λ (e : Entry). not (bad_pair e.pair)) es ≡ true
        → Each EntryOk es
    go [] f c = tt
    go (e ∷ es) f c = (
      record { good = not_yes (bad_pair e.pair) (and_left (not (bad_pair e.pair)) _ c); fits = f.0 },
      go es f.1 (and_right (not (bad_pair e.pair)) _ c),
    )

pub page-allowed : (es : List Entry) → PageOk es → Allowed es
page-allowed es o =
    record { few = o.full; fit = fit es o.numbers; clean = clean es o.numbers; order = o.order }
  where
    fit : (es : List Entry) → Each EntryOk es → Each (λ (e : Entry). PairFits e.pair) es
    fit [] h = tt
    fit (e ∷ es) h = (h.0.fits, fit es h.1)

    clean : (es : List Entry) → Each EntryOk es → all (λ (e : Entry). not (bad_pair e.pair)) es ≡ true
    clean [] h = refl
    clean (e ∷ es) h = and_both (not (bad_pair e.pair)) _ (ap not h.0.good) (clean es h.1)

-- ---- bytes 0..491

pub encode_page-append : (es : List Entry) (q : List ℕ) → encode_page es [] ++ q ≡ encode_page es q
unfolding encode_page
encode_page-append es q = simp append_assoc

pub length-page_front : (es : List Entry) → length es ≤ 40 → length (encode_page es []) ≡ 492
length-page_front es h = length-encode_page es [] h

-- a page that passes, and what follows it
pub front-page : (l : List ℕ) → Bytes l → length l ≡ 512 → page_ok l ≡ true → take 492 l ≡ encode_page (entries_of l) []
front-page l bytes full ok =
    let a = page_ok-allowed l bytes ok in
    ap (take 492) (encode_page-entries_of l bytes full ok ∙ sym (encode_page-append (entries_of l) (drop 492 l)))
    ∙ take_at (encode_page (entries_of l) []) (drop 492 l) 492 (length-page_front (entries_of l) a.few)
