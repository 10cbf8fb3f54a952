-- How often entries and overflow bits stand in a chain after an entry or a page was added, or a pair taken out; pages
-- without the pair stay.
use Rattle.std.specs.Prelude.{◌≡◌, refl, Bool, true, false, cond, not, ◌&&◌, ◌||◌, List, [], ◌∷◌, ◌++◌, map, ℕ, ◌+◌, ◌≤◌, length}
use Rattle.std.proofs.Common.{ap, ◌∙◌, arith, ltb-false, lt-ltb}
use Rattle.lists.specs.Lists.{b2n, any, tally, keep, Each}
use Rattle.lists.specs.ListsLaws.{tally-append, tally-keep, tally-none}
use Rattle.page.specs.declared.Pair.{Pair}
use Rattle.page.specs.declared.Entry.{Entry}
use Rattle.page.specs.Pair.{is, pair_of}
use Rattle.page.specs.AscendingLaws.{tally-enter}
use Rattle.model.specs.Index.{Page, Chain, on_pages, entries_in}
use Rattle.model.specs.Pages.{has_room, page_room, chain_room, enter_entry, add_more, add_entry, add_page, bits_of}
use Rattle.model.specs.Pages.{thin_entries, thin, in_use, without}
use Rattle.model.specs.WellFormed.{MoreOk}

abbrev bit_of : Page → ℕ
bit_of g = g.bit

-- ---- entries, by any test t

module _ (t : Entry → Bool) where
  tally-add_more : (e : Entry) (gs : List Page) → any page_room gs ≡ true
      → tally t (on_pages (add_more e gs)) ≡ b2n (t e) + tally t (on_pages gs)
  tally-add_more e [] h = let z : ◌≡◌ {A = ℕ} 0 1 = cc in absurd (omega arith)
  tally-add_more e (g ∷ gs) h = go (page_room g) (tally-add_more e gs) h
    where
      go : (b : Bool)
          → (any page_room gs ≡ true → tally t (on_pages (add_more e gs)) ≡ b2n (t e) + tally t (on_pages gs))
          → b || any page_room gs ≡ true
          → tally t (on_pages (cond b (record { bit = g.bit; entries = enter_entry e g.entries } ∷ gs)
          (g ∷ add_more e gs)))
          ≡ b2n (t e) + tally t (g.entries ++ on_pages gs)
      go true ih h = simp tally-append (omega (arith, tally-enter pair_of t e g.entries))
      go false ih h = simp tally-append (omega (arith, ih h))

  pub tally-add : (e : Entry) (c : Chain) → chain_room c ≡ true
      → tally t (entries_in (add_entry e c)) ≡ b2n (t e) + tally t (entries_in c)
  tally-add e c h = go (has_room c.first) h
    where
      go : (b : Bool) → b || any page_room c.more ≡ true
          → tally t (entries_in (cond b (record { first = enter_entry e c.first; more = c.more })
          (record { first = c.first; more = add_more e c.more })))
          ≡ b2n (t e) + tally t (entries_in c)
      go true h = simp tally-append (omega (arith, tally-enter pair_of t e c.first))
      go false h = simp tally-append (omega (arith, tally-add_more e c.more h))

  tally-more : (e : Entry) (n : ℕ) (gs : List Page)
      → tally t (on_pages (gs ++ record { bit = n; entries = e ∷ [] } ∷ [])) ≡ b2n (t e) + tally t (on_pages gs)
  tally-more e n [] = refl
  tally-more e n (g ∷ gs) = simp tally-append (omega (arith, tally-more e n gs))

  pub tally-page : (e : Entry) (n : ℕ) (c : Chain)
      → tally t (entries_in (add_page n e c)) ≡ b2n (t e) + tally t (entries_in c)
  tally-page e n c = simp tally-append (omega (arith, tally-more e n c.more))

  tally-in_use : (gs : List Page) → tally t (on_pages (keep in_use gs)) ≡ tally t (on_pages gs)
  tally-in_use [] = refl
  tally-in_use (g ∷ gs) = go (in_use g) refl (tally-in_use gs)
    where
      go : (b : Bool) → in_use g ≡ b → tally t (on_pages (keep in_use gs)) ≡ tally t (on_pages gs)
          → tally t (on_pages (cond b (g ∷ keep in_use gs) (keep in_use gs))) ≡ tally t (g.entries ++ on_pages gs)
      go true e ih = simp tally-append (omega arith)
      go false e ih =
          simp tally-append (omega (arith, tally-none t g.entries (ltb-false 0 (length g.entries) e)))

  tally-thin : (p : Pair) (gs : List Page)
      → tally t (on_pages (map (thin p) gs)) ≡ tally (λ e. not (is p e) && t e) (on_pages gs)
  tally-thin p [] = refl
  tally-thin p (g ∷ gs) =
      simp tally-append (omega (arith, tally-keep t (λ e. not (is p e)) g.entries, tally-thin p gs))

  pub tally-without : (p : Pair) (c : Chain)
      → tally t (entries_in (without p c)) ≡ tally (λ e. not (is p e) && t e) (entries_in c)
  tally-without p c =
      simp tally-append
      (omega (
        arith,
        tally-keep t (λ e. not (is p e)) c.first,
        tally-in_use (map (thin p) c.more),
        tally-thin p c.more,
      ))

-- ---- overflow bits, by any test t

module _ (t : ℕ → Bool) where
  abbrev on_bits : List Page → ℕ
  on_bits gs = tally t (map bit_of gs)

  pub bits-add : (e : Entry) (c : Chain) → tally t (bits_of (add_entry e c)) ≡ tally t (bits_of c)
  bits-add e c = at (has_room c.first)
    where
      go : (gs : List Page) → on_bits (add_more e gs) ≡ on_bits gs
      go [] = refl
      go (g ∷ gs) = page (page_room g) (go gs)
        where
          page : (b : Bool) → on_bits (add_more e gs) ≡ on_bits gs
              → on_bits (cond b (record { bit = g.bit; entries = enter_entry e g.entries } ∷ gs) (g ∷ add_more e gs))
              ≡ b2n (t g.bit) + on_bits gs
          page true ih = refl
          page false ih = omega arith

      at : (b : Bool)
          → tally t (bits_of (cond b (record { first = enter_entry e c.first; more = c.more })
          (record { first = c.first; more = add_more e c.more })))
          ≡ tally t (bits_of c)
      at true = refl
      at false = go c.more

  pub bits-page : (n : ℕ) (e : Entry) (c : Chain) → tally t (bits_of (add_page n e c)) ≡ b2n (t n) + tally t (bits_of c)
  bits-page n e c = go c.more
    where
      go : (gs : List Page) → on_bits (gs ++ record { bit = n; entries = e ∷ [] } ∷ []) ≡ b2n (t n) + on_bits gs
      go [] = refl
      go (g ∷ gs) = omega (arith, go gs)

  pub bits-without : (p : Pair) (c : Chain) → tally t (bits_of (without p c)) ≤ tally t (bits_of c)
  bits-without p c = go c.more
    where
      go : (gs : List Page) → on_bits (keep in_use (map (thin p) gs)) ≤ on_bits gs
      go [] = omega arith
      go (g ∷ gs) = at (in_use (thin p g)) (go gs)
        where
          at : (b : Bool) → on_bits (keep in_use (map (thin p) gs)) ≤ on_bits gs
              → on_bits (cond b (thin p g ∷ keep in_use (map (thin p) gs)) (keep in_use (map (thin p) gs)))
              ≤ b2n (t g.bit) + on_bits gs
          at true ih = omega arith
          at false ih = omega arith

-- ---- a pair that does not stand there

abbrev pub cut_more : Pair → List Page → List Page
cut_more p gs = keep in_use (map (thin p) gs)

pub thin-none : (p : Pair) (es : List Entry) → tally (is p) es ≡ 0 → thin_entries p es ≡ es
thin-none p [] z = refl
thin-none p (e ∷ es) z = go (is p e) z (thin-none p es)
  where
    go : (b : Bool) → b2n b + tally (is p) es ≡ 0 → (tally (is p) es ≡ 0 → thin_entries p es ≡ es)
        → cond (not b) (e ∷ thin_entries p es) (thin_entries p es) ≡ e ∷ es
    go true z ih = absurd (omega arith)
    go false z ih = ap (λ (r : List Entry). e ∷ r) (ih (omega arith))

pub keep-page : (p : Pair) (g : Page) (gs : List Page) → 1 ≤ length g.entries → tally (is p) g.entries ≡ 0
    → cut_more p (g ∷ gs) ≡ g ∷ cut_more p gs
keep-page p g gs h z =
    ap (λ (es : List Entry). let f : Page = record { bit = g.bit; entries = es } in cond (in_use f) (f ∷ cut_more p gs)
    (cut_more p gs))
    (thin-none p g.entries z)
    ∙ ap (λ (b : Bool). cond b (g ∷ cut_more p gs) (cut_more p gs)) (lt-ltb 0 (length g.entries) h)

pub pages-none : (p : Pair) (gs : List Page) → Each MoreOk gs → tally (is p) (on_pages gs) ≡ 0 → cut_more p gs ≡ gs
pages-none p [] o z = refl
pages-none p (g ∷ gs) o z =
    let q = tally-append (is p) g.entries (on_pages gs) in
    keep-page p g gs o.0.used (omega arith) ∙ ap (λ (r : List Page). g ∷ r) (pages-none p gs o.1 (omega arith))
