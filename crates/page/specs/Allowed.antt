-- What the functions of this crate take for granted of a page and of a run, and what entries a page may have.
use Rattle.std.specs.Prelude.{◌≡◌, true, not, List, ℕ, ◌≤◌, length}
use Rattle.lists.specs.Lists.{all, Each}
use Rattle.page.specs.declared.Entry.{Entry}
use Rattle.page.specs.Pair.{PairFits, bad_pair, ascending}
use Rattle.page.specs.Rule.{number_ok, order_ok}
use Rattle.page.specs.Places.{run_entries}

-- a page whose number of entries may be
pub record Numbered (l : List ℕ) : Type 0 where
  pub whole : length l ≡ 512
  pub number : number_ok l ≡ true

-- a page in which a search by bisection finds its way
pub record Sorted (l : List ℕ) : Type 0 where
  pub whole : length l ≡ 512
  pub number : number_ok l ≡ true
  pub order : order_ok l ≡ true

-- bytes that are the run of a hash code in such a page, as far as a search in them needs it
pub record OneCode (h : ℕ) (r : List ℕ) : Type 0 where
  pub few : length r ≤ 480
  pub code : Each (λ (e : Entry). e.pair.hash ≡ h) (run_entries r)
  pub order : ascending (λ (e : Entry). e.pair) (run_entries r) ≡ true

-- entries that a page may have
pub record Allowed (es : List Entry) : Type 0 where
  pub few : length es ≤ 40
  pub fit : Each (λ (e : Entry). PairFits e.pair) es
  pub clean : all (λ (e : Entry). not (bad_pair e.pair)) es ≡ true
  pub order : ascending (λ (e : Entry). e.pair) es ≡ true
