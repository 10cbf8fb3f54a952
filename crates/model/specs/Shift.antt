-- What a squeeze's step does (docs/RULES.md 6.13), said of a chain's pages and apart from how the step goes about it: a
-- step that changes nothing, or a 9 that is made up, doesn't meet it.
use Rattle.std.specs.Prelude.{◌≡◌, ◌↔◌, ◌≢◌, List, [], ◌∷◌, ◌++◌, map, ℕ, ◌≤◌, ◌<◌, ltb, length}
use Rattle.lists.specs.Lists.{keep, Each}
use Rattle.page.specs.declared.Entry.{Entry}
use Rattle.model.specs.declared.Stop.{Stop}
use Rattle.model.specs.Index.{Page, Chain, Index, chain}
use Rattle.model.specs.Pages.{enter_entry}
use Rattle.model.specs.Steps.{next, stopped}
use Rattle.model.specs.Squeeze.{init}
use Rattle.model.specs.Machine.{of_squeeze, Machine}
use Rattle.model.specs.History.{Moment}

-- the entries of overflow pages, page by page
abbrev pub entries_on : List Page → List (List Entry)
entries_on gs = map (λ (g : Page). g.entries) gs

-- of a chain's pages, the bucket page first
abbrev pub pages_in : Chain → List (List Entry)
pages_in c = c.first ∷ entries_on c.more

-- a page without room
abbrev pub Full : List Entry → Type 0
Full es = 40 ≤ length es

-- "no earlier page has room": each page of the bucket's chain but the last is full
abbrev pub NoEarlier : Index → (bucket : ℕ) → Type 0
NoEarlier x b = Each Full (init (pages_in (chain x b)))

-- "moves the last entry of the chain's last page to the first earlier page with room, .. a page left empty is freed":
-- the pages before and after
pub record Moves (before after : List (List Entry)) : Type 0 where
  pub full : List (List Entry)
  pub target : List Entry
  pub between : List (List Entry)
  pub rest : List Entry
  pub entry : Entry
  pub was : before ≡ full ++ target ∷ (between ++ (rest ++ entry ∷ []) ∷ [])
  pub is : after ≡ full ++ enter_entry entry target ∷ (between ++ keep (λ es. ltb 0 (length es)) (rest ∷ []))
  pub none : Each Full full
  pub room : length target < 40

-- of a machine whose states show an index
module _ (M : Machine) (index : M.State → Index) where
  pub record ShiftIs (t : Moment M) : Type 0 where
    pub stops : (b : ℕ) (r : Stop) → (M.step (of_squeeze b) t.state ≡ stopped r)
        ↔ ((r ≡ Stop.Idle) × NoEarlier (index t.state) b)
    pub moves : (b : ℕ) (s : M.State) → M.step (of_squeeze b) t.state ≡ next s
        → Moves (pages_in (chain (index t.state) b)) (pages_in (chain (index s) b))
    -- the chains of the other buckets stay
    pub others : (b d : ℕ) (s : M.State) → d ≢ b → M.step (of_squeeze b) t.state ≡ next s
        → chain (index s) d ≡ chain (index t.state) d
