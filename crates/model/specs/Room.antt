-- When there is no room and when there is (docs/RULES.md 6.3, 6.8 and 6.14), said of an index. That there is none is
-- said apart from how an insert or a step goes about it: "an insert that makes up a 7, doesn't meet it".
use Rattle.std.specs.Prelude.{◌≡◌, ◌↔◌, true, false, ℕ, suc, ◌+◌, ◌*◌, ◌≤◌, ◌<◌, length, Err}
use Rattle.lists.specs.Lists.{Each}
use Rattle.address.specs.Address.{buckets_at, point, made}
use Rattle.page.specs.declared.Pair.{Pair}
use Rattle.model.specs.declared.Refusal.{Refusal}
use Rattle.model.specs.declared.Stop.{Stop}
use Rattle.model.specs.Index.{Page, Job, idle, copying, clearing, Index, chain, bucket, new_bucket, top_bit}
use Rattle.model.specs.Pages.{chain_room}
use Rattle.model.specs.Held.{held, count}
use Rattle.model.specs.Steps.{stopped, copies_left}
use Rattle.model.specs.Calls.{pair_ok, standing}
use Rattle.model.specs.WellFormed.{uses, WF}
use Rattle.model.specs.Machine.{inserting, CallFits, of_splits, plain, Machine}
use Rattle.model.specs.Book.{has}
use Rattle.model.specs.History.{Moment, phase_at}

-- Insert: no page for an entry of bucket b
pub record NoPage (x : Index) (b : ℕ) : Type 0 where
  -- no page of its chain has "fewer than 40 entries"
  pub first : 40 ≤ length (chain x b).first
  pub more : Each (λ (g : Page). 40 ≤ length g.entries) (chain x b).more
  -- no bit is 0: each overflow bit that is made, but the bitmap's own, stands in a chain
  pub bits : (n : ℕ) → 1 ≤ n → n < top_bit x → 1 ≤ uses n x
  -- "the next block past the made ones" is not "below N"
  pub blocks : x.size ≤ made x.spares (point x.max_bucket)

-- room for one: "a page of the .. bucket's chain has room", "a page is free again", or there is a block past the made
-- ones
pub data Room (x : Index) (b : ℕ) : Type 0 where
  on_page : chain_room (chain x b) ≡ true → Room x b
  freed : (n : ℕ) → 1 ≤ n → n < top_bit x → uses n x ≡ 0 → Room x b
  unmade : made x.spares (point x.max_bucket) < x.size → Room x b

-- Begin: the new bucket "needs a new point", and "(buckets in all at point s+1) + spares[s] + 1" is above N
pub record NoPoint (x : Index) : Type 0 where
  pub needed : point x.max_bucket < point (suc x.max_bucket)
  pub blocks : x.size < buckets_at (suc (point x.max_bucket)) + top_bit x + 1

-- A step, by phase: a begin with "slack below zero"; a copy that is left to make, "placed as by insert"; clearing
-- never stops for room
abbrev pub NoStep : Job → Index → Type 0
NoStep idle x = (x.fill * suc x.max_bucket < count x) × NoPoint x
NoStep copying x = (1 ≤ copies_left x) × NoPage x (new_bucket x)
NoStep clearing x = ⊥

-- of a machine whose states show an index
module _ (M : Machine) (index : M.State → Index) where
  -- the index is the one that the calls tell of: well-formed, with their fill, buckets and job, and the book's pairs
  pub record Shows (t : Moment M) : Type 0 where
    pub wf : WF (index t.state)
    pub fill : (index t.state).fill ≡ t.fill
    pub newest : (index t.state).max_bucket ≡ suc t.begins
    pub phase : phase_at M t.state ≡ (standing (index t.state)).phase
    pub holds : (p : Pair) → has t.book p ≡ held (index t.state) p

  pub record RoomIs (t : Moment M) : Type 0 where
    pub shows : Shows t
    -- an insert that no earlier test refuses gets 7 exactly when there is no page for it
    pub inserts : (p : Pair) → CallFits (inserting p) → pair_ok p ≡ true → has t.book p ≡ false
        → ((M.run (inserting p) t.state).reply ≡ plain (Err Refusal.NoRoom))
        ↔ NoPage (index t.state) (bucket (index t.state) p)
    -- a step stops with 7 exactly when there is no room for it
    pub steps : (M.step of_splits t.state ≡ stopped Stop.NoRoom) ↔ NoStep (index t.state).job (index t.state)
