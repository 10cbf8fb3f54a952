-- The book of demand 3 (docs/RULES.md 7): "The book is a set of pairs. It is fed each call's arguments and whether the
-- call was accepted (gave 0), and nothing from the store." With it, what else the calls tell of a split.
use Rattle.std.specs.Prelude.{Bool, cond, not, List, [], ℕ, suc, eqb, length}
use Rattle.lists.specs.Lists.{any, keep}
use Rattle.address.specs.Address.{bucket_of}
use Rattle.page.specs.declared.Pair.{Pair}
use Rattle.page.specs.Pair.{same, enter}
use Rattle.model.specs.declared.Order.{Order}
use Rattle.model.specs.Held.{self, has_hash}
use Rattle.model.specs.Machine.{Call, formatting, inserting, removing, looking, working, squeezing, asking, Kind}
use Rattle.model.specs.Machine.{of_splits, of_squeeze}

-- ---- the book: a set of pairs, as the ascending list of its elements

abbrev pub Book : Type 0
Book = List Pair

abbrev pub has : Book → Pair → Bool
has bk p = any (same p) bk

-- What an accepted call does to the book. A call that is new to the list is one line of `effect`.
pub data Effect : Type 0 where
  empties : Order → Effect
  puts takes : Pair → Effect
  leaves : Effect
  has_steps : Kind → (budget : ℕ) → Effect

abbrev pub effect : Call → Effect
effect (formatting o) = empties o
effect (inserting p) = puts p
effect (removing p) = takes p
effect (looking h out) = leaves
effect (working budget) = has_steps of_splits budget
effect (squeezing b budget) = has_steps (of_squeeze b) budget
effect asking = leaves

abbrev pub noted : Effect → Book → Book
noted (empties o) bk = []
noted (puts p) bk = cond (has bk p) bk (enter self p bk)
noted (takes p) bk = keep (λ q. not (same p q)) bk
noted leaves bk = bk
noted (has_steps kind budget) bk = bk

-- the book's pairs under a hash code
abbrev pub under : ℕ → Book → Book
under h bk = keep (has_hash h) bk

-- a split's m: "the book's pairs whose bucket, with that as max bucket, is the new one"
abbrev pub movers : (new : ℕ) → Book → ℕ
movers n bk = length (keep (λ p. eqb (bucket_of n p.hash) n) bk)

-- The split that began last since the last accepted format, if any did: the removals accepted since its begin, its m,
-- and its steps so far, the begin included.
pub data Split : Type 0 where
  no_split : Split
  since : (removals m steps : ℕ) → Split

abbrev pub one_step : Split → Split
one_step no_split = no_split
one_step (since r m k) = since r m (suc k)

abbrev pub one_removal : Split → Split
one_removal no_split = no_split
one_removal (since r m k) = since (suc r) m k

-- an accepted format forgets the splits, a removal is counted of the last one, and other calls leave it alone
abbrev pub counted : Effect → Split → Split
counted (empties o) k = no_split
counted (puts p) k = k
counted (takes p) k = one_removal k
counted leaves k = k
counted (has_steps kind budget) k = k

-- the fill of the last accepted format, and the begins since
abbrev pub filled : Effect → ℕ → ℕ
filled (empties o) f = o.fill
filled (puts p) f = f
filled (takes p) f = f
filled leaves f = f
filled (has_steps kind budget) f = f

abbrev pub begun : Effect → ℕ → ℕ
begun (empties o) n = 0
begun (puts p) n = n
begun (takes p) n = n
begun leaves n = n
begun (has_steps kind budget) n = n

-- the store number after an accepted call
abbrev pub number_after : Effect → ℕ → ℕ
number_after (empties o) n = o.number
number_after (puts p) n = n
number_after (takes p) n = n
number_after leaves n = n
number_after (has_steps kind budget) n = n
