-- The book is a set, strictly ascending; what each effect does to what it has.
use Rattle.std.specs.Prelude.{◌≡◌, refl, Bool, true, false, cond, not, ◌&&◌, ◌||◌, [], ◌∷◌}
use Rattle.std.proofs.Common.{ap, ◌∙◌}
use Rattle.lists.specs.ListsLaws.{any-no}
use Rattle.page.specs.declared.Pair.{Pair}
use Rattle.page.specs.Pair.{same, before, enter, ascending}
use Rattle.page.specs.PairLaws.{same-eq, same-sym}
use Rattle.page.specs.SublistLaws.{sublist-keep}
use Rattle.page.specs.AscendingLaws.{ascending-enter, ascending-sublist}
use Rattle.model.specs.declared.Order.{Order}
use Rattle.model.specs.Held.{self}
use Rattle.model.specs.SortedLaws.{any-keep-pair}
use Rattle.model.specs.Book.{Book, has, Effect, empties, puts, takes, leaves, has_steps, noted}

pub noted-ascending : (e : Effect) (bk : Book) → ascending self bk ≡ true → ascending self (noted e bk) ≡ true
noted-ascending (empties o) bk h = refl
noted-ascending (puts p) bk h = go (has bk p) refl
  where
    go : (b : Bool) → has bk p ≡ b → ascending self (cond b bk (enter self p bk)) ≡ true
    go true e = h
    go false e = ascending-enter self p bk (any-no (same p) bk e) h
noted-ascending (takes p) bk h = ascending-sublist self (sublist-keep (λ q. not (same p q)) bk) h
noted-ascending leaves bk h = h
noted-ascending (has_steps kind budget) bk h = h

has-enter : (p q : Pair) (bk : Book) → has (enter self p bk) q ≡ same q p || has bk q
has-enter p q [] = refl
has-enter p q (r ∷ rs) = go (before r p) (has-enter p q rs)
  where
    swap : (a b c : Bool) → a || (b || c) ≡ b || (a || c)
    swap true true c = refl
    swap true false c = refl
    swap false b c = refl

    go : (b : Bool) → has (enter self p rs) q ≡ same q p || has rs q
        → has (cond b (r ∷ enter self p rs) (p ∷ r ∷ rs)) q ≡ same q p || (same q r || has rs q)
    go true ih = ap (λ (b : Bool). same q r || b) ih ∙ swap (same q r) (same q p) (has rs q)
    go false ih = refl

-- an accepted insert puts its pair in
pub has-puts : (p q : Pair) (bk : Book) → has (noted (puts p) bk) q ≡ same q p || has bk q
has-puts p q bk = go (has bk p) refl
  where
    there : has bk p ≡ true → (b : Bool) → same q p ≡ b → has bk q ≡ b || has bk q
    there h true e = ap (has bk) (same-eq q p e) ∙ h
    there h false e = refl

    go : (b : Bool) → has bk p ≡ b → has (cond b bk (enter self p bk)) q ≡ same q p || has bk q
    go true h = there h (same q p) refl
    go false h = has-enter p q bk

-- an accepted removal takes its pair out
pub has-takes : (p q : Pair) (bk : Book) → has (noted (takes p) bk) q ≡ not (same q p) && has bk q
has-takes p q bk = any-keep-pair (λ r. not (same p r)) q bk ∙ ap (λ (b : Bool). not b && has bk q) (same-sym p q)

pub has-empties : (o : Order) (q : Pair) (bk : Book) → has (noted (empties o) bk) q ≡ false
has-empties o q bk = refl
