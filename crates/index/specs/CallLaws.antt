-- What the outcome of an insert without a journal is, by what the tests find.
use Rattle.std.specs.Prelude.{◌≡◌, true, not, List, ℕ, ◌≤◌, leb, Ok, Err}
use Rattle.std.proofs.Common.{sym, ◌∙◌, subst, leb-true}
use Rattle.std.proofs.Math.Path.{ap}
use Rattle.lists.specs.ListsLaws.{and_right}
use Rattle.page.specs.declared.Pair.{Pair}
use Rattle.page.specs.Pair.{bad_pair}
use Rattle.model.specs.declared.Refusal.{Refusal}
use Rattle.model.specs.Calls.{pair_ok, insert}
use Rattle.image.specs.Decode.{decode}
use Rattle.outcomes.specs.Outcomes.{Tested, failed, tested, refusing, changed, insert_on, insert_outcome}
use Rattle.index.specs.Tested.{PairAnswer, PairTested}

-- a pair whose offset fits its field
pub pair-offset : (p : Pair) → pair_ok p ≡ true → p.offset ≤ 65535
pair-offset p h = leb-true p.offset 65535 (and_right (not (bad_pair p)) (leb p.offset 65535) h)

module _ (s : List ℕ) (p : Pair) {t : PairAnswer} (found : PairTested s p t) where
  -- what the tests found
  refusal : {r : Refusal} → t ≡ Err r → tested (pair_ok p) s ≡ failed r
  refusal e = subst (PairTested s p) e found

  pub pair-sound : {q : Pair} → t ≡ Ok q → PairTested s p (Ok q)
  pair-sound e = subst (PairTested s p) e found

  pub insert-fails : {r : Refusal} → t ≡ Err r → insert_outcome s p ≡ refusing s r
  unfolding insert_outcome
  insert-fails e = ap (λ (x : Tested). insert_on x s p) (refusal e)

  pub insert-passes : {q : Pair} → t ≡ Ok q → insert_outcome s p ≡ changed s (insert (decode s) q)
  unfolding insert_outcome
  insert-passes e =
      let g = pair-sound e in
      ap (λ (x : Tested). insert_on x s p) g.3 ∙ ap (λ (x : Pair). changed s (insert (decode s) x)) (sym g.0)
