-- What a lookup matches: the held pairs of the hash code, strictly ascending.
use Rattle.std.specs.Prelude.{◌≡◌, refl, Bool, true, false, cond, ◌&&◌, List, map, ℕ}
use Rattle.std.proofs.Math.Path.{sym, ap}
use Rattle.std.proofs.Common.{◌∙◌, arith}
use Rattle.lists.specs.Lists.{b2n, any, tally, keep}
use Rattle.lists.specs.ListsLaws.{eqb-eq, tally-map}
use Rattle.page.specs.declared.Pair.{Pair}
use Rattle.page.specs.Pair.{same, is, ascending, pair_of}
use Rattle.page.specs.SublistLaws.{sublist-keep}
use Rattle.page.specs.AscendingLaws.{ascending-sublist}
use Rattle.model.specs.Index.{Index}
use Rattle.model.specs.Held.{self, sources, held, has_hash, matches}
use Rattle.model.specs.WellFormed.{WF}
use Rattle.model.specs.TallyLaws.{b2n-le, tally-any}
use Rattle.model.proofs.HeldLaws.{sources-number, held_in-held}
use Rattle.model.specs.SortedLaws.{tally-sorted, ascending-sorted, sorted-is, tally-keep-pair, any-keep-pair}

module _ (x : Index) (w : WF x) (h : ℕ) where
  -- the pairs that are sorted
  abbrev found : List Pair
  found = keep (has_hash h) (map pair_of (sources x h))

  tally-found : (p : Pair) → tally (same p) found ≡ b2n (has_hash h p && held x p)
  tally-found p =
      tally-keep-pair self (has_hash h) p (map pair_of (sources x h)) ∙ go (has_hash h p) refl
    where
      here : p.hash ≡ h → tally (same p) (map pair_of (sources x h)) ≡ b2n (held x p)
      here e =
          tally-map pair_of (same p) (sources x h)
          ∙ ap (λ (k : ℕ). tally (is p) (sources x k)) (sym e)
          ∙ sources-number x p
          ∙ held_in-held x w p

      go : (b : Bool) → has_hash h p ≡ b → cond b (tally (same p) (map pair_of (sources x h))) 0 ≡ b2n (b && held x p)
      go true e = here (eqb-eq p.hash h e)
      go false e = refl

  pub matches-ascending : ascending self (matches x h) ≡ true
  unfolding matches
  matches-ascending = ascending-sorted found (λ p. omega (arith, tally-found p, b2n-le (has_hash h p && held x p)))

  pub matches-has : (p : Pair) → any (same p) (matches x h) ≡ has_hash h p && held x p
  unfolding matches
  matches-has p =
      tally-any (same p) (matches x h) (has_hash h p && held x p) (tally-sorted (same p) found ∙ tally-found p)

  -- of any ascending list of the held pairs they are those with the hash code
  pub matches-is : (ps : List Pair) → ascending self ps ≡ true → ((p : Pair) → any (same p) ps ≡ held x p)
      → matches x h ≡ keep (has_hash h) ps
  unfolding matches
  matches-is ps a e =
      sorted-is found (keep (has_hash h) ps) (ascending-sublist self (sublist-keep (has_hash h) ps) a)
      (λ p. tally-found p
      ∙ ap b2n (ap (λ (b : Bool). has_hash h p && b) (sym (e p)) ∙ sym (any-keep-pair (has_hash h) p ps)))
