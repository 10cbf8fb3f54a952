-- The chain of a pair's bucket set anew, as an insert or a removal does: what a split has to copy and to clear then.
use Rattle.std.specs.Prelude.{◌≡◌, ◌≢◌, Bool, false, not, ◌&&◌, List, ℕ, eqb}
use Rattle.std.proofs.Common.{sym, ap, ◌∙◌}
use Rattle.std.proofs.Math.Decide.{ℕ_discrete}
use Rattle.lists.specs.Lists.{any, tally}
use Rattle.lists.specs.ListsLaws.{eqb_no}
use Rattle.page.specs.declared.Pair.{Pair}
use Rattle.page.specs.declared.Entry.{Entry}
use Rattle.page.specs.Pair.{is}
use Rattle.model.specs.Index.{Chain, Index, entries_in, entries_at, bucket, new_bucket, old_bucket, set_chain}
use Rattle.model.specs.Steps.{moves, to_copy, copies_left}
use Rattle.model.specs.WellFormed.{Laid}
use Rattle.model.specs.StandLaws.{chain-there, number_same}
use Rattle.model.proofs.HeldLaws.{old-new, home-range}
use Rattle.model.specs.StepsLeft.{old_entries}

-- a pair that maps to the new bucket and does not stand among these entries: `to_copy`, by what stands there
abbrev pub lacks : Index → List Entry → Pair → Bool
lacks x es p = eqb (bucket x p) (new_bucket x) && not (any (is p) es)

module _ (x : Index) (l : Laid x) (q : Pair) (sp : List ℕ) (c : Chain) where
  abbrev pub reset : Index
  reset = set_chain x sp (bucket x q) c

  -- the new bucket's: the old one's entries stay
  pub new-there : bucket x q ≡ new_bucket x → entries_at reset (old_bucket x) ≡ entries_at x (old_bucket x)
  new-there e =
      ap entries_in (chain-there x sp (bucket x q) c (home-range x l q) (old_bucket x) (λ k. old-new x l (k ∙ e)))

  -- a chain with as many entries that pass a test, whichever test on pairs the pair fails
  module _ (others : (g : Pair → Bool) → g q ≡ false
      → tally (λ e. g e.pair) (entries_in c) ≡ tally (λ e. g e.pair) (entries_at x (bucket x q))) where
    pub home-old : old_entries reset ≡ old_entries x
    home-old = go (ℕ_discrete (bucket x q) (new_bucket x))
      where
        go : Dec (bucket x q ≡ new_bucket x) → old_entries reset ≡ old_entries x
        go (yes k) = ap (tally (moves x)) (new-there k)
        go (no k) =
            number_same x sp (bucket x q) c (home-range x l q) (moves x)
            (others (λ p. eqb (bucket x p) (new_bucket x)) (eqb_no (bucket x q) (new_bucket x) k)) (old_bucket x)

    pub home-copies : bucket x q ≢ new_bucket x → copies_left reset ≡ copies_left x
    home-copies ne =
        ap (λ (es : List Entry). tally (λ e. lacks x es e.pair) (entries_at reset (old_bucket x)))
        (ap entries_in (chain-there x sp (bucket x q) c (home-range x l q) (new_bucket x) (λ k. ne (sym k))))
        ∙ number_same x sp (bucket x q) c (home-range x l q) (to_copy x)
        (others (lacks x (entries_at x (new_bucket x))) (rw (eqb_no (bucket x q) (new_bucket x) ne))) (old_bucket x)
