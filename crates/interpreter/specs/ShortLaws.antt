-- No lookup of a script gets 8.
use Rattle.std.specs.Prelude.{◌≡◌, ℕ, ◌+◌, ◌/◌, ◌≤◌, Bool, true, false, leb, List, [], ◌∷◌, length, replicate, ◌≢◌, nat_le}
use Rattle.std.specs.Prelude.{Err}
use Rattle.std.proofs.Common.{sym, ap, ◌∙◌, arith, le-leb}
use Rattle.std.proofs.lemmas.List.{length-replicate}
use Rattle.lists.specs.Lists.{Each}
use Rattle.lists.specs.Block.{blocks}
use Rattle.line.specs.Command.{read_line}
use Rattle.line.proofs.FitsLaws.{line-fits}
use Rattle.model.specs.declared.Refusal.{Refusal}
use Rattle.model.specs.Held.{matches}
use Rattle.model.specs.Calls.{Looked, listed, lookup}
use Rattle.model.proofs.MachineLaws.{never}
use Rattle.outcomes.specs.Outcomes.{tested, lookup_outcome}
use Rattle.image.specs.Rules.{length_ok}
use Rattle.outcomes.proofs.OutcomeIndexLaws.{lookup-encode}
use Rattle.interpreter.specs.Script.{lent, run_command, lines}
use Rattle.interpreter.specs.Stores.{ScriptStore, empty, bytes, stands_at, NotShort}
use Rattle.interpreter.specs.StoresLaws.{store-after}
use Rattle.interpreter.specs.MatchesLaws.{matches-few}

not_short : (s : List ℕ) → ScriptStore s → NotShort s
unfolding lookup_outcome tested length_ok blocks lookup
not_short [] empty h m e = never (cc)
not_short s (bytes x d) h m e = go (nat_le (length (matches x h)) (length (replicate {A = ℕ} lent 0) / 6)) room found
  where
    few : length (matches x h) ≤ 5000
    few = matches-few x d.wf.laid d.small d.begun h

    room : leb (length (matches x h)) (length (replicate {A = ℕ} lent 0) / 6) ≡ true
    room =
        le-leb (length (matches x h)) (length (replicate {A = ℕ} lent 0) / 6)
        (omega (arith, few, length-replicate {A = ℕ} lent 0))

    found : (lookup x h (replicate lent 0)).answer ≡ Err (Refusal.OutputShort m)
    found = ap (λ (k : Looked). k.answer) (sym (lookup-encode x d.wf h (replicate lent 0))) ∙ e

    go : (t : Bool) → t ≡ true
        → (listed t (matches x h) (replicate lent 0)).answer ≢ Err (Refusal.OutputShort m)
    go true q r = never (cc)
    go false q r = never (cc)

lines-not-short : (n : ℕ) (s : List ℕ) → ScriptStore s → (ls : List (List ℕ)) → Each NotShort (stands_at n s ls)
lines-not-short n s p [] = tt
lines-not-short n s p (l ∷ ls) = (
  not_short s p,
  lines-not-short (n + 1) (run_command (read_line l) (n + 1) s).store
      (store-after (read_line l) (line-fits l) (n + 1) s p) ls,
)

-- No lookup on a store that stands at a line of a script gets 8.
pub script-never-short : (bs : List ℕ) → Each NotShort (stands_at 0 [] (lines bs))
script-never-short bs = lines-not-short 0 [] empty (lines bs)
