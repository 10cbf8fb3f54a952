use Rattle.draft.proofs.Trimming.{Sorted}
use Rattle.draft.proofs.trim.drop_unchanged.Given as goal

abbrev pub invariant-loop-i : goal.invariant-loop-i
invariant-loop-i l =
    Sorted l.store l.numbers l.fn.draft.images l.count l.i l.draft.change l.draft.images
