use Rattle.std.proofs.Common.{drop, get_or, ◌+◌, ◌≡◌}
use Rattle.image.specs.Rules.{linked}
use Rattle.shape.specs.ChainedLaws.{chained}
use Rattle.shape.proofs.links.check_chain.Given as goal

abbrev pub invariant-loop-next : goal.invariant-loop-next
invariant-loop-next l = record {
  here : l.last ≡ get_or l.blocks l.next-index 0;
  rest : linked l.store l.b (get_or l.blocks l.next-index 0) (drop (l.next-index + 1) l.blocks) ≡ chained l.store l.b;
}
