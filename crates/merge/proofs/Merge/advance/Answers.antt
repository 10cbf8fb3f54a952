use Rattle.merge.proofs.Merge.advance.Goals as goal

pub returns-clause-keys_after : goal.returns-clause-keys_after
returns-clause-keys_after c = c.put_head.ensures.keys_after
