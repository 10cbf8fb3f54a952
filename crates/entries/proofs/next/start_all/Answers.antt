use Rattle.std.proofs.Common.{length}
use Rattle.merge.specs.WalksLaws.{from_all}
use Rattle.entries.proofs.next.start_all.Goals as goal

pub returns-clause-whole : goal.returns-clause-whole
returns-clause-whole c =
    let a = c.args in
    from_all a.store.now a.pages.now (length a.pages.now) c.start.new.self.tails c.start.ensures.cursors
