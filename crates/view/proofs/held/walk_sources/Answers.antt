use Rattle.std.proofs.Common.{sym, ◌∙◌}
use Rattle.view.specs.ReadsLaws.{reads_known}
use Rattle.view.specs.SourcesLaws.{home-made, both-made}
use Rattle.view.specs.SourcedLaws.{sourced-home, sourced-both}
use Rattle.view.proofs.held.walk_sources.Goals as goal

pub walk_bucket-requires : goal.walk_bucket-requires
walk_bucket-requires c =
    let r = c.requires.0 in
    let q = sym c.sources_of-sources.ensures ∙ c.in-Home.is in
    (reads_known r, home-made r c.args.hash _ q, c.requires.1)

pub walk_bucket-requires-in-Both : goal.walk_bucket-requires-in-Both
walk_bucket-requires-in-Both c =
    let r = c.requires.0 in
    let q = sym c.sources_of-sources.ensures ∙ c.in-Both.is in
    (reads_known r, (both-made r c.args.hash _ _ q).0, c.requires.1)

pub walk_bucket-requires-in-Both-2 : goal.walk_bucket-requires-in-Both-2
walk_bucket-requires-in-Both-2 c =
    let r = c.requires.0 in
    let q = sym c.sources_of-sources.ensures ∙ c.in-Both.is in
    (reads_known r, (both-made r c.args.hash _ _ q).1, c.requires.2)

pub returns-in-Home : goal.returns-in-Home
returns-in-Home c =
    sourced-home c.requires.0 c.args.hash _ (sym c.sources_of-sources.ensures ∙ c.in-Home.is)
    c.walk_bucket.ensures c.args.old.now

pub returns-in-Both : goal.returns-in-Both
returns-in-Both c =
    sourced-both c.requires.0 c.args.hash _ _
    (sym c.sources_of-sources.ensures ∙ c.in-Both.is) c.walk_bucket-in-Both.ensures c.walk_bucket-in-Both-2.ensures
