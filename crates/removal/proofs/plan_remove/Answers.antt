use Rattle.std.proofs.Common.{refl, sym, ◌∙◌}
use Rattle.image.specs.Decode.{decode}
use Rattle.view.specs.SourcesLaws.{home-made, both-made}
use Rattle.view.specs.HeldLaws.{held-home}
use Rattle.removal.specs.RemovalLaws.{refused_none, done-wf, done-count, done-some, settled, done-any, done-home}
use Rattle.removal.specs.RemovalLaws.{done-both, both-apart}
use Rattle.removal.proofs.plan_remove.Goals as goal

pub returns-in_default : goal.returns-in_default
returns-in_default c =
    refused_none c.requires.0 c.args.pair c.requires.1 (sym c.find_held.ensures ∙ c.in_default.is)
    refl c.clear.ensures.count_value

pub overflow_sub-held : goal.overflow_sub-held
overflow_sub-held c =
    let done = done-any c.requires.0 c.args.pair c.requires.1 c.in-Some.found (sym c.in-Some.ensures) in
    done-some c.requires.0 c.args.pair c.requires.1 _ done

pub plan_cut-requires : goal.plan_cut-requires
plan_cut-requires c =
    let r = c.requires.0 in
    let p = c.args.pair in
    let stands = sym c.in-Some.ensures in
    let q = sym c.sources_of-sources.ensures ∙ c.in-Home.is in
    let done = done-home r p c.requires.1 c.in-Some.found stands _ q in
    record {
      reads = (r, home-made r p.hash _ q);
      pair_value = held-home (decode c.args.store.now) p _ q ∙ stands;
      wf = (done-wf r p c.requires.1 _ done, done-count r p c.requires.1 _ done);
    }

pub plan_cuts-requires : goal.plan_cuts-requires
plan_cuts-requires c =
    let r = c.requires.0 in
    let p = c.args.pair in
    let q = sym c.sources_of-sources.ensures ∙ c.in-Both.is in
    let m = both-made r p.hash _ _ q in
    let done = done-both r p c.requires.1 c.in-Some.found (sym c.in-Some.ensures) _ _ q in
    record {
      reads = r;
      le_max = (m.0, m.1, both-apart r p c.requires.1 _ _ q);
      store_value = done-count r p c.requires.1 _ done;
    }

pub returns-in-Home : goal.returns-in-Home
returns-in-Home c =
    let r = c.requires.0 in
    let q = sym c.sources_of-sources.ensures ∙ c.in-Home.is in
    let done = done-home r c.args.pair c.requires.1 c.in-Some.found (sym c.in-Some.ensures) _ q in
    settled r c.args.pair c.requires.1 _ done c.plan_cut.ensures

pub returns-in-Both : goal.returns-in-Both
returns-in-Both c =
    let r = c.requires.0 in
    let q = sym c.sources_of-sources.ensures ∙ c.in-Both.is in
    let done = done-both r c.args.pair c.requires.1 c.in-Some.found (sym c.in-Some.ensures) _ _ q in
    settled r c.args.pair c.requires.1 _ done c.plan_cuts.ensures
