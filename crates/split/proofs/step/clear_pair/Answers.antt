use Rattle.std.proofs.Common.{◌≡◌, sym, ap, ◌∙◌, subst, ℕ, List}
use Rattle.image.specs.declared.Meta.{Meta}
use Rattle.view.specs.Reads.{Reads}
use Rattle.address.specs.Address.{split_from}
use Rattle.model.specs.Index.{old_bucket}
use Rattle.model.specs.Pages.{cut}
use Rattle.model.specs.Held.{count}
use Rattle.model.specs.WellFormed.{WF}
use Rattle.image.specs.Decode.{decode}
use Rattle.chain.specs.Search.{at_slot}
use Rattle.reader.specs.JobLaws.{old-low}
use Rattle.view.specs.ReadsLaws.{reads-max, reads_known}
use Rattle.view.specs.Places.{find_at}
use Rattle.plan.specs.Plan.{Plans}
use Rattle.split.proofs.step.clear_pair.Goals as goal

is-old : {s : List ℕ} {m : Meta} → Reads s m → {b : ℕ} → b ≡ split_from m.max → b ≡ old_bucket (decode s)
is-old r e = e ∙ ap split_from (reads-max r)

pub plan_cut-requires-clause-reads : goal.plan_cut-requires-clause-reads
plan_cut-requires-clause-reads c =
    let r = c.requires.reads in (r, old-low (reads_known r) c.parent_of-old.result c.parent_of-old.ensures)

pub plan_cut-requires-clause-pair_value : goal.plan_cut-requires-clause-pair_value
plan_cut-requires-clause-pair_value c =
    let v = c.args.mover in
    subst (λ (b : ℕ). find_at (decode c.args.store.now) b v.entry.pair ≡ at_slot v.block v.slot) (sym (is-old c.requires.reads c.parent_of-old.ensures))
    c.requires.located

pub plan_cut-requires-clause-wf : goal.plan_cut-requires-clause-wf
plan_cut-requires-clause-wf c =
    let x = decode c.args.store.now in
    let p = c.args.mover.entry.pair in
    subst (λ (b : ℕ). (WF (cut p b x)) × (count (cut p b x) ≡ c.args.m.count)) (sym (is-old c.requires.reads c.parent_of-old.ensures)) c.requires.wf

pub returns : goal.returns
returns c =
    subst (λ (b : ℕ). Plans c.args.store.now c.plan_cut.new.draft.change c.plan_cut.new.draft.images
    (cut c.args.mover.entry.pair b (decode c.args.store.now)))
    (is-old c.requires.reads c.parent_of-old.ensures) c.plan_cut.ensures
