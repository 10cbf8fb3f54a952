use Rattle.std.proofs.Common.{◌≡◌, true, false, eqb, sym, ap, ap₂, ◌∙◌}
use Rattle.lists.specs.Lists.{all}
use Rattle.image.specs.declared.Meta.{Meta}
use Rattle.image.specs.Rules.{buckets, rule8}
use Rattle.entries.specs.Counts.{prev_ok}
use Rattle.entries.proofs.counts.check_counts.Goals as goal

pub returns-then-not-check_prevs : goal.returns-then-not-check_prevs
unfolding rule8
returns-then-not-check_prevs c =
    let s = c.args.store.now in
    let t : all (prev_ok s) (buckets s) ≡ false = sym c.check_prevs.ensures ∙ c.if-not-check_prevs.true in
    rw t

pub returns : goal.returns
unfolding rule8
returns c =
    let s = c.args.store.now in
    let t : all (prev_ok s) (buckets s) ≡ true = sym c.check_prevs.ensures ∙ c.if-not-check_prevs.false in
    rw t (ap₂ eqb (ap (λ (m : Meta). m.count) c.requires.known.known.known.meta) c.count_live.ensures)
