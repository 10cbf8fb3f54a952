use Rattle.std.proofs.Common.{sym, ap, ◌∙◌, arith}
use Rattle.outcomes.specs.Format.{format_block}
use Rattle.outcomes.specs.FormatLaws.{format-unused}
use Rattle.index.proofs.Bodies.{covered-zeros}
use Rattle.index.proofs.format.build_body.Goals as goal

pub returns-in-0 : goal.returns-in-0
unfolding format_block
returns-in-0 c =
    let a = c.args in
    c.build_meta.ensures ∙ ap (format_block a.size a.order) (sym c.in-0.is)

pub returns-in-1 : goal.returns-in-1
unfolding format_block
returns-in-1 c =
    let a = c.args in
    c.build_bucket.ensures ∙ ap (format_block a.size a.order) (sym c.in-1.is)

pub returns-in-2 : goal.returns-in-2
unfolding format_block
returns-in-2 c =
    let a = c.args in
    c.build_bucket-in-2.ensures ∙ ap (format_block a.size a.order) (sym c.in-2.is)

pub returns-in-3 : goal.returns-in-3
unfolding format_block
returns-in-3 c =
    let a = c.args in
    c.build_bitmap.ensures ∙ ap (format_block a.size a.order) (sym c.in-3.is)

pub returns-in_default : goal.returns-in_default
returns-in_default c =
    let a = c.args in
    covered-zeros ∙ sym (format-unused a.size a.order a.k (omega arith))
