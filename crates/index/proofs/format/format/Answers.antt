use Rattle.std.proofs.Common.{refl, sym, ◌∙◌}
use Rattle.lists.specs.Block.{blocks}
use Rattle.model.proofs.FormatLaws.{fill-high}
use Rattle.outcomes.specs.Outcomes.{format_replacing, format_outcome}
use Rattle.outcomes.specs.FormatLaws.{format-bytes}
use Rattle.chain.specs.WalkLaws.{length_ok-sized}
use Rattle.index.proofs.format.format.Goals as goal

pub returns-then-not-check_length : goal.returns-then-not-check_length
unfolding format_replacing format_outcome
returns-then-not-check_length c = rw (sym c.if-not-check_length.ensures) (record { value = refl; store_after = refl })

pub returns-then-not-check_format : goal.returns-then-not-check_format
unfolding format_replacing format_outcome
returns-then-not-check_format c =
    rw (sym c.if-not-check_length.ensures, sym c.if-not-check_format.ensures) (record { value = refl; store_after = refl })

pub returns-then-is_protected : goal.returns-then-is_protected
unfolding format_replacing format_outcome
returns-then-is_protected c =
    rw (sym c.if-not-check_length.ensures, sym c.if-not-check_format.ensures, sym c.if-is_protected.ensures) (record { value = refl; store_after = refl })

pub format_blocks-requires : goal.format_blocks-requires
format_blocks-requires c =
    (length_ok-sized _ (sym c.if-not-check_length.ensures), fill-high c.args.order (sym c.if-not-check_format.ensures))

pub returns : goal.returns
unfolding format_replacing format_outcome
returns c =
    rw (sym c.if-not-check_length.ensures, sym c.if-not-check_format.ensures, sym c.if-is_protected.ensures)
    (record {
      value = refl;
      store_after = c.format_blocks.ensures ∙ sym (format-bytes (blocks c.args.store.now) c.args.order);
    })
