use Rattle.std.proofs.Common.{◌∙◌, arith}
use Rattle.lists.specs.Bytes.{Bytes}
use Rattle.page.proofs.RunPartLaws.{run-bytes}
use Rattle.page.proofs.search.find_run.Goals as goal

pub returns : goal.returns
returns c =
    let bytes : Bytes c.args.p.now = λ i. omega (arith, c.type_inv.p i) in (
      c.run_from.ensures,
      λ ok. c.run_from.ensures ∙ run-bytes c.args.p.now bytes c.requires.whole ok c.args.h,
    )
