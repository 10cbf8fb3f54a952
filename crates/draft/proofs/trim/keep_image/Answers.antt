use Rattle.std.proofs.Common.{◌≡◌, length, arith, rules, refl}
use lib.Seq.{get_or-set_same, get_or-set_other}
use Rattle.draft.proofs.trim.keep_image.Goals as goal

pub returns-clause-kept : goal.returns-clause-kept
returns-clause-kept c =
    let old = c.args.draft.now.change in
    let eight : length old.numbers ≡ 8 = search rules in
    record {
      more = refl;
      last = get_or-set_same old.numbers old.count c.args.k 0 (omega arith);
      before = λ j h. get_or-set_other old.numbers old.count j c.args.k 0 (λ e. omega arith);
    }
