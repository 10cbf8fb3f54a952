use Rattle.std.proofs.Common.{arith, rules, sym}
use Rattle.store.proofs.ChangeLaws.{commits-zero}
use Rattle.draft.proofs.clear.Goals as goal

pub returns-clause-by_index : goal.returns-clause-by_index
returns-clause-by_index c s w =
    record {
      whole = w;
      fits =
          record {
            few = omega arith;
            inside = λ j h. absurd (omega arith);
            ascending = λ i j h l. absurd (omega arith);
          };
      eight = search rules;
      makes = sym (commits-zero s _ _);
    }
