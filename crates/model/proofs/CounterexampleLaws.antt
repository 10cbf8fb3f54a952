-- A machine that demand 3 shuts out: standing tells of a job before any begin, and its steps never end. It answers
-- every insert with 7 and every squeeze with 11; lookups, removals, work calls and counts are those of an empty book.
use Rattle.std.specs.Prelude.{◌≡◌, refl, [], ℕ, ◌*◌, Ok, Err}
use Rattle.std.proofs.Common.{arith}
use Rattle.std.proofs.Math.IntN.{sub_ℕ}
use Rattle.address.specs.Address.{split_from}
use Rattle.model.specs.declared.Order.{Order}
use Rattle.model.specs.declared.Refusal.{Refusal}
use Rattle.model.specs.Answers.{work_of}
use Rattle.model.specs.declared.Stop.{Stop}
use Rattle.model.specs.declared.Phase.{Phase}
use Rattle.model.specs.Index.{Index}
use Rattle.model.specs.Steps.{next}
use Rattle.model.specs.Machine.{Call, formatting, inserting, removing, looking, working, squeezing, asking}
use Rattle.model.specs.Machine.{plain, looked, worked, stands, CallFits, Ran, Machine}
use Rattle.model.proofs.MachineLaws.{never}
use Rattle.model.specs.History.{phase_at}
use Rattle.model.specs.Demand.{Demand3}

-- its state is the fill
abbrev wrong_run : Call → ℕ → Ran ℕ
wrong_run (formatting o) s = record { reply = plain (Ok tt); state = o.fill }
wrong_run (inserting p) s = record { reply = plain (Err Refusal.NoRoom); state = s }
wrong_run (removing p) s = record { reply = plain (Err Refusal.NotHeld); state = s }
wrong_run (looking h out) s =
    record { reply = looked (record { answer = Ok 0; output = out }); state = s }
wrong_run (working budget) s = record { reply = worked (Ok (work_of budget Stop.Spent)); state = s }
wrong_run (squeezing b budget) s = record { reply = worked (Err Refusal.Busy); state = s }
wrong_run asking s =
    record {
      reply = stands (Ok (record {
        count = 0;
        buckets = 2;
        phase = Phase.Copying (split_from 1) 1;
        slack = sub_ℕ (s * 2) 0;
      }));
      state = s;
    }

abbrev pub wrong : Machine
wrong = record { State = ℕ; run = wrong_run; step = λ k s. next s; stored = λ s. 0 }

-- standing gives phase copying before any begin
pub wrong-fails : (index : ℕ → Index) → Demand3 wrong index → ⊥
wrong-fails index d =
    let order : Order = record { fill = 1; number = 0; overwrite = 0 } in
    let fits : CallFits (formatting order) = (omega arith, omega arith, omega arith) in
    let none : phase_at wrong 1 ≡ Phase.None = (d 1 order fits refl [] tt).0.0.splits in
    never (cc)
