use Rattle.batch.specs.CallLaws.{ran-format, ran-insert, ran-remove, ran-lookup, ran-work, ran-squeeze, ran-standing}
use Rattle.batch.proofs.run_call.Goals as goal

pub returns-in-0 : goal.returns-in-0
returns-in-0 c = ran-format _ _ _ _ _ _ c.in-0.is c.amiqsovik_format.ensures.value c.amiqsovik_format.ensures.store_after

pub returns-in-1 : goal.returns-in-1
returns-in-1 c = ran-insert _ _ _ _ _ _ c.in-1.is (c.amiqsovik_insert.ensures.value, c.amiqsovik_insert.ensures.offset_value)

pub returns-in-2 : goal.returns-in-2
returns-in-2 c = ran-remove _ _ _ _ _ _ c.in-2.is (c.amiqsovik_remove.ensures.value, c.amiqsovik_remove.ensures.offset_value)

pub returns-in-3 : goal.returns-in-3
returns-in-3 c = ran-lookup _ _ _ _ _ _ c.in-3.is c.run_lookup.ensures.value c.run_lookup.ensures.output_after

pub returns-in-4 : goal.returns-in-4
returns-in-4 c = ran-work _ _ _ _ _ _ c.in-4.is (c.amiqsovik_work.ensures.value, c.amiqsovik_work.ensures.budget_value)

pub returns-in-5 : goal.returns-in-5
returns-in-5 c = ran-squeeze _ _ _ _ _ _ c.in-5.is (c.amiqsovik_squeeze.ensures.value, c.amiqsovik_squeeze.ensures.budget_value)

pub returns-in_default : goal.returns-in_default
returns-in_default c =
    let r = c.in_default.in_default-own.rest in
    ran-standing _ _ _ _ _ _ r.0.0.0.0.0.1 r.0.0.0.0.1 r.0.0.0.1 r.0.0.1 r.0.1 r.1
    c.run_standing.ensures.value c.run_standing.ensures.output_after
