use Rattle.std.proofs.Common.{◌≡◌, refl, sym, ◌∙◌, false, arith}
use Rattle.model.specs.declared.Refusal.{Refusal}
use Rattle.model.specs.Held.{held}
use Rattle.image.specs.Decode.{decode}
use Rattle.insertion.specs.InsertLaws.{settles-refused, count-more, insert-held, home-under, pair-absent}
use Rattle.insertion.specs.InsertLaws.{put-leaves, settles-done, insert-full, put-none}
use Rattle.insertion.proofs.insert.plan_insert.Goals as goal

pub returns-then-is_held : goal.returns-then-is_held
returns-then-is_held c =
    let a = c.args in
    settles-refused Refusal.HeldAlready
    (insert-held (decode a.store.now) a.pair c.requires.1 (sym c.is_held.ensures ∙ c.if-is_held.true))
    refl c.clear.ensures.count_value

pub overflow_add-m : goal.overflow_add-m
overflow_add-m c = omega (arith, count-more c.requires.0)

pub plan_put-requires : goal.plan_put-requires
plan_put-requires c =
    let a = c.args in
    let r = c.requires.0 in
    let ok = c.requires.1 in
    let free : held (decode a.store.now) a.pair ≡ false = sym c.is_held.ensures ∙ c.if-is_held.false in
    let h = c.bucket_of-b.ensures in
    record {
      reads = (r, home-under r a.pair ok free _ h);
      b_value = pair-absent r a.pair ok free _ h;
      wf = put-leaves r a.pair ok free _ h (omega arith);
    }

pub returns-then-plan_put : goal.returns-then-plan_put
returns-then-plan_put c =
    let a = c.args in
    let free : held (decode a.store.now) a.pair ≡ false = sym c.is_held.ensures ∙ c.if-is_held.false in
    settles-done c.requires.0 a.pair c.requires.1 free _ c.bucket_of-b.ensures c.plan_put.ensures c.if-plan_put.true

pub returns-else-plan_put : goal.returns-else-plan_put
returns-else-plan_put c =
    let a = c.args in
    let free : held (decode a.store.now) a.pair ≡ false = sym c.is_held.ensures ∙ c.if-is_held.false in
    settles-refused Refusal.NoRoom
    (insert-full c.requires.0 a.pair c.requires.1 free _ c.bucket_of-b.ensures c.plan_put.ensures c.if-plan_put.false)
    refl (put-none c.requires.0 a.pair c.requires.1 free _ c.bucket_of-b.ensures c.plan_put.ensures c.if-plan_put.false)
