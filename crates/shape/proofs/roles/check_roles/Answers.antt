use Rattle.std.proofs.Common.{Bool, ap, ap₂, eqb, refl, sym, ℕ, ◌&&◌, ◌∙◌}
use mathlib.Core.Bool.{beq}
use Rattle.image.specs.Decode.{new_flags, old_flags}
use Rattle.image.specs.Rules.{rule3}
use Rattle.reader.specs.JobLaws.{old-low, new-flags, old-flags}
use Rattle.shape.proofs.roles.check_roles.Goals as goal

pub returns-then-not-check_fits : goal.returns-then-not-check_fits
unfolding rule3
returns-then-not-check_fits c =
    let s = c.args.store.now in
    let rest : Bool = beq (eqb (new_flags s) 18) (eqb (old_flags s) 34) in
    sym (ap (λ (b : Bool). b && rest) (sym c.check_fits.ensures ∙ c.if-not-check_fits.true))

pub bucket_flags-split-requires : goal.bucket_flags-split-requires
bucket_flags-split-requires c = (c.requires, old-low c.requires c.parent_of.result c.parent_of.ensures)

pub returns : goal.returns
unfolding rule3
returns c =
    let s = c.args.store.now in
    let new = new-flags c.requires c.args.m.max c.bucket_flags-populated.result c.bucket_flags-populated.ensures refl in
    let old =
    old-flags c.requires c.parent_of.result c.bucket_flags-split.result c.bucket_flags-split.ensures c.parent_of.ensures in
    ap₂ (λ (x y : ℕ). beq (eqb x 18) (eqb y 34)) new old
    ∙ ap (λ (b : Bool). b && beq (eqb (new_flags s) 18) (eqb (old_flags s) 34))
    (sym (sym c.check_fits.ensures ∙ c.if-not-check_fits.false))
