use Rattle.std.proofs.Common.{ap, eqb, inl, inr, sym, ⊎_elim, ◌∙◌, ◌≡◌}
use Rattle.image.specs.Rules.{bucket_flags_ok}
use Rattle.shape.proofs.Fitting.{flags-populated, flags-old, flags-none}
use Rattle.shape.proofs.roles.may_flag.Goals as goal

pub returns-in-2 : goal.returns-in-2
returns-in-2 c = let a = c.args in sym (ap (bucket_flags_ok a.max a.b) c.in-2.is)

pub returns-in-18 : goal.returns-in-18
returns-in-18 c =
    let a = c.args in
    sym (ap (bucket_flags_ok a.max a.b) c.in-18.is ∙ flags-populated a.max a.b)

pub returns-in-34 : goal.returns-in-34
returns-in-34 c =
    let a = c.args in
    let old : bucket_flags_ok a.max a.b a.flags ≡ _ =
    ⊎_elim (λ e. ap (bucket_flags_ok a.max a.b) e) (λ e. ap (bucket_flags_ok a.max a.b) e) c.in-34.is in
    ap (eqb a.b) c.parent_of.ensures ∙ sym (flags-old a.max a.b a.flags old)

pub returns-in_default : goal.returns-in_default
returns-in_default c =
    let a = c.args in
    let r = c.in_default.in_default-own.rest in
    sym (flags-none a.max a.b a.flags r.0.0.1 r.0.1 (λ e. r.1 (inl e)) (λ e. r.1 (inr e)))
