use Rattle.std.proofs.Common.{ap, eq-eqb, leb, ne_eqb, sym, ℕ, ◌∙◌}
use Rattle.store.specs.Store.{flags_at, id_at}
use Rattle.shape.proofs.Fitting.{fits-first, fits-later}
use Rattle.shape.proofs.roles.fits_bit.Goals as goal

pub returns-then-n-eq0 : goal.returns-then-n-eq0
returns-then-n-eq0 c =
    let a = c.args in
    c.is_unlinked.ensures ∙ sym (fits-first a.max a.part.now a.n c.if-n-eq0.true)

pub returns-then-flags_at-ne-OVERFLOW : goal.returns-then-flags_at-ne-OVERFLOW
returns-then-flags_at-ne-OVERFLOW c =
    let a = c.args in
    let odd = ne_eqb (flags_at a.part.now) 1 (λ e. c.if-flags_at-ne-OVERFLOW.true (c.flags_at.ensures ∙ e)) in
    c.is_unused.ensures ∙ sym (fits-later a.max a.part.now a.n c.if-n-eq0.false ∙ rw odd)

pub returns-then-id_at-ne-PAGE_ID : goal.returns-then-id_at-ne-PAGE_ID
returns-then-id_at-ne-PAGE_ID c =
    let a = c.args in
    let one = eq-eqb (flags_at a.part.now) 1 (cc) in
    let odd = ne_eqb (id_at a.part.now) 0xFF80 (λ e. c.if-id_at-ne-PAGE_ID.true (c.id_at.ensures ∙ e)) in
    sym (fits-later a.max a.part.now a.n c.if-n-eq0.false ∙ rw (one, odd))

pub returns : goal.returns
returns c =
    let a = c.args in
    let one = eq-eqb (flags_at a.part.now) 1 (cc) in
    let id = eq-eqb (id_at a.part.now) 0xFF80 (cc) in
    ap (λ (x : ℕ). leb x a.max) c.bucket_at.ensures
    ∙ sym (fits-later a.max a.part.now a.n c.if-n-eq0.false ∙ rw (one, id))
