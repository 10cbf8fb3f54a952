use Rattle.std.proofs.Common.{ap, eq-eqb, eqb, false, le-leb, ne_eqb, true, ℕ, ◌∙◌, ◌≡◌}
use borrow.Author.Tests.{lt-leb, not-true, not-false}
use Rattle.store.specs.Store.{flags_at, id_at}
use Rattle.image.specs.Rules.{bucket_flags_ok, fits}
use Rattle.lists.specs.ListsLaws.{and-false}
use Rattle.shape.proofs.roles.fits_bucket.Goals as goal

pub returns-then-max-b : goal.returns-then-max-b
unfolding fits
returns-then-max-b c =
    let a = c.args in
    rw (lt-leb a.b a.max c.if-max-b.true) c.is_unused.ensures

pub returns-then-not-may_flag : goal.returns-then-not-may_flag
unfolding fits
returns-then-not-may_flag c =
    let a = c.args in
    let t : bucket_flags_ok a.max a.b (flags_at a.part.now) ≡ false =
    cc (not-true c.may_flag.result c.if-not-may_flag.true-raw) in
    rw (le-leb a.b a.max c.if-max-b.false, t)

pub returns-then-id_at-ne-PAGE_ID : goal.returns-then-id_at-ne-PAGE_ID
unfolding fits
returns-then-id_at-ne-PAGE_ID c =
    let a = c.args in
    let t = ne_eqb (id_at a.part.now) 0xFF80 (λ e. c.if-id_at-ne-PAGE_ID.true (c.id_at.ensures ∙ e)) in
    simp (le-leb a.b a.max c.if-max-b.false, t, and-false)

pub returns : goal.returns
unfolding fits
returns c =
    let a = c.args in
    let t₁ : bucket_flags_ok a.max a.b (flags_at a.part.now) ≡ true =
    cc (not-false c.may_flag.result c.if-not-may_flag.false-raw) in
    let t₂ = eq-eqb (id_at a.part.now) 0xFF80 (cc) in
    rw (le-leb a.b a.max c.if-max-b.false, t₁, t₂) (ap (λ (x : ℕ). eqb x a.b) c.bucket_at.ensures)
