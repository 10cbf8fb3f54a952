use Rattle.std.proofs.Common.{ap, eq-eqb, eqb, ne_eqb, ℕ, ◌∙◌}
use Rattle.store.specs.Store.{prev_at, next_at, flags_at, id_at}
use Rattle.store.specs.Flags.{no_link}
use Rattle.lists.specs.ListsLaws.{and-false}
use Rattle.shape.proofs.roles.is_unlinked.Goals as goal

pub returns-then-flags_at-flags : goal.returns-then-flags_at-flags
returns-then-flags_at-flags c =
    let a = c.args in
    simp (ne_eqb (flags_at a.part.now) a.flags (λ e. c.if-flags_at-flags.true (c.flags_at.ensures ∙ e)))

pub returns-then-id_at-ne-PAGE_ID : goal.returns-then-id_at-ne-PAGE_ID
returns-then-id_at-ne-PAGE_ID c =
    let l = c.args.part.now in
    simp (ne_eqb (id_at l) 0xFF80 (λ e. c.if-id_at-ne-PAGE_ID.true (c.id_at.ensures ∙ e)), and-false)

pub returns-then-prev_at-ne-NO_LINK : goal.returns-then-prev_at-ne-NO_LINK
returns-then-prev_at-ne-NO_LINK c =
    let l = c.args.part.now in
    simp (ne_eqb (prev_at l) no_link (λ e. c.if-prev_at-ne-NO_LINK.true (c.prev_at.ensures ∙ e)), and-false)

pub returns-then-next_at-ne-NO_LINK : goal.returns-then-next_at-ne-NO_LINK
returns-then-next_at-ne-NO_LINK c =
    let l = c.args.part.now in
    simp (ne_eqb (next_at l) no_link (λ e. c.if-next_at-ne-NO_LINK.true (c.next_at.ensures ∙ e)), and-false)

pub returns : goal.returns
returns c =
    let a = c.args in
    let l = a.part.now in
    let t₁ = eq-eqb (flags_at l) a.flags (cc) in
    let t₂ = eq-eqb (id_at l) 0xFF80 (cc) in
    let t₃ = eq-eqb (prev_at l) no_link (cc) in
    let t₄ = eq-eqb (next_at l) no_link (cc) in
    rw (t₁, t₂, t₃, t₄) (ap (λ (x : ℕ). eqb x no_link) c.bucket_at.ensures)
