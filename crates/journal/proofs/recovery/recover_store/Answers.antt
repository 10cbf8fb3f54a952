use Rattle.std.proofs.Common.{◌≡◌, true, sym, subst, ◌∙◌, ℕ, List, rules}
use Rattle.lists.specs.Block.{blocks}
use Rattle.journal.specs.Journal.{disk, holds, recover}
use Rattle.journal.specs.HoldsLaws.{disk-eq}
use Rattle.journal.proofs.ValidLaws.{holds-held}
use Rattle.journal.proofs.RecoverLaws.{recover-yes, recover-no, copying}
use Rattle.journal.proofs.recovery.recover_store.Goals as goal
use Rattle.journal.proofs.recovery.recover_store.Goals.{then-journal_holds, else-journal_holds}

pub copy_images-requires : goal.copy_images-requires
copy_images-requires c =
    let d = disk c.args.store.now c.in-Some.journal.now in
    let h : holds d ≡ true = sym c.journal_holds.ensures ∙ c.if-journal_holds.true in
    record {
      few = (holds-held d h).few;
      copying = copying {m = blocks d.store} {d = d} (record { store = c.requires.1; journal = search rules }) h;
    }

pub returns : goal.returns
returns c =
    let s = c.args.store.now in
    let d = disk s c.in-Some.journal.now in
    subst (λ (j : List ℕ). recover (disk s j) ≡ disk c.if-journal_holds.store c.wipe_head.new.journal)
    c.in-Some.ensures.cases.same
    (elim c.if-journal_holds.branch [
      | then-journal_holds w ↦
          recover-yes d (sym c.journal_holds.ensures ∙ w.if-journal_holds.true)
          ∙ disk-eq _ _ _ _ (sym (w.store-is ∙ w.copy_images.ensures)) (sym c.wipe_head.ensures)
      | else-journal_holds w ↦
          recover-no d (sym c.journal_holds.ensures ∙ w.if-journal_holds.false)
          ∙ disk-eq _ _ _ _ (sym w.store-is) (sym c.wipe_head.ensures)
    ])
