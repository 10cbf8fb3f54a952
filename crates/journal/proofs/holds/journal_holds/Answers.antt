use Rattle.std.proofs.Common.{◌≡◌, ◌∙◌, ap, ap₂, arith, Bool, false, ◌&&◌, not, ℕ, ◌/◌, eqb, ltb, List, length}
use Rattle.lists.specs.Lists.{all, up_from}
use Rattle.lists.specs.Block.{blocks}
use Rattle.store.specs.Store.{checks}
use Rattle.journal.specs.Journal.{Disk, disk, head_of, end_of, number_in, name_in, image_in}
use Rattle.journal.specs.Journal.{end_copies, images_good, names_below, names_differ, holds}
use Rattle.journal.specs.HoldsLaws.{and_no, and_yes, and-six, no-image, many-images, few-images}
use Rattle.journal.proofs.holds.journal_holds.Goals as goal
use Rattle.journal.proofs.holds.journal_holds.Goals.{Joined-images_good}
use Rattle.journal.proofs.holds.journal_holds.Goals.{then-count-eq0-via-then-count-eq0, then-count-eq0-via-else-count-eq0+then-count-gt14}
use Rattle.journal.proofs.holds.journal_holds.Goals.{then-check_block, else-check_block, then-check_block-2, else-check_block-2}
use Rattle.journal.proofs.holds.journal_holds.Goals.{then-end_copies, else-end_copies, then-images_good, else-images_good}

pub returns-then-count-eq0 : goal.returns-then-count-eq0
returns-then-count-eq0 c =
    let d = disk c.args.store.now c.in-Some.journal.now in
    let none : false ≡ holds d =
    elim c.then-count-eq0.branch [
      | then-count-eq0-via-then-count-eq0 w ↦ no-image d (omega (arith, w.if-count-eq0.true))
      | then-count-eq0-via-else-count-eq0+then-count-gt14 w ↦ many-images d (omega (arith, w.if-count-gt14.true))
    ]
    in
    none ∙ ap (λ (j : List ℕ). holds (disk c.args.store.now j)) c.in-Some.ensures.cases.same

-- the checks of head and end
abbrev heads : Disk → Bool
heads d = checks (number_in d.journal) 0 (head_of d.journal)

abbrev ends : Disk → Bool
ends d = checks (number_in d.journal) 15 (end_of d.journal)

-- the tests up to that of the names' bound, where the ways that ask them join
below-tests : (c : Joined-images_good)
    → c.if-images_good.value
    ≡ (((heads (disk c.args.store.now c.in-Some.journal.now) && ends (disk c.args.store.now c.in-Some.journal.now))
    && end_copies c.in-Some.journal.now) && images_good (disk c.args.store.now c.in-Some.journal.now))
    && names_below (disk c.args.store.now c.in-Some.journal.now)
unfolding blocks
below-tests c =
    let s = c.args.store.now in
    let j = c.in-Some.journal.now in
    let d = disk s j in
    let number = c.number_of-number.ensures in
    let count = c.count_of-count.ensures in
    let headed : c.check_block.result ≡ heads d =
    c.check_block.ensures ∙ ap₂ (λ (m : ℕ) (b : List ℕ). checks m 0 b) number c.block_at.ensures
    in
    let ended : c.if-check_block.value ≡ heads d && ends d =
    elim c.if-check_block.branch [
      | then-check_block w ↦
          w.value-is
          ∙ and_yes _ (ends d) _ _ headed w.if-check_block.true
          (w.check_block-then-check_block.ensures
          ∙ ap₂ (λ (m : ℕ) (b : List ℕ). checks m 15 b) number w.block_at-then-check_block.ensures)
      | else-check_block w ↦ w.value-is ∙ and_no _ (ends d) _ headed w.if-check_block.false
    ]
    in
    let copied : c.if-check_block-2.value ≡ (heads d && ends d) && end_copies j =
    elim c.if-check_block-2.branch [
      | then-check_block-2 w ↦ w.value-is ∙ and_yes _ (end_copies j) _ _ ended w.if-check_block-2.true w.end_copies.ensures
      | else-check_block-2 w ↦ w.value-is ∙ and_no _ (end_copies j) _ ended w.if-check_block-2.false
    ]
    in
    let good : c.if-end_copies.value ≡ ((heads d && ends d) && end_copies j) && images_good d =
    elim c.if-end_copies.branch [
      | then-end_copies w ↦
          w.value-is
          ∙ and_yes _ (images_good d) _ _ copied w.if-end_copies.true
          (w.images_good.ensures
          ∙ ap₂ (λ (m n : ℕ). all (λ i. checks m (name_in j i) (image_in j i)) (up_from 0 n)) number count)
      | else-end_copies w ↦ w.value-is ∙ and_no _ (images_good d) _ copied w.if-end_copies.false
    ]
    in
    elim c.if-images_good.branch [
      | then-images_good w ↦
          w.value-is
          ∙ and_yes _ (names_below d) _ _ good w.if-images_good.true
          (w.names_below.ensures
          ∙ ap (λ (n : ℕ). all (λ i. ltb (name_in j i) (length s / 512)) (up_from 0 n)) count)
      | else-images_good w ↦ w.value-is ∙ and_no _ (names_below d) _ good w.if-images_good.false
    ]

pub returns-then-names_below : goal.returns-then-names_below
returns-then-names_below c =
    let j = c.in-Some.journal.now in
    let d = disk c.args.store.now j in
    let below = below-tests (goal.at.returns-then-names_below c).Joined-images_good in
    few-images d (omega arith) (omega arith) _
    (and_yes _ (names_differ d) _ _ below c.if-names_below.true
    (c.names_differ.ensures
    ∙ ap (λ (n : ℕ). all (λ l. all (λ i. not (eqb (name_in j i) (name_in j l))) (up_from 0 l)) (up_from 0 n)) c.count_of-count.ensures)
    ∙ and-six (heads d) (ends d) (end_copies j) (images_good d) (names_below d) (names_differ d))
    ∙ ap (λ (k : List ℕ). holds (disk c.args.store.now k)) c.in-Some.ensures.cases.same

pub returns-else-names_below : goal.returns-else-names_below
returns-else-names_below c =
    let j = c.in-Some.journal.now in
    let d = disk c.args.store.now j in
    let below = below-tests (goal.at.returns-else-names_below c).Joined-images_good in
    few-images d (omega arith) (omega arith) _
    (and_no _ (names_differ d) _ below c.if-names_below.false
    ∙ and-six (heads d) (ends d) (end_copies j) (images_good d) (names_below d) (names_differ d))
    ∙ ap (λ (k : List ℕ). holds (disk c.args.store.now k)) c.in-Some.ensures.cases.same
