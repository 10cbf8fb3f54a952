use Rattle.std.proofs.Common.{◌≡◌, ℕ, ◌*◌, ◌≤◌, Bool, true, not, ◌&&◌, leb, List, ◌++◌, length, take, drop, sym, ap, ◌∙◌, ap₂, arith, length-take-le, le-leb}
use borrow.Author.Tests.{lt-leb, not-true}
use Rattle.lists.specs.ListsLaws.{and_left, and_right}
use Rattle.address.specs.Limits.{max_blocks}
use Rattle.model.specs.Calls.{overwrites}
use Rattle.image.specs.Rules.{length_ok}
use Rattle.outcomes.specs.Outcomes.{store_in_use, Changed}
use Rattle.outcomes.proofs.OutcomeSoundLaws.{legal-is}
use Rattle.outcomes.proofs.InUseLaws.{format-length, format-number, format-in_use}
use Rattle.interpreter.specs.Script.{script_blocks}
use Rattle.interpreter.specs.Feed.{store_bytes}
use Rattle.interpreter.specs.RunsLaws.{format-overwriting, refused-part}
use Rattle.interpreter.proofs.calls.format_standing.Goals as goal

-- the first blocks of the lent store
module _ (s : List ℕ) (n : ℕ) (few : n ≤ script_blocks) (room : store_bytes ≤ length s) where
  part : length (take (512 * n) s) ≡ 512 * n
  part = length-take-le (512 * n) s (omega arith)

  legal : 4 ≤ n → length_ok (take (512 * n) s) ≡ true
  legal h =
      legal-is _ n part ∙ ap₂ (λ (a b : Bool). a && b) (le-leb 4 n h) (le-leb n max_blocks (omega arith))

pub returns-then-blocks-lt4 : goal.returns-then-blocks-lt4
returns-then-blocks-lt4 c =
    let a = c.args in
    let n = a.blocks in
    let kept = refused-part _ a.store.now (512 * n) a.order _
    (format-length _ _ a.order
    (legal-is _ n (part a.store.now n c.requires.0 c.requires.2)
    ∙ ap (λ (b : Bool). b && leb n max_blocks) (lt-leb 4 n c.if-blocks-lt4.true))) in
    record { value = kept.0; store_after = kept.1 }

pub returns-then-not-check_format : goal.returns-then-not-check_format
returns-then-not-check_format c =
    let a = c.args in
    let kept = refused-part _ a.store.now (512 * a.blocks) a.order _
    (format-number _ _ a.order (legal a.store.now a.blocks c.requires.0 c.requires.2 c.if-blocks-lt4.false)
    (sym c.if-not-check_format.ensures)) in
    record { value = kept.0; store_after = kept.1 }

pub returns-then-is_protected : goal.returns-then-is_protected
returns-then-is_protected c =
    let a = c.args in
    let old = take (512 * a.standing) a.store.now in
    let yes : (not (overwrites a.order) && store_in_use old) ≡ true = sym c.if-is_protected.ensures in
    let kept = refused-part old a.store.now (512 * a.blocks) a.order _
    (format-in_use old _ a.order (legal a.store.now a.blocks c.requires.0 c.requires.2 c.if-blocks-lt4.false)
    (sym c.if-not-check_format.ensures)
    (not-true _ (and_left (not (overwrites a.order)) (store_in_use old) yes))
    (and_right (not (overwrites a.order)) (store_in_use old) yes)) in
    record { value = kept.0; store_after = kept.1 }

pub returns : goal.returns
returns c =
    let a = c.args in
    let same = format-overwriting (take (512 * a.standing) a.store.now) (take (512 * a.blocks) a.store.now)
    a.order (legal a.store.now a.blocks c.requires.0 c.requires.2 c.if-blocks-lt4.false)
    (sym c.if-not-check_format.ensures) (sym c.if-is_protected.ensures) in
    record {
      value = c.format.ensures.value ∙ ap (λ (d : Changed). d.answer) same;
      store_after = ap (λ (x : List ℕ). x ++ drop (512 * a.blocks) a.store.now)
          (c.format.ensures.store_after ∙ ap (λ (d : Changed). d.store) same);
    }
