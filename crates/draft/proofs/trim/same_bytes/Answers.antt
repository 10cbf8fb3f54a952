use Rattle.std.proofs.Common.{◌≡◌, ◌∙◌, refl, sym, ap, Bool, true, false, ◌&&◌, ℕ, List, ◌+◌, ◌≤◌, ◌<◌, get_or, drop, arith}
use lib.Seq.{get_or-take}
use Rattle.lists.specs.ListsLaws.{and-false}
use Rattle.store.specs.Store.{covered}
use Rattle.store.proofs.CheckLaws.{length-covered}
use Rattle.draft.specs.Trim.{alike}
use Rattle.draft.specs.TrimLaws.{alike-more, alike-stop, alike_end}
use Rattle.draft.proofs.trim.same_bytes.Goals as goal
use Rattle.draft.proofs.trim.same_bytes.Goals.{else-a-i, then-a-i}

get_or-covered : (l : List ℕ) (i : ℕ) → i < 508 → get_or (covered l) i 0 ≡ get_or l i 0
unfolding covered
get_or-covered l i h = get_or-take 508 l i 0 h

and-true : (t : Bool) → t && true ≡ t
and-true true = refl
and-true false = refl

pub loop-i-init : goal.loop-i-init
loop-i-init c = refl

pub loop-i-preserved : goal.loop-i-preserved
loop-i-preserved c =
    let l = c.loop-i in
    let a = c.args.a.now in
    let b = c.args.b.now in
    let la = length-covered a (omega arith) in
    let lb = length-covered b (omega arith) in
    let ga = get_or-covered a l.i (omega arith) in
    let gb = get_or-covered b l.i (omega arith) in
    let left = alike (drop (l.i + 1) (covered a)) (drop (l.i + 1) (covered b)) in
    elim c.if-a-i.branch [
      | then-a-i w ↦ l.invariant
          ∙ ap (λ (t : Bool). l.same && t)
          (alike-stop (covered a) (covered b) l.i (omega arith) (omega arith) (λ e. w.if-a-i.true (sym ga ∙ e ∙ gb)))
          ∙ and-false l.same
          ∙ sym (ap (λ (t : Bool). t && left) w.same-is)
      | else-a-i w ↦ l.invariant
          ∙ ap (λ (t : Bool). l.same && t)
          (alike-more (covered a) (covered b) l.i (omega arith) (omega arith) (ga ∙ w.if-a-i.false ∙ sym gb))
          ∙ sym (ap (λ (t : Bool). t && left) w.same-is)
    ]

pub returns : goal.returns
returns c =
    let l = c.loop-i in
    let a = c.args.a.now in
    let b = c.args.b.now in
    let la = length-covered a (omega arith) in
    let lb = length-covered b (omega arith) in
    sym
    (l.invariant
    ∙ ap (λ (t : Bool). l.same && t) (alike_end (covered a) (covered b) l.i (omega arith) (omega arith))
    ∙ and-true l.same)
