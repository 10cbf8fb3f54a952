use Rattle.std.proofs.Common.{◌≡◌, refl, sym, ap, subst, ◌∙◌, true, false, List, ℕ, ltb, add-one}
use Rattle.std.proofs.Math.Option.{Option, none, some}
use borrow.Author.Tests.{eq-eqb, ne_eqb, lt-ltb, le-ltb}
use Rattle.lists.specs.Block.{blocks}
use Rattle.std.specs.Prelude.{Ok}
use Rattle.model.specs.declared.Place.{Place}
use Rattle.image.specs.Rules.{length_ok}
use Rattle.journal.specs.Journal.{disk, sixteen, holds, image_for}
use Rattle.cuts.specs.Journalled.{look_place, look_outcome}
use Rattle.index.proofs.recovery.look_at.Goals as goal

pub returns-then-not-check_length : goal.returns-then-not-check_length
unfolding look_outcome
returns-then-not-check_length c =
    let no : length_ok c.args.store.now ≡ false = sym c.check_length.ensures ∙ c.if-not-check_length.true in
    rw no refl

pub returns-in_default : goal.returns-in_default
unfolding look_outcome
returns-in_default c =
    let legal : length_ok c.args.store.now ≡ true = sym c.check_length.ensures ∙ c.if-not-check_length.false in
    let no : sixteen c.args.journal.now ≡ false = ne_eqb _ 8192 c.in_default.ensures.cases in
    rw (legal, no) refl

pub returns-then-k-store : goal.returns-then-k-store
unfolding look_outcome blocks
returns-then-k-store c =
    let legal : length_ok c.args.store.now ≡ true = sym c.check_length.ensures ∙ c.if-not-check_length.false in
    let long : sixteen c.args.journal.now ≡ true = eq-eqb _ 8192 c.in-Some.ensures.cases.long in
    let no : ltb c.args.k (blocks c.args.store.now) ≡ false = le-ltb _ _ c.if-k-store.true in
    rw (legal, long, no) refl

pub returns-in-Some-image_for : goal.returns-in-Some-image_for
unfolding look_outcome blocks
returns-in-Some-image_for c =
    let s = c.args.store.now in
    let k = c.args.k in
    let legal : length_ok c.args.store.now ≡ true = sym c.check_length.ensures ∙ c.if-not-check_length.false in
    let long : sixteen c.args.journal.now ≡ true = eq-eqb _ 8192 c.in-Some.ensures.cases.long in
    let same = c.in-Some.ensures.cases.same in
    let below : ltb k (blocks s) ≡ true = lt-ltb _ _ c.if-k-store.false in
    let i = c.in-Some-image_for.i in
    let found =
    subst (λ (j : List ℕ). image_for (holds (disk s j)) j k ≡ some i) same c.in-Some-image_for.ensures.1
    in
    rw (legal, long, below)
    (ap (λ (n : ℕ). Ok (Place.Journal n)) (add-one i) ∙ sym (ap (λ (o : Option ℕ). look_place o k) found))

pub returns-in-None : goal.returns-in-None
unfolding look_outcome blocks
returns-in-None c =
    let s = c.args.store.now in
    let k = c.args.k in
    let legal : length_ok c.args.store.now ≡ true = sym c.check_length.ensures ∙ c.if-not-check_length.false in
    let long : sixteen c.args.journal.now ≡ true = eq-eqb _ 8192 c.in-Some.ensures.cases.long in
    let same = c.in-Some.ensures.cases.same in
    let below : ltb k (blocks s) ≡ true = lt-ltb _ _ c.if-k-store.false in
    let missed = subst (λ (j : List ℕ). image_for (holds (disk s j)) j k ≡ none) same c.in-None.ensures in
    rw (legal, long, below) (sym (ap (λ (o : Option ℕ). look_place o k) missed))
