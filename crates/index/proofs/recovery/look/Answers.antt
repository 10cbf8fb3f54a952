use Rattle.std.proofs.Common.{◌≡◌, refl, sym, ap, ◌∙◌, true, false, List, ℕ, ltb}
use borrow.Author.Tests.{eq-eqb, ne_eqb, lt-ltb, le-ltb}
use Rattle.lists.specs.Block.{blocks}
use Rattle.image.specs.Rules.{length_ok}
use Rattle.journal.specs.Journal.{disk, sixteen, look}
use Rattle.cuts.specs.Journalled.{look_part}
use Rattle.index.proofs.recovery.look.Goals as goal

pub returns-then-not-check_length : goal.returns-then-not-check_length
unfolding look_part
returns-then-not-check_length c =
    let no : length_ok c.args.store.now ≡ false = sym c.check_length.ensures ∙ c.if-not-check_length.true in
    rw no refl

pub returns-in_default : goal.returns-in_default
unfolding look_part
returns-in_default c =
    let legal : length_ok c.args.store.now ≡ true = sym c.check_length.ensures ∙ c.if-not-check_length.false in
    let no : sixteen c.args.journal.now ≡ false = ne_eqb _ 8192 c.in_default.ensures.cases in
    rw (legal, no) refl

pub returns-then-k-store : goal.returns-then-k-store
unfolding look_part blocks
returns-then-k-store c =
    let legal : length_ok c.args.store.now ≡ true = sym c.check_length.ensures ∙ c.if-not-check_length.false in
    let long : sixteen c.args.journal.now ≡ true = eq-eqb _ 8192 c.in-Some.ensures.cases.long in
    let no : ltb c.args.k (blocks c.args.store.now) ≡ false = le-ltb _ _ c.if-k-store.true in
    rw (legal, long, no) refl

pub returns : goal.returns
unfolding look_part blocks
returns c =
    let legal : length_ok c.args.store.now ≡ true = sym c.check_length.ensures ∙ c.if-not-check_length.false in
    let long : sixteen c.args.journal.now ≡ true = eq-eqb _ 8192 c.in-Some.ensures.cases.long in
    let same = c.in-Some.ensures.cases.same in
    let below : ltb c.args.k (blocks c.args.store.now) ≡ true = lt-ltb _ _ c.if-k-store.false in
    rw (legal, long, below)
    (c.look_part.ensures ∙ ap (λ (j : List ℕ). look (disk c.args.store.now j) c.args.k) same)
