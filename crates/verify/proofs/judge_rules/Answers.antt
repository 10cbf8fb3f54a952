use Rattle.std.proofs.Common.{◌≡◌, ◌/◌, true, false, List, ℕ, length, sym, ap, ◌∙◌, arith}
use Rattle.std.proofs.lemmas.Result.{err_from_is_err_and}
use Rattle.lists.specs.Block.{blocks, block}
use Rattle.lists.specs.BlockLaws.{length-block}
use Rattle.image.specs.Decode.{read_meta}
use Rattle.image.specs.Rules.{front_ok, meta_ok, rule1, rule2, rules, lowest_broken, length_ok}
use Rattle.chain.specs.WalkLaws.{length_ok-sized}
use Rattle.verify.proofs.Judging.{first-whole, goes-on, ends}
use Rattle.verify.proofs.judge_rules.Goals as goal
use Rattle.verify.proofs.judge_rules.Goals.{After-check_front, After-check_meta}

pub block_at-part-requires : goal.block_at-part-requires
block_at-part-requires c = first-whole c.args.store.now c.requires

pub overflow_cast-size : goal.overflow_cast-size
unfolding blocks
overflow_cast-size c = omega (arith, (length_ok-sized c.args.store.now c.requires).few)

whole : (s : List ℕ) → length_ok s ≡ true → (part : List ℕ) → part ≡ block s 0 → length part ≡ 512
whole s h part e = ap length e ∙ length-block s 0 (first-whole s h)

-- what each test tells
front : (c : After-check_front) → rule1 c.args.store.now ≡ c.check_front.result
unfolding rule1 blocks
front c =
    sym (c.check_front.ensures ∙ ap (front_ok (length c.args.store.now / 512)) c.block_at-part.ensures)

fields : (c : After-check_meta) → rule2 c.args.store.now ≡ c.check_meta.result
unfolding rule2 blocks
fields c =
    sym (c.check_meta.ensures
    ∙ ap (meta_ok (length c.args.store.now / 512)) (c.read_meta-m.ensures ∙ ap read_meta c.block_at-part.ensures))

pub check_front-requires : goal.check_front-requires
check_front-requires c = whole c.args.store.now c.requires c.block_at-part.result.now c.block_at-part.ensures

pub returns-in_err-keeps : goal.returns-in_err-keeps
unfolding lowest_broken rules
returns-in_err-keeps c =
    let p = err_from_is_err_and c.from_residual.result c.from_residual.ensures.1 in
    let end = ends _ _ _ c.in_err-keeps.ensures in
    let broken : rule1 c.args.store.now ≡ false =
    front (goal.at.returns-in_err-keeps c).After-check_front ∙ end.0 in
    rw (p.1, p.2, end.1, broken)

pub read_meta-m-requires : goal.read_meta-m-requires
read_meta-m-requires c = whole c.args.store.now c.requires c.block_at-part.result.now c.block_at-part.ensures

pub returns-in_err-keeps-2 : goal.returns-in_err-keeps-2
unfolding lowest_broken rules
returns-in_err-keeps-2 c =
    let at = goal.at.returns-in_err-keeps-2 c in
    let p = err_from_is_err_and c.from_residual-in_err-keeps-2.result c.from_residual-in_err-keeps-2.ensures.1 in
    let one : rule1 c.args.store.now ≡ true =
    front at.After-check_front ∙ goes-on _ _ _ c.in_ok-keeps.ensures in
    let end = ends _ _ _ c.in_err-keeps-2.ensures in
    let broken : rule2 c.args.store.now ≡ false = fields at.After-check_meta ∙ end.0 in
    rw (p.1, p.2, end.1, one, broken)

pub judge_blocks-requires : goal.judge_blocks-requires
judge_blocks-requires c =
    let at = goal.at.judge_blocks-requires c in (
      front at.After-check_front ∙ goes-on _ _ _ c.in_ok-keeps.ensures,
      record {
        whole = c.requires;
        meta = c.read_meta-m.ensures ∙ ap read_meta c.block_at-part.ensures;
        holds = fields at.After-check_meta ∙ goes-on _ _ _ c.in_ok-keeps-2.ensures;
      },
    )
