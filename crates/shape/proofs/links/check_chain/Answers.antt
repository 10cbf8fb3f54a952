use Rattle.std.proofs.Common.{List, ap, ap₂, arith, rules, drop, eqb, get_or, length, length-drop, refl, sym, take, true, false, ℕ, ◌+◌, ◌-◌, ◌<◌, ◌∙◌, ◌≡◌, ◌≤◌}
use Rattle.std.proofs.lemmas.List.{get_or-drop, get_or-take, length-take-le}
use Rattle.lists.specs.Block.{block}
use Rattle.store.specs.Flags.{no_link}
use Rattle.store.specs.Store.{next_at}
use Rattle.image.specs.Rules.{link_ok}
use Rattle.reader.specs.KnownLaws.{sized}
use Rattle.shape.specs.LoopLaws.{passed, failed}
use Rattle.shape.proofs.Chaining.{chain-some, chain-start, chain-turn, chain-end}
use Rattle.shape.proofs.links.check_chain.Goals as goal

-- the blocks after the first one, as a slice
rest_length : (ks : List ℕ) → length (take (length ks - 1) (drop 1 ks)) ≡ length ks - 1
rest_length ks = length-take-le (length ks - 1) (drop 1 ks) (omega (arith, length-drop 1 ks))

rest_at : (ks : List ℕ) (i : ℕ) → i + 1 < length ks → get_or (take (length ks - 1) (drop 1 ks)) i 0 ≡ get_or ks (i + 1) 0
rest_at ks i more =
    let e : 1 + i ≡ i + 1 = omega arith in
    get_or-take (length ks - 1) (drop 1 ks) i 0 (omega arith) ∙ get_or-drop 1 ks i 0 ∙ ap (λ (j : ℕ). get_or ks j 0) e

pub bounds-blocks-0 : goal.bounds-blocks-0
bounds-blocks-0 c = chain-some c.args.store.now c.args.b c.requires.walked

pub slice_bounds-next-items-count : goal.slice_bounds-next-items-count
slice_bounds-next-items-count c = chain-some c.args.store.now c.args.b c.requires.walked

pub slice_bounds-next-items-start : goal.slice_bounds-next-items-start
slice_bounds-next-items-start c =
    let some : 1 ≤ length c.args.blocks.now = chain-some c.args.store.now c.args.b c.requires.walked in
    search rules

pub loop-next-init : goal.loop-next-init
loop-next-init c = record { here = refl; rest = chain-start c.args.store.now c.args.b c.requires.walked }

pub returns-then-not-check_link : goal.returns-then-not-check_link
returns-then-not-check_link c =
    let s = c.args.store.now in
    let ks : List ℕ = c.args.blocks.now in
    let i = c.loop-next.next-index in
    let more : i + 1 < length ks = omega (arith, c.loop-next-test.true, rest_length ks) in
    let test : link_ok s c.args.b (get_or ks i 0) (get_or ks (i + 1) 0) ≡ false =
    sym (ap₂ (link_ok s c.args.b) c.loop-next.invariant.here (rest_at ks i more))
    ∙ sym c.check_link.ensures ∙ c.if-not-check_link.true in
    sym (sym c.loop-next.invariant.rest ∙ failed _ _ _ (chain-turn s c.args.b c.requires.walked i more) test)

pub loop-next-preserved : goal.loop-next-preserved
loop-next-preserved c =
    let s = c.args.store.now in
    let ks : List ℕ = c.args.blocks.now in
    let i = c.loop-next.next-index in
    let more : i + 1 < length ks = omega (arith, c.loop-next-test.true, rest_length ks) in
    let test : link_ok s c.args.b (get_or ks i 0) (get_or ks (i + 1) 0) ≡ true =
    sym (ap₂ (link_ok s c.args.b) c.loop-next.invariant.here (rest_at ks i more))
    ∙ sym c.check_link.ensures ∙ c.if-not-check_link.false in
    record {
      here = rest_at ks i more;
      rest = passed _ _ _ (chain-turn s c.args.b c.requires.walked i more) test ∙ c.loop-next.invariant.rest;
    }

pub next_block-requires : goal.next_block-requires
next_block-requires c = sized c.requires.known2

pub returns : goal.returns
returns c =
    let s = c.args.store.now in
    let ks : List ℕ = c.args.blocks.now in
    let i = c.loop-next.next-index in
    let past : length ks ≤ i + 1 = omega (arith, c.loop-next-test.false, rest_length ks) in
    ap (λ (k : ℕ). eqb k no_link) c.next_block.ensures
    ∙ ap (λ (k : ℕ). eqb (next_at (block s k)) no_link) c.loop-next.invariant.here
    ∙ sym (chain-end s c.args.b c.requires.walked i past)
    ∙ c.loop-next.invariant.rest
