use Rattle.std.proofs.Common.{List, ℕ, ◌≡◌, ap, ◌∙◌}
use Rattle.merge.specs.declared.Merge.{Merge}
use Rattle.merge.specs.MergingLaws.{merging-upto, taken-settled, taken-moved, taken-kept}
use Rattle.merge.proofs.Merge.take_first.Goals as goal

pub returns-then-stays_first : goal.returns-then-stays_first
returns-then-stays_first c =
    let m = c.requires.underway.0 in
    let e = c.advance.ensures in
    let h = rw e.same_tree at (c.stays_first.ensures c.if-stays_first.true) in
    rw e.same_tree
    (taken-kept m c.requires.underway.1 c.requires.some_left _ _ e.keys_after e.tails_after h.0 h.1)

pub replay-requires : goal.replay-requires
replay-requires c =
    let m = c.requires.underway.0 in
    let e = c.advance.ensures in (
      merging-upto m c.requires.underway.1,
      m.pages.few,
      rw e.same_tree
          (taken-settled m c.requires.underway.1 c.requires.some_left _ _ e.keys_after e.tails_after),
    )

-- the heads stay while the tree is put right
same_heads : (m m' m'' : Merge) (keys tails : List ℕ) → m' ≡ record m { tree = m'.tree }
    → m'' ≡ record m' { tree = m''.tree } → m.keys ≡ keys → m.tails ≡ tails → (m''.keys ≡ keys) × (m''.tails ≡ tails)
same_heads m m' m'' keys tails e f k t = (
  ap (λ (x : Merge). x.keys) f ∙ ap (λ (x : Merge). x.keys) e ∙ k,
  ap (λ (x : Merge). x.tails) f ∙ ap (λ (x : Merge). x.tails) e ∙ t,
)

pub returns : goal.returns
returns c =
    let e = c.advance.ensures in
    let same =
    same_heads c.advance.new.self c.replay.new.self c.put_second.new.self _ _ c.replay.ensures.rest
    c.put_second.ensures.rest e.keys_after e.tails_after in
    taken-moved c.requires.underway.0 c.requires.underway.1 c.requires.some_left _ _ same.0 same.1 _
    c.put_second.ensures.won c.put_second.ensures.second
