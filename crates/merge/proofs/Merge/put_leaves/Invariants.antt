use Rattle.std.proofs.Common.{◌≡◌, ℕ, ◌+◌, ◌*◌, ◌<◌, length, get_or}
use Rattle.merge.specs.Tree.{max_pages}
use Rattle.merge.proofs.Merge.put_leaves.Given as goal

abbrev pub invariant-loop-i : goal.invariant-loop-i
invariant-loop-i l =
    (l.self ≡ record l.fn.self { tree = l.self.tree }) × (length l.self.tree ≡ 2 * max_pages)
    × ((j : ℕ) → j < l.i → get_or l.self.tree (l.n + j) 0 ≡ j)
