use Rattle.std.proofs.Common.{arith, subst, sym, ◌+◌, ◌∙◌}
use Rattle.view.specs.HeldLaws.{find_at-none}
use Rattle.removal.specs.Cutting.{Sketches}
use Rattle.removal.specs.ShowLaws.{sketch-wider, like-found}
use Rattle.removal.specs.CutNoneLaws.{cut-none, freed-nothing}
use Rattle.removal.proofs.pages.cut_in.Goals as goal

pub find_in-requires : goal.find_in-requires
find_in-requires c = let f = c.requires.2 in (f.reads, f.made)

pub returns-in_err-found : goal.returns-in_err-found
returns-in_err-found c =
    λ n x f.
    let a = c.args in
    let found = c.find_in.ensures ∙ like-found f.like a.pair in
    let none = find_at-none x a.b a.pair (sym found ∙ c.in_err-found.was) in
    let g = f.sketches in (
      c.from_residual.ensures ∙ freed-nothing x f.like.laid a.b a.pair none,
      subst (Sketches _ _ _ (n + 3)) (sym (cut-none x f.like.laid a.b a.pair none))
          (record { d = g.d; ks = g.ks; sketch = sketch-wider g.sketch (n + 3) (omega arith); shows = g.shows }),
    )

pub cut_entry-requires : goal.cut_entry-requires
cut_entry-requires c =
    let f = c.requires.2 in (
      c.requires.0,
      c.args.b,
      c.args.pair,
      c.requires.1,
      record { findable = f; found = sym (c.in_ok-found.ensures ∙ like-found f.like c.args.pair) },
    )

pub returns : goal.returns
returns c =
    λ n x f.
    c.cut_entry.ensures n c.args.b c.args.pair x
    (record { findable = f; found = sym (c.in_ok-found.ensures ∙ like-found f.like c.args.pair) })
