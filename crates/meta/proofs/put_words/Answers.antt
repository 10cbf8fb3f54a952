use Rattle.std.proofs.Common.{List, ap, arith, drop, sym, ℕ, ◌*◌, ◌+◌, ◌∙◌}
use lib.Seq.{sets}
use Rattle.lists.specs.Lists.{bind}
use Rattle.endian.specs.Endian.{le32}
use Rattle.meta.proofs.Words.{words-turn}
use Rattle.meta.proofs.put_words.Goals as goal

pub loop-i-preserved : goal.loop-i-preserved
loop-i-preserved c =
    let p = c.put_u32 in
    let l = c.loop-i in
    let a = c.args in (
      p.auto.s ∙ l.invariant.0,
      l.invariant.1 ∙ words-turn l.part a.words.now a.at l.i (omega arith)
          ∙ ap (λ (x : List ℕ). sets x (a.at + 4 * (l.i + 1)) (bind (drop (l.i + 1) a.words.now) le32)) (sym p.ensures),
    )
