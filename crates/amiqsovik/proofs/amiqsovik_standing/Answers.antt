use Rattle.std.proofs.Common.{refl, ap, ◌∙◌, length, lt-ltb, le-ltb}
use Rattle.model.specs.Answers.{StandingAnswer}
use Rattle.amiqsovik.specs.Words.{standing_word}
use Rattle.amiqsovik.specs.Result.{shown, standing_told}
use Rattle.amiqsovik.proofs.amiqsovik_standing.Goals as goal

pub returns-then-res-lt28 : goal.returns-then-res-lt28
unfolding standing_told
returns-then-res-lt28 c =
    rw (lt-ltb (length c.args.res.now) 28 c.if-res-lt28.true) (record { value = c.pack.ensures; res_after = refl })

pub returns : goal.returns
unfolding standing_told
returns c =
    rw (le-ltb (length c.args.res.now) 28 c.if-res-lt28.false) (record {
      value = c.standing_word.ensures ∙ ap standing_word c.standing-answer.ensures;
      res_after = c.show.ensures ∙ ap (λ (a : StandingAnswer). shown a c.args.res.now) c.standing-answer.ensures;
    })
