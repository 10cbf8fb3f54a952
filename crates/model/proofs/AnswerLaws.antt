-- What an answer of work says: one answer has one number of steps and one stop.
use Rattle.std.specs.Prelude.{◌≡◌, Ok}
use Rattle.std.proofs.Common.{ap}
use Rattle.model.specs.declared.Work.{Work}
use Rattle.model.specs.Answers.{WorkAnswer}

pub worked-same : {v w : Work} {a : WorkAnswer} → a ≡ Ok v → a ≡ Ok w → (v.steps ≡ w.steps) × (v.stop ≡ w.stop)
worked-same {v} {w} e f =
    let same : v ≡ w = cc in
    (ap (λ (x : Work). x.steps) same, ap (λ (x : Work). x.stop) same)
