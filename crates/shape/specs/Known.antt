-- What the test of a rule may take for granted beyond rule 2: the rules before it.
use Rattle.std.specs.Prelude.{◌≡◌, true, List, ℕ}
use Rattle.image.specs.declared.Meta.{Meta}
use Rattle.image.specs.Rules.{rule3, rule4, rule5}
use Rattle.reader.specs.Known.{Known2}

pub record Known3 (s : List ℕ) (m : Meta) : Type 0 where
  pub known : Known2 s m
  pub holds : rule3 s ≡ true

pub record Known4 (s : List ℕ) (m : Meta) : Type 0 where
  pub known : Known3 s m
  pub holds : rule4 s ≡ true

pub record Known5 (s : List ℕ) (m : Meta) : Type 0 where
  pub known : Known4 s m
  pub holds : rule5 s ≡ true
