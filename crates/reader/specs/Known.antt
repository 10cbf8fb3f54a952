-- What readers take for granted: a store of legal length that keeps rule 2, and the fields m of its meta block.
use Rattle.std.specs.Prelude.{◌≡◌, true, List, ℕ}
use Rattle.image.specs.declared.Meta.{Meta}
use Rattle.image.specs.Decode.{meta_at}
use Rattle.image.specs.Rules.{rule2, length_ok}

pub record Known2 (s : List ℕ) (m : Meta) : Type 0 where
  pub whole : length_ok s ≡ true
  pub meta : m ≡ meta_at s
  pub holds : rule2 s ≡ true
