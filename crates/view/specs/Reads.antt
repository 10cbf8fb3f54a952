-- A store that is read as an index: the bytes of a well-formed index, with the fields of their meta block.
use Rattle.std.specs.Prelude.{◌≡◌, List, ℕ}
use Rattle.model.specs.WellFormed.{WF}
use Rattle.image.specs.declared.Meta.{Meta}
use Rattle.image.specs.Layout.{encode}
use Rattle.image.specs.Decode.{meta_at, decode}

pub record Reads (s : List ℕ) (m : Meta) : Type 0 where
  pub wf : WF (decode s)
  pub bytes : s ≡ encode (decode s)
  pub meta : m ≡ meta_at s
