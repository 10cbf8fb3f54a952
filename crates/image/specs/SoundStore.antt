-- What the theorems say of stores: the bytes of a well-formed index; a sound store, as long as another.
use Rattle.std.specs.Prelude.{◌≡◌, true, List, ℕ, length}
use Rattle.lists.specs.Bytes.{Bytes}
use Rattle.model.specs.Index.{Index}
use Rattle.model.specs.WellFormed.{WF}
use Rattle.image.specs.Layout.{encode}
use Rattle.image.specs.Rules.{sound, verdict, length_ok}

-- s is the bytes of the well-formed index x
abbrev pub Encodes : List ℕ → Index → Type 0
Encodes s x = WF x × (s ≡ encode x)

-- t is a sound store, as long as s
pub record StaysSound (s t : List ℕ) : Type 0 where
  pub index : Index
  pub sounds : verdict t ≡ sound index
  pub legal : length_ok t ≡ true
  pub bytes : Bytes t
  pub same : length t ≡ length s
