-- The pages of a chain that a squeeze's step looks at.
use Rattle.std.specs.Prelude.{◌≡◌, ℕ, ◌≤◌}
use Rattle.model.specs.Index.{Index, chain}
use Rattle.model.specs.Steps.{next}
use Rattle.model.specs.Squeeze.{squeeze_step}
use Rattle.frame.specs.Frame.{page_block, room_place, last_place}
use Rattle.insertion.specs.Put.{last_block}
use Rattle.squeeze.specs.declared.Span.{Span}

-- from a page of bucket b's chain, before which none has room, to the last
pub record Spans (x : Index) (b : ℕ) (v : Span) : Type 0 where
  pub made : b ≤ x.max_bucket
  pub place : ℕ
  pub inside : place ≤ last_place (chain x b)
  pub passed : place ≤ room_place (chain x b)
  pub first : v.first ≡ page_block x b place
  pub last : v.last ≡ last_block x b

-- so of the index that a step leaves
abbrev pub Leads : Index → (b : ℕ) → Span → Type 0
Leads x b v = (y : Index) → squeeze_step b x ≡ next y → Spans y b v
