-- The bits of a bitmap block that are 1, as the code counts them.
use Rattle.std.specs.Prelude.{List, ℕ, eqb}
use Rattle.lists.specs.Lists.{tally, up_from}
use Rattle.image.specs.Decode.{bit_of}

-- how many of the first `top` bits are 1
unfoldable pub ones_in : List ℕ → (top : ℕ) → ℕ
ones_in l top = tally (λ n. eqb (bit_of l n) 1) (up_from 0 top)
