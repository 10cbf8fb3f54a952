-- Lists of bytes.
use Rattle.std.specs.Prelude.{Bool, List, ℕ, ◌-◌, ◌<◌, eqb, get_or, take, drop}
use Rattle.lists.specs.Lists.{all}

-- every element is a byte
abbrev pub Bytes : List ℕ → Type 0
Bytes l = (i : ℕ) → get_or l i 0 < 256

-- the bytes from a up to e, e not included
unfoldable pub part : ℕ → ℕ → List ℕ → List ℕ
part a e l = take (e - a) (drop a l)

-- every element is 0
unfoldable pub all_zero : List ℕ → Bool
all_zero l = all (λ x. eqb x 0) l
