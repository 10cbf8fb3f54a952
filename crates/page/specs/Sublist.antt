-- A list with elements left out.
use Rattle.std.specs.Prelude.{List, [], ◌∷◌}

pub data Sublist {A : Type 0} : List A → List A → Type 0 where
  ends : Sublist [] []
  leaves : {y : A} {xs ys : List A} → Sublist xs ys → Sublist xs (y ∷ ys)
  keeps : {x : A} {xs ys : List A} → Sublist xs ys → Sublist (x ∷ xs) (x ∷ ys)
