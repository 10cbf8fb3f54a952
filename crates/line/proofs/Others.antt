-- A line with another number of numbers is no call.
use Rattle.std.specs.Prelude.{◌≡◌, refl, None, [], ◌∷◌, ℕ}
use denote.Enum.Declared.{tag_of}
use types.Run.{OneOf, miss}
use Rattle.line.specs.contracts.Fields.{the_type}
use Rattle.line.specs.declared.Fields.{Fields}
use Rattle.line.specs.declared.Command.{Command}
use Rattle.line.specs.Command.{with_one, with_three, with_four}

pub not-one : (make : ℕ → Command) (f : Fields) → OneOf (0 ∷ 2 ∷ 3 ∷ 4 ∷ []) (tag_of the_type f)
    → None ≡ with_one make f
not-one make Fields.None h = refl
not-one make (Fields.One a) h = absurd (miss (0 ∷ 2 ∷ 3 ∷ 4 ∷ []) 1 tt h)
not-one make (Fields.Two a b) h = refl
not-one make (Fields.Three a b c) h = refl
not-one make (Fields.Four a b c d) h = refl

pub not_three : (make : ℕ → ℕ → ℕ → Command) (f : Fields) → OneOf (0 ∷ 1 ∷ 2 ∷ 4 ∷ []) (tag_of the_type f)
    → None ≡ with_three make f
not_three make Fields.None h = refl
not_three make (Fields.One a) h = refl
not_three make (Fields.Two a b) h = refl
not_three make (Fields.Three a b c) h = absurd (miss (0 ∷ 1 ∷ 2 ∷ 4 ∷ []) 3 tt h)
not_three make (Fields.Four a b c d) h = refl

pub not-four : (make : ℕ → ℕ → ℕ → ℕ → Command) (f : Fields) → OneOf (0 ∷ 1 ∷ 2 ∷ 3 ∷ []) (tag_of the_type f)
    → None ≡ with_four make f
not-four make Fields.None h = refl
not-four make (Fields.One a) h = refl
not-four make (Fields.Two a b) h = refl
not-four make (Fields.Three a b c) h = refl
not-four make (Fields.Four a b c d) h = absurd (miss (0 ∷ 1 ∷ 2 ∷ 3 ∷ []) 4 tt h)
