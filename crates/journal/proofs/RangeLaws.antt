-- Tests over the numbers of a range and searches of them, as the library words them and as specs/ does.
use Rattle.std.specs.Prelude.{◌≡◌, refl, Bool, true, false, cond, ◌&&◌, List, [], ◌∷◌, ℕ, zero, suc, ◌≤◌, ◌<◌}
use Rattle.std.specs.Prelude.{Option, None, Some, MatchOption}
use Rattle.std.specs.List.{list_all, range_with_len, find as list_find}
use Rattle.std.specs.Option.{option_map}
use Rattle.std.proofs.Common.{sym, ap, subst, ◌∙◌, arith, add-one}
use Rattle.std.proofs.Math.Option as maybe
use Rattle.lists.specs.Lists.{all, find, up_from}
use Rattle.lists.specs.RunLaws.{find-run}

-- the numbers of a range
range-run : (a n : ℕ) → range_with_len a n ≡ up_from a n
range-run a zero = refl
range-run a (suc n) = ap (λ (l : List ℕ). a ∷ l) (rw add-one (range-run (suc a) n))

list-all : (t : ℕ → Bool) (xs : List ℕ) → list_all t xs ≡ all t xs
list-all t [] = refl
list-all t (x ∷ xs) = ap (λ (b : Bool). t x && b) (list-all t xs)

pub all-run : (t : ℕ → Bool) (n : ℕ) (r : Bool) → r ≡ list_all t (range_with_len 0 n) → r ≡ all t (up_from 0 n)
all-run t n r e = e ∙ list-all t (range_with_len 0 n) ∙ ap (all t) (range-run 0 n)

-- what a search found
abbrev Finds : (t : ℕ → Bool) → List ℕ → Option ℕ → Type 0
Finds t xs o = MatchOption o (find t xs ≡ maybe.none) (λ y. find t xs ≡ maybe.some y)

list-find : (t : ℕ → Bool) (xs : List ℕ) → Finds t xs (list_find t xs)
list-find t [] = refl
list-find t (x ∷ xs) = go (t x) (list-find t xs)
  where
    rest : Bool → maybe.Option ℕ
    rest b = elim b [ true ↦ maybe.some x | false ↦ find t xs ]

    go : (b : Bool) → Finds t xs (list_find t xs)
        → MatchOption (cond b (Some x) (list_find t xs)) (rest b ≡ maybe.none) (λ y. rest b ≡ maybe.some y)
    go true ih = refl
    go false ih = ih

pub found : (t : ℕ → Bool) (n m : ℕ) (r : Option ℕ) → n ≤ m → option_map (λ x. x) r ≡ list_find t (range_with_len 0 n)
    → MatchOption r (find t (up_from 0 n) ≡ maybe.none) (λ y. (y < m) × (find t (up_from 0 n) ≡ maybe.some y))
found t n m r h e =
    cases r
    (subst (Finds t (up_from 0 n)) (sym e)
    (subst (λ (l : List ℕ). Finds t l (list_find t (range_with_len 0 n))) (range-run 0 n)
    (list-find t (range_with_len 0 n))))
  where
    cases : (r : Option ℕ) → Finds t (up_from 0 n) (option_map (λ x. x) r)
        → MatchOption r (find t (up_from 0 n) ≡ maybe.none) (λ y. (y < m) × (find t (up_from 0 n) ≡ maybe.some y))
    cases None f = f
    cases (Some y) f = (omega (arith, (find-run t 0 n y f).upto), f)
