-- Tests that go on as a loop goes: each turn takes one number off a run.
use Rattle.std.specs.Prelude.{◌≡◌, Bool, true, false, ◌&&◌, ◌∷◌, ℕ, suc, ◌+◌, ◌-◌, ◌≤◌, ◌<◌}
use Rattle.std.proofs.Common.{sym, ap, ◌∙◌, add-one, arith}
use Rattle.lists.specs.Lists.{all, up_from}

-- the numbers from i up to n
pub run-turn : (i n : ℕ) → i < n → up_from i (n - i) ≡ i ∷ up_from (i + 1) (n - (i + 1))
run-turn i n h =
    let m : n - i ≡ suc (n - (i + 1)) = omega arith in
    ap (up_from i) m ∙ ap (λ (j : ℕ). i ∷ up_from j (n - (i + 1))) (sym (add-one i))

module _ (t : ℕ → Bool) (i n : ℕ) where
  pub all_yes : i < n → t i ≡ true → all t (up_from i (n - i)) ≡ all t (up_from (i + 1) (n - (i + 1)))
  all_yes h e = ap (all t) (run-turn i n h) ∙ ap (λ (b : Bool). b && all t (up_from (i + 1) (n - (i + 1)))) e

  pub all-no : i < n → t i ≡ false → all t (up_from i (n - i)) ≡ false
  all-no h e = ap (all t) (run-turn i n h) ∙ ap (λ (b : Bool). b && all t (up_from (i + 1) (n - (i + 1)))) e

  pub all_end : n ≤ i → all t (up_from i (n - i)) ≡ true
  all_end h = let z : n - i ≡ 0 = omega arith in ap (λ (k : ℕ). all t (up_from i k)) z
