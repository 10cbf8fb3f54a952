-- Elements moved up by one, the last first, and one put into the gap.
use mathlib.Core.Path.{◌≡◌, refl, sym, ap, ◌∙◌}
use mathlib.Core.Logic.{◌≢◌}
use Prim.Native.Nat.{ℕ, ◌+◌, ◌-◌, ◌≤◌, ◌<◌}
use native.Mathlib.Decide.{ℕ_discrete}
use native.Mathlib.Omega.{arith}
use Rattle.draft.specs.Open.{Shifted, Inserted}

module _ {A : Type 0} (n : ℕ) (f : ℕ → A) where
  pub shift-start : Shifted n n f f
  shift-start = record { before = λ j h. refl; after = λ j h l. absurd (omega arith) }

  -- element i - 1 is copied to place i
  pub shift-step : (i : ℕ) (g h : ℕ → A) → 0 < i → i ≤ n → Shifted i n f g → h i ≡ g (i - 1)
      → ((j : ℕ) → j ≤ n → j ≢ i → h j ≡ g j) → Shifted (i - 1) n f h
  shift-step i g h pos le s at rest =
      record {
        before = λ j l. rest j (omega arith) (λ e. omega arith) ∙ s.before j (omega arith);
        after = λ j l u. go j l u (ℕ_discrete j (i - 1));
      }
    where
      go : (j : ℕ) → i - 1 ≤ j → j < n → Dec (j ≡ i - 1) → h (j + 1) ≡ f j
      go j l u (yes e) =
          let q : j + 1 ≡ i = omega arith in
          ap h q ∙ at ∙ ap g (sym e) ∙ s.before j (omega arith)
      go j l u (no ne) = rest (j + 1) (omega arith) (λ e. ne (omega arith)) ∙ s.after j (omega arith) u

  pub shift-insert : (at : ℕ) (x : A) (g h : ℕ → A) → at ≤ n → Shifted at n f g → h at ≡ x
      → ((j : ℕ) → j ≤ n → j ≢ at → h j ≡ g j) → Inserted at n x f h
  shift-insert at x g h le s here rest =
      record {
        before = λ j l. rest j (omega arith) (λ e. omega arith) ∙ s.before j (omega arith);
        here = here;
        after = λ j l u. rest (j + 1) (omega arith) (λ e. omega arith) ∙ s.after j l u;
      }
