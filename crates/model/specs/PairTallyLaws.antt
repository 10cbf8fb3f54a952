-- Entries tallied by a test on their pairs: those of one pair, and the others.
use Rattle.std.specs.Prelude.{◌≡◌, refl, Bool, true, false, not, ◌&&◌, List, ◌+◌}
use Rattle.std.proofs.Common.{sym, ap, ◌∙◌, arith}
use Rattle.lists.specs.Lists.{tally}
use Rattle.lists.specs.ListsLaws.{and_left, tally-cong, tally-le}
use Rattle.page.specs.declared.Pair.{Pair}
use Rattle.page.specs.declared.Entry.{Entry}
use Rattle.page.specs.Pair.{same, is}
use Rattle.page.specs.PairLaws.{same-eq}
use Rattle.model.specs.TallyLaws.{tally-parts}

module _ (g : Pair → Bool) (q : Pair) (es : List Entry) where
  -- a pair that passes the test counts as often as it stands
  pub tally-with : g q ≡ true
      → tally (λ e. g e.pair) es ≡ tally (is q) es + tally (λ e. not (is q e) && g e.pair) es
  tally-with z =
      omega (
        arith,
        tally-parts (is q) (λ e. g e.pair) es,
        tally-cong _ (is q) es (λ e. go e (is q e) refl),
      )
    where
      go : (e : Entry) (b : Bool) → is q e ≡ b → b && g e.pair ≡ b
      go e true k = ap g (sym (same-eq q e.pair k)) ∙ z
      go e false k = refl

  -- one that fails it does not count
  pub tally-others : g q ≡ false → tally (λ e. not (is q e) && g e.pair) es ≡ tally (λ e. g e.pair) es
  tally-others z = tally-cong _ _ es (λ e. go e (is q e) refl)
    where
      go : (e : Entry) (b : Bool) → is q e ≡ b → not b && g e.pair ≡ g e.pair
      go e true k = sym z ∙ ap g (same-eq q e.pair k)
      go e false k = refl

-- two tests that agree on every pair but one
module _ (g h : Pair → Bool) (q : Pair) (es : List Entry) (agree : (p : Pair) → same q p ≡ false → g p ≡ h p) where
  pub others-agree : tally (λ e. not (is q e) && g e.pair) es ≡ tally (λ e. not (is q e) && h e.pair) es
  others-agree = tally-cong _ _ es (λ e. go e (is q e) refl)
    where
      go : (e : Entry) (b : Bool) → is q e ≡ b → not b && g e.pair ≡ not b && h e.pair
      go e true k = refl
      go e false k = agree e.pair k

  -- which does not stand there
  pub all-agree : tally (is q) es ≡ 0 → tally (λ e. g e.pair) es ≡ tally (λ e. h e.pair) es
  all-agree z =
      omega (
        arith,
        tally-parts (is q) (λ e. g e.pair) es,
        tally-parts (is q) (λ e. h e.pair) es,
        tally-le (λ e. is q e && g e.pair) (is q) es (λ e. and_left (is q e) _),
        tally-le (λ e. is q e && h e.pair) (is q) es (λ e. and_left (is q e) _),
        others-agree,
      )
