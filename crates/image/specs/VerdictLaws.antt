-- The verdict is sound exactly if every check is right and every rule holds, and then it gives the index that the
-- store is read as.
use Rattle.std.specs.Prelude.{◌≡◌, refl, true, not, List, ℕ, ◌-◌, ◌≤◌, ◌<◌, get_or}
use Rattle.std.proofs.Common.{ap, ap₂, arith}
use Rattle.std.proofs.Math.Option.{Option, none, some}
use Rattle.lists.specs.RunLaws.{find-nowhere}
use Rattle.lists.specs.Block.{blocks}
use Rattle.store.specs.Store.{checked}
use Rattle.model.specs.Index.{Index}
use Rattle.image.specs.Decode.{decode}
use Rattle.image.specs.Rules.{
  rule1,
  rule2,
  rule3,
  rule4,
  rule5,
  rule6,
  rule7,
  rule8,
  rules,
  sound,
  lowest_damaged,
  lowest_broken,
  judge,
  verdict,
}
use Rattle.lists.specs.TestLaws.{find_none}

-- every check is right and every rule holds
pub record Passes (s : List ℕ) : Type 0 where
  pub checks : (k : ℕ) → k < blocks s → checked s k ≡ true
  pub one : rule1 s ≡ true
  pub two : rule2 s ≡ true
  pub three : rule3 s ≡ true
  pub four : rule4 s ≡ true
  pub five : rule5 s ≡ true
  pub six : rule6 s ≡ true
  pub seven : rule7 s ≡ true
  pub eight : rule8 s ≡ true

pub record SoundAs (s : List ℕ) (x : Index) : Type 0 where
  pub passes : Passes s
  pub read : x ≡ decode s

found_none : (s : List ℕ) → lowest_damaged s ≡ none → lowest_broken s ≡ none → Passes s
unfolding lowest_damaged lowest_broken rules
found_none s d b =
    let r : (k : ℕ) → 1 ≤ k → k < 9 → get_or (rules s) (k - 1) true ≡ true =
    find_none (λ k. get_or (rules s) (k - 1) true) 1 8 b in
    record {
      checks = λ k l. find_none (checked s) 0 (blocks s) d k (omega arith) (omega arith);
      one = r 1 (omega arith) (omega arith);
      two = r 2 (omega arith) (omega arith);
      three = r 3 (omega arith) (omega arith);
      four = r 4 (omega arith) (omega arith);
      five = r 5 (omega arith) (omega arith);
      six = r 6 (omega arith) (omega arith);
      seven = r 7 (omega arith) (omega arith);
      eight = r 8 (omega arith) (omega arith);
    }

pub verdict-passes : (s : List ℕ) (x : Index) → verdict s ≡ sound x → SoundAs s x
unfolding verdict
verdict-passes s x h = go (lowest_damaged s) refl (lowest_broken s) refl h
  where
    go : (d : Option ℕ) → lowest_damaged s ≡ d → (b : Option ℕ) → lowest_broken s ≡ b → judge d b (decode s) ≡ sound x
        → SoundAs s x
    go (some k) p b q h = let z : ◌≡◌ {A = ℕ} 0 1 = cc in absurd (omega arith)
    go none p (some r) q h = let z : ◌≡◌ {A = ℕ} 0 1 = cc in absurd (omega arith)
    go none p none q h = record { passes = found_none s p q; read = cc }

pub passes-verdict : (s : List ℕ) → Passes s → verdict s ≡ sound (decode s)
unfolding verdict lowest_damaged lowest_broken rules
passes-verdict s p = ap₂ (λ (d b : Option ℕ). judge d b (decode s)) undamaged unbroken
  where
    undamaged : lowest_damaged s ≡ none
    undamaged = find-nowhere (λ k. not (checked s k)) 0 (blocks s) (λ k a h. ap not (p.checks k (omega arith)))

    unbroken : lowest_broken s ≡ none
    unbroken = rw (p.one, p.two, p.three, p.four, p.five, p.six, p.seven, p.eight)
