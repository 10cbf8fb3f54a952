-- What holds in the loop that runs a batch.
use Rattle.std.specs.Prelude.{◌≡◌, refl, List, length}
use Rattle.std.proofs.Math.Path.{sym}
use Rattle.std.proofs.Common.{ap, ◌∙◌, add-one}
use Prim.Native.Nat.{ℕ, suc, ◌+◌, ◌-◌, ◌≤◌, ◌<◌}
use native.Mathlib.Omega.{arith}
use Rattle.std.proofs.Math.ListN.{set, length-set}
use Rattle.journal.specs.Journal.{Disk}
use Rattle.batch.specs.Batch.{call_at, lent_at, Batched, Kept, ran_at, runs}

-- after i of n calls: what is left to run leaves what was asked, and no slice has another length
pub record Running (ws : List ℕ) (n : ℕ) (k₀ k : Kept) (i : ℕ) : Type 0 where
  pub within : i ≤ n
  pub rest : runs ws (n - i) i k ≡ runs ws n 0 k₀
  pub store : length k.disk.store ≡ length k₀.disk.store
  pub journal : length k.disk.journal ≡ length k₀.disk.journal
  pub output : length k.output ≡ length k₀.output
  pub words : length k.words ≡ length k₀.words

pub running_none : (ws : List ℕ) (n : ℕ) (k : Kept) → Running ws n k k 0
running_none ws n k =
    let z : n - 0 ≡ n = omega arith in
    record {
      within = omega arith;
      rest = ap (λ (j : ℕ). runs ws j 0 k) z;
      store = refl;
      journal = refl;
      output = refl;
      words = refl;
    }

module _ {ws : List ℕ} {n : ℕ} {k₀ k : Kept} {i : ℕ} (g : Running ws n k₀ k i) where
  pub running-next : i < n → {w : ℕ} {d : Disk} {out : List ℕ}
      → Batched (call_at ws i k.output) (lent_at ws i) k.disk k.output w d out
      → length d.store ≡ length k.disk.store → length d.journal ≡ length k.disk.journal
      → length out ≡ length k.output
      → Running ws n k₀ (record { disk = d; output = out; words = set k.words i w }) (i + 1)
  unfolding ran_at
  running-next h {w} {d} {out} r ls lj lo =
      let m : n - i ≡ suc (n - (i + 1)) = omega arith in
      let e : record { disk = d; output = out; words = set k.words i w } ≡ ran_at ws i k =
      (λ j. record { disk = r.disk j; output = r.output j; words = set k.words i (r.word j) }) in
      record {
        within = omega arith;
        rest =
            (λ j. runs ws (n - (i + 1)) (add-one i j) (e j)) ∙ sym (ap (λ (j : ℕ). runs ws j i k) m) ∙ g.rest;
        store = ls ∙ g.store;
        journal = lj ∙ g.journal;
        output = lo ∙ g.output;
        words = length-set k.words i w ∙ g.words;
      }

  pub running-end : n ≤ i → k ≡ runs ws n 0 k₀
  running-end h = let z : n - i ≡ 0 = omega arith in sym (ap (λ (j : ℕ). runs ws j i k) z) ∙ g.rest
