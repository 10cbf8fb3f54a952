-- Cuts of lists of block stores, part by part.
use Rattle.std.specs.Prelude.{◌≡◌, List, [], ◌∷◌, ◌++◌, ℕ, suc, ◌+◌, ◌<◌, length}
use Rattle.std.proofs.Common.{arith}
use Rattle.lists.specs.Lists.{Each}
use Rattle.journal.specs.Journal.{Disk, BlockStore, bytes_of, write, do_store, run}
use Rattle.journal.specs.Cut.{Cut, between, inside, later}

-- P outlives the block store p, whatever is written
pub record Keeps (P : Disk → Type 0) (p : BlockStore) : Type 0 where
  pub whole : length (bytes_of p) ≡ 512
  pub kept : (g : List ℕ) → length g ≡ 512 → (d : Disk) → P d → P (write p g d)

pub cut_keeps : (P : Disk → Type 0) (ps : List BlockStore) → Each (Keeps P) ps → {d e : Disk} {n : ℕ} → P d
    → Cut d ps n e → P e
cut_keeps P [] h q between = q
cut_keeps P (p ∷ ps) h q between = q
cut_keeps P (p ∷ ps) h {d} q (inside {g = g} t) = h.0.kept g t.whole d q
cut_keeps P (p ∷ ps) h {d} q (later c) = cut_keeps P ps h.1 (h.0.kept (bytes_of p) h.0.whole d q) c

-- A cut in a list of two parts: within the first, before its last store is done, or in the second.
pub data Either (d : Disk) (ps qs : List BlockStore) (n : ℕ) (e : Disk) : Type 0 where
  first : n < length ps → Cut d ps n e → Either d ps qs n e
  second : (m : ℕ) → n ≡ length ps + m → Cut (run ps d) qs m e → Either d ps qs n e

shift : {p : BlockStore} {ps qs : List BlockStore} {d e : Disk} {n : ℕ} → Either (do_store p d) ps qs n e
    → Either d (p ∷ ps) qs (suc n) e
shift (first h c) = first (omega arith) (later c)
shift (second m h c) = second m (omega arith) c

pub cut-append : (ps qs : List BlockStore) {d e : Disk} {n : ℕ} → Cut d (ps ++ qs) n e → Either d ps qs n e
cut-append [] qs {n = n} c = second n (omega arith) c
cut-append (p ∷ ps) qs between = first (omega arith) between
cut-append (p ∷ ps) qs (inside t) = first (omega arith) (inside t)
cut-append (p ∷ ps) qs (later c) = shift (cut-append ps qs c)

pub run-keeps : (P : Disk → Type 0) (ps : List BlockStore) → Each (Keeps P) ps → (d : Disk) → P d → P (run ps d)
run-keeps P [] h d q = q
run-keeps P (p ∷ ps) h d q = run-keeps P ps h.1 (do_store p d) (h.0.kept (bytes_of p) h.0.whole d q)
