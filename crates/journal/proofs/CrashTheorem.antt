-- THE CRASH THEOREM. docs/RULES.md 11.6: "Cut after any block store, and allow the block being written to hold anything
-- whose check fails: after recovery the store is the one before the change or the one after it, and the one after from
-- the end block on. Recovering twice changes nothing more."
use Rattle.std.specs.Prelude.{◌≡◌, ◌⊎◌, List, [], ℕ, ◌+◌, ◌*◌, ◌≤◌, ◌<◌, length}
use Rattle.std.proofs.Common.{sym, ap, ◌∙◌, subst, inl, inr, ⊎_elim}
use Rattle.lists.specs.Block.{block}
use Rattle.store.specs.Store.{number_at}
use Rattle.journal.specs.Journal.{Disk, recover, look}
use Rattle.journal.specs.Altered.{altered, change_stores, written}
use Rattle.journal.specs.Cut.{Cut, Tries, Whole, Ready, Becomes}
use Rattle.journal.proofs.RecoverLaws.{recover-ready, recover-twice, mends}
use Rattle.journal.proofs.LookLaws.{look-recovers}
use Rattle.journal.proofs.AlteredLaws.{stores_to-none, length-stores_to, written_same}
use Rattle.journal.proofs.BecomesLaws.{leaves, written-store, written-ready}

-- A change of d's store to t, beside a journal with wiped head, is cut when k of its block stores are done. Then its
-- recovery may be cut too, any number of times; g is what the last recovery leaves.
pub record Recovers (d : Disk) (t : List ℕ) (k : ℕ) (g : Disk) : Type 0 where
  pub either : (g.store ≡ d.store) ⊎ (g.store ≡ t)
  -- with n blocks altered the images are stores 1 to n, the head is store n + 1 and the end n + 2
  pub late : length (altered d.store t) + 2 ≤ k → g.store ≡ t
  pub ready : Ready g
  pub twice : recover g ≡ g

pub crash : {d e f : Disk} {m k : ℕ} {t : List ℕ} → Ready d → Becomes d m t → Cut d (change_stores d t) k e → Tries e f
    → Recovers d t k (recover f)
crash {e = e} r c q tries =
    let l = leaves r c q in
    let same = mends l.whole tries in
    let store = ap (λ (x : Disk). x.store) same in
    record {
      either = ⊎_elim (λ p. inl (store ∙ p)) (λ p. inr (store ∙ p)) l.either;
      late = λ h. store ∙ l.late h;
      ready = subst Ready (sym same) (recover-ready e l.whole.journal);
      twice = ap recover same ∙ recover-twice e l.whole.journal ∙ sym same;
    }

-- a change that isn't cut
pub whole : {d : Disk} {m : ℕ} {t : List ℕ} → Ready d → Becomes d m t
    → ((written d t).store ≡ t) × Ready (written d t)
whole r c = (written-store r c, written-ready r c)

-- "a cut inside it is mended by recovering again", whatever store and journal hold
pub mended : {d f : Disk} {m : ℕ} → Whole m d → Tries d f → recover f ≡ recover d
mended w tries = mends w tries

-- "a block is handed out as it will stand"
pub looked : {d : Disk} {m : ℕ} → Whole m d → (k : ℕ) → k < m → look d k ≡ block (recover d).store k
looked w k h = look-recovers w k h

-- the number of block stores
pub count : (d : Disk) (t : List ℕ) → 1 ≤ length (altered d.store t)
    → length (change_stores d t) ≡ 2 * length (altered d.store t) + 3
count d t h = length-stores_to (number_at d.store) d.store t h

-- a change that alters nothing has none
pub none : (d : Disk) (t : List ℕ) → length (altered d.store t) ≡ 0 → change_stores d t ≡ []
none d t e = stores_to-none (number_at d.store) d.store t e

pub idle : (d : Disk) → written d d.store ≡ d
idle d = written_same d
