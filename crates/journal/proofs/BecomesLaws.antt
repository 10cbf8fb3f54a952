-- A store that is to become another, and a cut of that change.
use Rattle.std.specs.Prelude.{◌≡◌, refl, ◌⊎◌, List, [], ℕ, zero, suc, ◌+◌, ◌≤◌, length, get_or}
use Rattle.std.proofs.Common.{sym, ap, ◌∙◌, subst, inl, inr, ⊎_elim, arith}
use Rattle.store.specs.Store.{checks, number_at}
use Rattle.store.specs.Change.{commits}
use Rattle.journal.specs.Journal.{Disk, BlockStore, run, stores, recover}
use Rattle.journal.specs.Altered.{altered, images_of, change_stores, written}
use Rattle.journal.specs.Cut.{Cut, between, Whole, Ready, Becomes}
use Rattle.journal.proofs.RecoverLaws.{recover-store}
use Rattle.journal.proofs.StageLaws.{Changes}
use Rattle.journal.proofs.CrashLaws.{cut-either, cut-late}
use Rattle.journal.proofs.WholeLaws.{cut-whole, run_store_lem, run-ready}
use Rattle.journal.proofs.AlteredLaws.{
  altered-below,
  altered-ascending,
  length-images_of,
  block-images_of,
  commits-to,
  altered-none,
  stores_to-none,
  stores_to-some,
}

-- what a cut when k block stores are done leaves
pub record Leaves (d : Disk) (m : ℕ) (t : List ℕ) (k : ℕ) (e : Disk) : Type 0 where
  pub either : ((recover e).store ≡ d.store) ⊎ ((recover e).store ≡ t)
  pub late : length (altered d.store t) + 2 ≤ k → (recover e).store ≡ t
  pub whole : Whole m e

module _ {d : Disk} {m : ℕ} {t : List ℕ} (r : Ready d) (c : Becomes d m t) where
  abbrev s : List ℕ
  s = d.store

  abbrev number : ℕ
  number = number_at d.store

  abbrev n : ℕ
  n = length (altered d.store t)

  abbrev some : List BlockStore
  some = stores number (altered s t) (images_of s t) n

  changes : 1 ≤ n → Changes d m number (altered s t) (images_of s t) n
  changes h =
      let ls = c.size in
      let lt = c.same in
      record {
        size = ls;
        some = h;
        few = c.few;
        inside = λ j l. omega (arith, altered-below s t m ls lt j l);
        ascending = altered-ascending s t m ls lt;
        listed = omega arith;
        named = λ j l. omega (arith, altered-below s t m ls lt j l, c.small);
        numbered = c.numbered;
        full = omega (arith, length-images_of s t m ls lt);
        good = λ j l.
            ap (checks number (get_or (altered s t) j 0)) (block-images_of s t m ls lt j l)
            ∙ c.good (get_or (altered s t) j 0) (altered-below s t m ls lt j l);
      }

  made : commits s (altered s t) (images_of s t) n ≡ t
  made = commits-to s t m c.size c.same

  -- it alters nothing, or something
  cases : (P : List BlockStore → Type 0) → (n ≡ 0 → P []) → (1 ≤ n → P some) → P (change_stores d t)
  cases P none any = go n refl
    where
      go : (x : ℕ) → n ≡ x → P (change_stores d t)
      go zero e = subst P (sym (stores_to-none number s t e)) (none e)
      go (suc x) e = subst P (sym (stores_to-some number s t (omega arith))) (any (omega arith))

  pub leaves : {k : ℕ} {e : Disk} → Cut d (change_stores d t) k e → Leaves d m t k e
  leaves {k} {e} = cases (λ ps. Cut d ps k e → Leaves d m t k e) (λ z q. none q) (λ h q. any h q)
    where
      none : {k : ℕ} {e : Disk} → Cut d [] k e → Leaves d m t k e
      none between =
          record {
            either = inl (recover-store d r.clean);
            late = λ l. absurd (omega arith);
            whole = record { store = c.size; journal = r.sixteen };
          }

      any : 1 ≤ n → Cut d some k e → Leaves d m t k e
      any h q =
          record {
            either = ⊎_elim (λ p. inl p) (λ p. inr (p ∙ made)) (cut-either r (changes h) q);
            late = λ l. cut-late r (changes h) q l ∙ made;
            whole = cut-whole r (changes h) q;
          }

  -- run whole, the store is t, and the journal ready for the next change
  pub written-store : (written d t).store ≡ t
  unfolding written
  written-store =
      cases (λ ps. (run ps d).store ≡ t) (altered-none s t m c.size c.same) (λ h. run_store_lem r (changes h) ∙ made)

  pub written-ready : Ready (written d t)
  unfolding written
  written-ready = cases (λ ps. Ready (run ps d)) (λ z. r) (λ h. run-ready r (changes h))
