-- A planned change, worked out: its plan has the block stores of the change, and they make the store that it makes.
use Rattle.std.specs.Prelude.{◌≡◌, ℕ, ◌+◌, ◌*◌, ◌≤◌, ◌<◌, get_or}
use Rattle.std.proofs.Math.Path.{refl, sym, ap}
use Rattle.std.proofs.Common.{◌∙◌, take-append-drop, length-take-le, take_at, drop_at}
use mathlib.Core.List.{List, ◌++◌, append_assoc}
use native.Mathlib.Omega.{arith}
use Rattle.std.proofs.Math.ListN.{length, take, drop}
use Rattle.lists.specs.Block.{blocks}
use Rattle.store.specs.declared.Change.{Change}
use Rattle.store.specs.Store.{number_at}
use Rattle.store.specs.Change.{commits, seals}
use Rattle.store.specs.Finish.{finished_as, finished}
use Rattle.store.proofs.ChangeLaws.{length-seals, length-commits}
use Rattle.store.proofs.FinishLaws.{finished-none}
use Rattle.journal.specs.Journal.{Disk, disk, BlockStore, head, ending, wiped, run}
use Rattle.journal.specs.Altered.{altered, stores_to, written}
use Rattle.journal.specs.Planned.{plan_in, plan_to, plan_over, plan_count, plan_name, plan_stores}
use Rattle.journal.proofs.AlteredLaws.{altered-below, altered-same, stores_to-none, length-stores_to}
use Rattle.journal.proofs.LinkLaws.{altered-planned, plan_to-planned}
use Rattle.journal.proofs.PlannedLaws.{length-plan_to, count-plan_over, name-plan_over, plan_stores-to}
use Rattle.journal.proofs.WrittenLaws.{written-makes}
use Rattle.journal.proofs.CrashTheorem.{idle}
use Rattle.view.specs.ReadsLaws.{reads-laid, reads_sized, reads-size}
use Rattle.index.specs.Sound.{Sound}
use Rattle.index.specs.Written.{Alters}

module _ {s : List ℕ} {c : Change} {images : List ℕ} (r : Sound s) (a : Alters s c images)
    (full : length images ≡ 4096) (eight : length c.numbers ≡ 8) where
  abbrev number : ℕ
  number = number_at s

  abbrev n : ℕ
  n = c.count

  abbrev t : List ℕ
  t = finished s c images

  bodies : List ℕ
  bodies = seals (number_at s) c.numbers images c.count

  length-bodies : length bodies ≡ 4096
  unfolding bodies
  length-bodies = length-seals number c.numbers images n (omega (arith, a.fits.few)) ∙ full

  makes : commits s c.numbers bodies n ≡ t
  unfolding bodies finished finished_as
  makes = refl

  size : length s ≡ 512 * blocks s
  size = (reads_sized r).whole

  small : blocks s ≤ 4294967296
  small = omega (arith, reads-size r, (reads-laid r).size)

  length-made : length t ≡ 512 * blocks s
  length-made =
      sym (ap length makes) ∙ length-commits s c.numbers bodies n a.fits length-bodies ∙ size

  -- run whole, it makes the store that the plan makes
  pub makes-store : (j : List ℕ) → (written (disk s j) (finished s c images)).store ≡ finished s c images
  makes-store j = written-makes (disk s j) t (blocks s) size length-made

  -- ---- a change of some blocks

  module _ (some : 1 ≤ c.count) (plan : List ℕ)
      (laid : plan ≡ head (number_at s) c.numbers c.count
      ++ (ending (number_at s) c.numbers c.count
      ++ (wiped ++ seals (number_at s) c.numbers images c.count))) where
    front : plan_to number s t
        ≡ head number c.numbers n ++ (ending number c.numbers n ++ (wiped ++ take (512 * n) bodies))
    front =
        plan_to-planned s t c.numbers bodies (blocks s) n size a.fits length-bodies (omega (arith, a.fits.few))
        makes (λ j h. a.differ (get_or c.numbers j 0) (j, h, refl)) number some

    pub altered-count : n ≡ length (altered s (finished s c images))
    altered-count =
        sym (length-take-le n c.numbers (omega (arith, a.fits.few)))
        ∙ ap length
        (sym (altered-planned s t c.numbers bodies (blocks s) n size a.fits length-bodies
        (omega (arith, a.fits.few)) makes (λ j h. a.differ (get_or c.numbers j 0) (j, h, refl))))

    parts : plan ≡ plan_to number s t ++ drop (512 * n) bodies
    unfolding bodies
    parts =
        let h = head number c.numbers n in
        let e = ending number c.numbers n in
        laid
        ∙ ap (λ (x : List ℕ). h ++ (e ++ (wiped ++ x))) (sym (take-append-drop (512 * n) bodies))
        ∙ ap (λ (x : List ℕ). h ++ (e ++ x)) (sym (append_assoc wiped (take (512 * n) bodies) (drop (512 * n) bodies)))
        ∙ ap (λ (x : List ℕ). h ++ x)
        (sym (append_assoc e (wiped ++ take (512 * n) bodies) (drop (512 * n) bodies)))
        ∙ sym (append_assoc h (e ++ (wiped ++ take (512 * n) bodies)) (drop (512 * n) bodies))
        ∙ ap (λ (x : List ℕ). x ++ drop (512 * n) bodies) (sym front)

    over : plan_over (plan_to number s t) plan ≡ plan
    unfolding plan_over
    over =
        ap (λ (x : List ℕ). plan_to number s t ++ drop (length (plan_to number s t)) x) parts
        ∙ ap (λ (x : List ℕ). plan_to number s t ++ x)
        (drop_at (plan_to number s t) (drop (512 * n) bodies) (length (plan_to number s t)) refl)
        ∙ sym parts

    module _ (long : 5632 ≤ length plan) where
      some-altered : 1 ≤ length (altered s t)
      some-altered = omega (arith, altered-count)

      few-altered : length (altered s t) ≤ 8
      few-altered = omega (arith, altered-count, a.fits.few)

      pub plan-count : plan_count plan ≡ c.count
      plan-count =
          ap plan_count (sym over)
          ∙ count-plan_over number s t (blocks s) size length-made small some-altered few-altered plan long
          ∙ sym altered-count

      pub plan-inside : (i : ℕ) → i < plan_count plan → 512 * plan_name plan i + 512 ≤ length s
      plan-inside i h =
          let k : i < length (altered s t) = omega (arith, plan-count, altered-count) in
          let e = name-plan_over number s t (blocks s) size length-made small some-altered few-altered plan long i k in
          let f = ap (λ (p : List ℕ). plan_name p i) over in
          omega (arith, altered-below s t (blocks s) size length-made i k, size)

      stores-are : plan_stores plan ≡ stores_to number s t
      stores-are =
          ap plan_stores (sym over)
          ∙ plan_stores-to number s t (blocks s) size length-made small some-altered few-altered plan long

      -- its block stores write the change
      pub plan-writes : (j : List ℕ) (e : Disk) → run (plan_stores plan) (disk s j) ≡ e
          → written (disk s j) (finished s c images) ≡ e
      unfolding written
      plan-writes j e f = ap (λ (ps : List BlockStore). run ps (disk s j)) (sym stores-are) ∙ f

      -- a buffer that has its front is the plan's
      pub plan-lays : (m : ℕ) → m ≡ 1536 + 512 * c.count → (buffer b : List ℕ) → b ≡ take m plan ++ drop m buffer
          → b ≡ plan_over (plan_to (number_at s) s (finished s c images)) buffer
      unfolding plan_over
      plan-lays m q buffer b f =
          let l : m ≡ length (plan_to number s t) =
          omega (
            arith,
            length-plan_to number s t (blocks s) size length-made small some-altered few-altered plan long,
            altered-count,
          ) in
          f
          ∙ ap (λ (i : ℕ). take i plan ++ drop i buffer) l
          ∙ ap (λ (x : List ℕ). take (length (plan_to number s t)) x ++ drop (length (plan_to number s t)) buffer) parts
          ∙ ap (λ (x : List ℕ). x ++ drop (length (plan_to number s t)) buffer)
          (take_at (plan_to number s t) (drop (512 * n) bodies) (length (plan_to number s t)) refl)

      pub plan-total : 2 * c.count + 3 ≡ length (stores_to (number_at s) s (finished s c images))
      plan-total = omega (arith, altered-count, length-stores_to number s t some-altered)

-- ---- a change of no block

module _ (s : List ℕ) (c : Change) (images : List ℕ) (e : c.count ≡ 0) where
  same : finished s c images ≡ s
  same = finished-none s c images e

  none-altered : length (altered s (finished s c images)) ≡ 0
  none-altered = ap (λ (t : List ℕ). length (altered s t)) same ∙ ap length (altered-same s)

  pub none-writes : (j : List ℕ) → written (disk s j) (finished s c images) ≡ disk s j
  none-writes j = ap (written (disk s j)) same ∙ idle (disk s j)

  pub none-makes : s ≡ finished s c images
  none-makes = sym same

  pub none-lays : (buffer : List ℕ) → buffer ≡ plan_over (plan_to (number_at s) s (finished s c images)) buffer
  unfolding plan_over plan_to
  none-lays buffer =
      ap (λ (n : ℕ). plan_in n (number_at s) s (finished s c images)
      ++ drop (length (plan_in n (number_at s) s (finished s c images))) buffer) (sym none-altered)

  pub none-total : 0 ≡ length (stores_to (number_at s) s (finished s c images))
  none-total = sym (ap length (stores_to-none (number_at s) s (finished s c images) none-altered))
