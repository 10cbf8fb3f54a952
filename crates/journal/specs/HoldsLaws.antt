-- The tests of `holds`, one after the other, and a look.
use Rattle.std.specs.Prelude.{◌≡◌, Bool, true, false, ◌&&◌, List, eqb}
use Rattle.std.proofs.Math.Path.{refl, sym}
use Rattle.std.proofs.Common.{ap, ◌∙◌, arith, le-leb}
use Rattle.std.proofs.Math.Option.{Option, none}
use Prim.Native.Nat.{ℕ, ◌≤◌, ◌<◌}
use Rattle.std.proofs.lemmas.Bool.{lt-leb}
use Rattle.std.proofs.Math.Dec.{leb}
use Rattle.lists.specs.Lists.{find, up_from}
use Rattle.lists.specs.ListsLaws.{and_both}
use Rattle.store.specs.Store.{checks}
use Rattle.journal.specs.Journal.{Disk, head_of, end_of, number_in, count_in, name_in}
use Rattle.journal.specs.Journal.{end_copies, images_good, names_below, names_differ, holds_in, holds}
use Rattle.journal.specs.Journal.{image_for, look_at, look}

-- a test that fails, and one that passes
pub and_no : (a r t : Bool) → t ≡ a → t ≡ false → t ≡ a && r
and_no a r t e f = f ∙ sym (ap (λ (x : Bool). x && r) (sym e ∙ f))

pub and_yes : (a r t u : Bool) → t ≡ a → t ≡ true → u ≡ r → u ≡ a && r
and_yes a r t u e f g = g ∙ sym (ap (λ (x : Bool). x && r) (sym e ∙ f))

-- six tests, asked from the first on
pub and-six : (a b c d e f : Bool) → ((((a && b) && c) && d) && e) && f ≡ a && (b && (c && (d && (e && f))))
and-six false b c d e f = refl
and-six true false c d e f = refl
and-six true true false d e f = refl
and-six true true true false e f = refl
and-six true true true true e f = refl

pub disk-eq : (s s' j j' : List ℕ) → s ≡ s' → j ≡ j'
    → ◌≡◌ {A = Disk} (record { store = s; journal = j }) (record { store = s'; journal = j' })
disk-eq s s' j j' p q = λ i. record { store = p i; journal = q i }

module _ (d : Disk) where
  pub no-image : count_in d.journal ≡ 0 → false ≡ holds d
  unfolding holds
  no-image e =
      sym
      (ap (λ (b : Bool). holds_in (b && leb (count_in d.journal) 14) d)
      (lt-leb 1 (count_in d.journal) (omega arith)))

  pub many-images : 14 < count_in d.journal → false ≡ holds d
  unfolding holds
  many-images h = sym (ap (λ (b : Bool). holds_in b d) both)
    where
      n : ℕ
      n = count_in d.journal

      both : leb 1 n && leb n 14 ≡ false
      both = ap (λ (b : Bool). b && leb n 14) (le-leb 1 n (omega arith)) ∙ lt-leb n 14 h

  -- with 1 to 14 images, the other tests
  pub few-images : 1 ≤ count_in d.journal → count_in d.journal ≤ 14 → (u : Bool)
      → u ≡ checks (number_in d.journal) 0 (head_of d.journal)
      && (checks (number_in d.journal) 15 (end_of d.journal)
      && (end_copies d.journal && (images_good d && (names_below d && names_differ d))))
      → u ≡ holds d
  unfolding holds
  few-images p q u e =
      e ∙ sym (ap (λ (b : Bool). holds_in b d) (and_both (leb 1 n) (leb n 14) (le-leb 1 n p) (le-leb n 14 q)))
    where
      n : ℕ
      n = count_in d.journal

  -- ---- a look, by what the journal holds

  pub image-no : holds d ≡ false → (k : ℕ) → image_for (holds d) d.journal k ≡ none
  image-no e k = ap (λ (b : Bool). image_for b d.journal k) e

  pub image-found : holds d ≡ true → (k : ℕ) (o : Option ℕ)
      → find (λ i. eqb (name_in d.journal i) k) (up_from 0 (count_in d.journal)) ≡ o
      → image_for (holds d) d.journal k ≡ o
  image-found e k o f = ap (λ (b : Bool). image_for b d.journal k) e ∙ f

  pub look_at_lem : (k : ℕ) (o : Option ℕ) → image_for (holds d) d.journal k ≡ o → look_at o d k ≡ look d k
  unfolding look
  look_at_lem k o e = sym (ap (λ (x : Option ℕ). look_at x d k) e)
