-- What rule 2's test of the spares says of them.
use Rattle.std.specs.Prelude.{◌≡◌, refl, Bool, false, List, leb, eqb, length, get_or, take}
use Rattle.std.proofs.Common.{◌∙◌, arith, length-take-le}
use Rattle.std.proofs.Math.Bool.{true}
use Prim.Native.Nat.{ℕ, zero, suc, ◌-◌, ◌≤◌, ◌<◌}
use Rattle.std.proofs.Math.Decide.{dec_le}
use Rattle.std.proofs.Math.ListN.{get_or-eq_default}
use borrow.Author.Tests.{leb-true, eqb-true}
use Rattle.lists.specs.Lists.{all, up_from}
use Rattle.lists.specs.ListsLaws.{and_left, and_right}
use Rattle.lists.specs.RunLaws.{all-get}
use Rattle.address.specs.Address.{made}
use Rattle.address.specs.Role.{SparesOk}
use Rattle.address.specs.AgreeLaws.{made-same, spares-front}
use Rattle.image.specs.Rules.{spares_ok}
use Rattle.meta.specs.Spares.{rises}

module _ (s : ℕ) (sp : List ℕ) (ok : spares_ok s sp ≡ true) where
  zeroth : get_or sp 0 0 ≡ 0
  unfolding spares_ok
  zeroth = eqb-true _ _ (and_left (eqb (get_or sp 0 0) 0) _ ok)

  bitmap : 1 ≤ get_or sp 1 0
  unfolding spares_ok
  bitmap = leb-true _ _ (and_left (leb 1 (get_or sp 1 0)) _ (and_right (eqb (get_or sp 0 0) 0) _ ok))

  rising : (i : ℕ) → i < s → get_or sp i 0 ≤ get_or sp (suc i) 0
  unfolding spares_ok
  rising zero h = omega (arith, zeroth)
  rising (suc i) h =
      let rest = and_right (leb 1 (get_or sp 1 0)) _ (and_right (eqb (get_or sp 0 0) 0) _ ok) in
      let run : all (rises sp) (up_from 1 (s - 1)) ≡ true = and_left (all (rises sp) (up_from 1 (s - 1))) _ rest in
      leb-true _ _ (all-get (rises sp) 1 (s - 1) run (suc i) (omega arith) (omega arith))

  positive : (i : ℕ) → i < s → 1 ≤ get_or sp (suc i) 0
  positive zero h = bitmap
  positive (suc i) h = omega (arith, rising (suc i) h, positive i (omega arith))

  module _ (sixteen : length sp ≡ 16) where
    -- the sixteenth spare would be positive and is not there
    pub point-low : s ≤ 15
    point-low = go (dec_le s 15)
      where
        go : Dec (s ≤ 15) → s ≤ 15
        go (yes h) = h
        go (no h) =
            let none : get_or sp 16 0 ≡ 0 = get_or-eq_default sp 0 (omega arith) in
            absurd (omega (arith, positive 15 (omega arith)))

    pub spares-ok : (n : ℕ) → 1 ≤ s → made sp s ≤ n → SparesOk (take (suc s) sp) s n
    spares-ok n pos room =
        let front = spares-front sp s in
        record {
          points = length-take-le (suc s) sp (omega (arith, point-low));
          zeroth = front 0 (omega arith) ∙ zeroth;
          rising = λ i h. omega (arith, front i (omega arith), front (suc i) (omega arith), rising i h);
          bitmap = omega (arith, front 1 pos, bitmap);
          room = omega (arith, made-same (take (suc s) sp) sp s front, room);
        }

-- sixteen spares pass at no point above 15
pub point-high : (s : ℕ) (sp : List ℕ) → length sp ≡ 16 → 15 < s → spares_ok s sp ≡ false
point-high s sp sixteen h = go (spares_ok s sp) refl
  where
    go : (b : Bool) → spares_ok s sp ≡ b → spares_ok s sp ≡ false
    go false e = e
    go true e = absurd (omega (arith, point-low s sp e sixteen))
