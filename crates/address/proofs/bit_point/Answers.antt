use Rattle.std.proofs.Common.{List, add-one, ap, arith, get_or, le-ltb, lt-ltb, suc, sym, ℕ, ◌+◌, ◌-◌, ◌<◌, ◌∙◌, ◌≡◌, ◌≤◌}
use Rattle.address.specs.Address.{bit_point}
use Rattle.address.proofs.bit_point.Goals as goal

module _ (sp : List ℕ) (s n i : ℕ) where
  more : i < s → s - i ≡ suc (s - (i + 1))
  more h = omega arith

  found : i < s → n < get_or sp i 0 → bit_point sp n i (s - i) ≡ i
  found h l = ap (bit_point sp n i) (more h) ∙ rw (lt-ltb n (get_or sp i 0) l, bit_point)

  passed : i < s → get_or sp i 0 ≤ n → bit_point sp n i (s - i) ≡ bit_point sp n (i + 1) (s - (i + 1))
  passed h l =
      ap (bit_point sp n i) (more h) ∙ rw (le-ltb n (get_or sp i 0) l, bit_point)
      (ap (λ (j : ℕ). bit_point sp n j (s - (i + 1))) (sym (add-one i)))

  ended : s ≤ i → bit_point sp n i (s - i) ≡ i
  ended h = let e : s - i ≡ 0 = omega arith in ap (bit_point sp n i) e

pub returns-then-bit-spares : goal.returns-then-bit-spares
returns-then-bit-spares c =
    let l = c.loop-i in
    (sym (l.invariant.1 ∙ found _ _ _ l.i c.loop-i-test.true c.if-bit-spares.true), omega arith)

pub loop-i-preserved : goal.loop-i-preserved
loop-i-preserved c =
    let l = c.loop-i in
    (omega arith, l.invariant.1 ∙ passed _ _ _ l.i c.loop-i-test.true c.if-bit-spares.false)

pub returns : goal.returns
returns c =
    let l = c.loop-i in
    let e : c.max.result ≡ l.i = omega arith in
    (e ∙ sym (l.invariant.1 ∙ ended _ _ _ l.i c.loop-i-test.false), omega arith)
