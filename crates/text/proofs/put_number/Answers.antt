use Rattle.std.proofs.Common.{◌≡◌, ℕ, ◌-◌, List, length, take, drop, ◌∙◌, arith, rules, length-drop, take_all}
use Rattle.text.specs.Digits.{digits}
use Rattle.text.proofs.put_number.Goals as goal

-- the bytes that are lent are the digits
spelled : (n from : ℕ) (space : List ℕ) → length space ≡ 20 → drop from space ≡ digits n
    → take (20 - from) (drop from space) ≡ digits n
spelled n from space l e = take_all (20 - from) (drop from space) (omega (arith, length-drop from space)) ∙ e

pub put_bytes-requires : goal.put_bytes-requires
put_bytes-requires c =
    let p = c.spell-from in
    rw (spelled c.args.n p.result p.new.space (search rules) p.ensures.1) c.requires

pub returns : goal.returns
returns c =
    let p = c.spell-from in
    rw (spelled c.args.n p.result p.new.space (search rules) p.ensures.1) at c.put_bytes.ensures
