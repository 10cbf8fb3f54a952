use Rattle.std.proofs.Common.{List, ap, arith, drop, get_or, length, length-drop, sym, take, ℕ, ◌+◌, ◌-◌, ◌<◌, ◌∙◌, ◌≡◌}
use Rattle.std.proofs.Math.Seq.{length-take-le}
use Rattle.std.proofs.lemmas.List.{get_or-drop, get_or-take}
use Rattle.chain.proofs.bitmap.is_full.Goals as goal

pub returns : goal.returns
returns c =
    λ e i h less.
    let at = c.args.at in
    let l : List ℕ = c.args.map.now in
    let rest : length (drop at l) ≡ 512 - at = omega (arith, length-drop at l) in
    let whole : length (take (256 - at) (drop at l)) ≡ 256 - at = length-take-le (256 - at) (drop at l) (omega arith) in
    let inside : i - at < c.loop-byte.byte-index = omega (arith, c.loop-byte-test.false) in
    let here : i ≡ at + (i - at) = omega arith in
    ap (λ (k : ℕ). get_or l k 0) here
    ∙ sym (get_or-drop at l (i - at) 0)
    ∙ sym (get_or-take (256 - at) (drop at l) (i - at) 0 (omega arith))
    ∙ c.loop-byte.invariant e (i - at) inside
