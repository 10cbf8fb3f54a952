use Rattle.std.proofs.Common.{None, add_assoc, ap, arith, refl, sym, ◌*◌, ◌+◌, ◌∙◌, ◌≡◌}
use Rattle.chain.specs.BitmapLaws.{bit_of-byte, free_from, free-start, free-here, free-later, free-byte, free-none}
use Rattle.chain.proofs.bitmap.search_free.Goals as goal
use Rattle.chain.proofs.bitmap.search_free.Goals.{then-map-i+else-loop-j-test, else-map-i}

pub bytes-init : goal.bytes-init
bytes-init c = record { unset = refl; sought = free-start c.args.map.now }

pub loop-j-init : goal.loop-j-init
loop-j-init c =
    let e : 8 * c.bytes.i ≡ 8 * c.bytes.i + 0 = omega arith in
    record { unset = c.bytes.invariant.unset; sought = c.bytes.invariant.sought ∙ ap (free_from c.args.map.now) e }

pub loop-j-preserved : goal.loop-j-preserved
loop-j-preserved c =
    let map = c.args.map.now in
    let i = c.bytes.i in
    let j = c.loop-j.j in
    let bit = bit_of-byte map i j c.loop-j-test.true in
    let sought =
    c.loop-j.invariant.sought
    ∙ free-later map (8 * i + j) (omega arith) (λ q. omega (arith, bit))
    ∙ ap (free_from map) (add_assoc (8 * i) j 1) in
    record { unset = c.loop-j.invariant.unset; sought = sought }

pub bytes-preserved : goal.bytes-preserved
bytes-preserved c =
    let map = c.args.map.now in
    let i = c.bytes.i in
    let passed : free_from map (8 * i) ≡ free_from map (8 * i + 8) =
    elim c.if-map-i.branch [
      | then-map-i+else-loop-j-test b ↦
          let e : 8 * i + b.loop-j.j ≡ 8 * i + 8 = omega (arith, b.loop-j.auto.j-end, b.loop-j-test.false) in
          sym c.bytes.invariant.sought ∙ b.loop-j.invariant.sought ∙ ap (free_from map) e
      | else-map-i b ↦ free-byte map i (omega arith) (omega (arith, b.if-map-i.false))
    ] in
    let e : 8 * i + 8 ≡ 8 * (i + 1) = omega arith in
    let kept : c.if-map-i.free ≡ None =
    elim c.if-map-i.branch [
      | then-map-i+else-loop-j-test b ↦ b.free-is ∙ b.loop-j.invariant.unset
      | else-map-i b ↦ b.free-is ∙ c.bytes.invariant.unset
    ] in
    record { unset = kept; sought = c.bytes.invariant.sought ∙ passed ∙ ap (free_from map) e }

pub returns-then-map-i-eq0 : goal.returns-then-map-i-eq0
returns-then-map-i-eq0 c =
    let map = c.args.map.now in
    let i = c.bytes.i in
    let j = c.loop-j.j in
    let bit = bit_of-byte map i j c.loop-j-test.true in
    sym (c.loop-j.invariant.sought ∙ free-here map (8 * i + j) (omega arith) (omega (arith, bit)))

pub returns-after-bytes : goal.returns-after-bytes
returns-after-bytes c =
    let map = c.args.map.now in
    let e : 8 * c.bytes.i ≡ 2048 = omega arith in
    c.bytes.invariant.unset ∙ sym (c.bytes.invariant.sought ∙ ap (free_from map) e ∙ free-none map)
