use Rattle.std.proofs.Common.{◌≡◌, ℕ, ◌+◌, ◌*◌, [], ◌∷◌, ◌++◌, ap, sym, ◌∙◌, arith, drop, length, length-append}
use Rattle.std.specs.Slice.Iter.{chunks_exact_rest}
use Rattle.lists.specs.Bytes.{Bytes}
use Rattle.crc32c.specs.Crc.{crc_byte, crc_bytes}
use Rattle.crc32c.specs.CrcLaws.{crc_bytes-drop, crc_bytes-end}
use Rattle.crc32c.proofs.ChunkLaws.{chunk}
use Rattle.crc32c.proofs.update.Goals as goal

pub loop-four-preserved : goal.loop-four-preserved
loop-four-preserved c =
    let s = c.args.s.now in
    let l = c.loop-four in
    let x = c.in-Some.four in
    let bytes : Bytes s = λ i. omega (arith, c.type_inv.s i) in
    let steps = c.in-Some.ensures.steps in
    let n : ℕ = 4 * length l.yielded in
    let m : ℕ = 4 * length (l.yielded ++ x ∷ []) in
    let next : m ≡ n + 4 = omega (arith, length-append l.yielded (x ∷ [])) in
    let turn = chunk l.state s x.now (chunks_exact_rest c.next.new.self) n m bytes
    (sym l.invariant.place ∙ steps.1.0) (steps.1.1 ∙ l.invariant.size) next in
    record {
      size = steps.0 ∙ l.invariant.size;
      inside = turn.inside;
      place = turn.place;
      state = cc (l.invariant.state, turn.state);
    }

pub loop-byte-preserved : goal.loop-byte-preserved
unfolding crc_byte
loop-byte-preserved c =
    let l = c.loop-byte in
    let rest = c.remainder-rest.result.now in
    l.invariant
    ∙ crc_bytes-drop l.state rest l.byte-index (omega arith)
    ∙ ap (λ (x : ℕ). crc_bytes x (drop (l.byte-index + 1) rest)) (cc)

pub returns : goal.returns
returns c =
    let l = c.loop-byte in
    cc (crc_bytes-end l.state c.remainder-rest.result.now l.byte-index (omega arith))
