use Rattle.std.proofs.Common.{◌≡◌, ◌∙◌, sym, ap, ℕ, List, ◌*◌, ◌+◌, ◌/◌, ◌%◌, ◌≤◌, length, get_or, set, arith}
use Rattle.std.proofs.Math.ListN.{length-set}
use Rattle.lists.specs.Block.{block, set_block}
use Rattle.lists.specs.BlockLaws.{get_or-block}
use Rattle.draft.specs.Bits.{with_bit, put_bit}
use Rattle.draft.specs.SetLaws.{set_block-set}
use Rattle.draft.proofs.Editing.{image-inside, edit-block}
use Rattle.draft.proofs.edit.put_bit.Goals as goal

pub bounds-draft-byte : goal.bounds-draft-byte
bounds-draft-byte c = omega (arith, image-inside c.open_block-at.ensures c.requires.by_index.1)

pub returns : goal.returns
unfolding put_bit
returns c =
    let a = c.args in
    let o = c.open_block-at in
    let l : List ℕ = o.new.draft.images in
    let at : ℕ = o.result in
    let inside : 512 * at + 512 ≤ length l = image-inside o.ensures c.requires.by_index.1 in
    let i : ℕ = a.n / 8 in
    let byte : c.with_bit.result ≡ with_bit (get_or (block l at) i 0) (a.n % 8) a.value =
    c.with_bit.ensures ∙ ap (λ (x : ℕ). with_bit x (a.n % 8) a.value) (sym (get_or-block l at i (omega arith))) in
    edit-block o.ensures
    (λ b. put_bit b a.n a.value)
    (λ b e. length-set b (a.n / 8) (with_bit (get_or b (a.n / 8) 0) (a.n % 8) a.value) ∙ e) _
    (set_block-set l at inside i c.with_bit.result (omega arith)
    ∙ ap (λ (x : ℕ). set_block l at (set (block l at) i x)) byte)
