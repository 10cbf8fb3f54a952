use Rattle.std.proofs.Common.{List, ap, ap₂, ℕ, ◌*◌, ◌+◌, ◌∙◌}
use lib.Seq.{sets}
use Rattle.endian.specs.Endian.{le16, le32}
use Rattle.page.specs.EntryLaws.{sets-encode_entry}
use Rattle.page.proofs.slots.put_entry.Goals as goal

pub returns : goal.returns
returns c =
    let a = c.args in
    let at : ℕ = 4 + 12 * a.k in
    let l₂ = c.put_u32-2.ensures ∙ ap (λ (l : List ℕ). sets l (at + 4) (le32 a.e.pair.block)) c.put_u32.ensures in
    let l₃ = c.put_u16.ensures ∙ ap (λ (l : List ℕ). sets l (at + 8) (le16 a.e.pair.offset)) l₂ in
    c.put_u16-2.ensures
    ∙ ap₂ (λ (l : List ℕ) (v : ℕ). sets l (at + 10) (le16 v)) l₃ c.entry_flags.ensures
    ∙ sets-encode_entry a.p.now at a.e
