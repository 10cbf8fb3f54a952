use Rattle.std.proofs.Common.{List, ap, ap₂, arith, rules, length, ℕ, ◌*◌, ◌+◌, ◌-◌, ◌∙◌, ◌≡◌}
use lib.Seq.{sets}
use Rattle.endian.specs.Endian.{le16}
use Rattle.page.specs.declared.Entry.{Entry}
use Rattle.page.specs.Entries.{encode_entry}
use Rattle.page.specs.PageLaws.{number-page}
use Rattle.page.specs.EditLaws.{blank, without_entry, remove-page}
use Rattle.page.proofs.edit.remove_entry.Goals as goal

pub returns : goal.returns
returns c es tail eq =
    let a = c.args in
    let n : c.count_entries-n.result ≡ length es =
    c.count_entries-n.ensures ∙ number-page a.p.now es tail c.requires.whole eq in
    let m : ℕ = c.count_entries-n.result - 1 in
    let empty : c.default.result ≡ blank = search rules in
    let l₂ =
    c.put_entry.ensures
    ∙ ap₂ (λ (l : List ℕ) (e : Entry). sets l (4 + 12 * m) (encode_entry e)) c.close_gap.ensures empty in
    c.put_u16.ensures
    ∙ ap (λ (l : List ℕ). sets l 0 (le16 m)) l₂
    ∙ ap₂ (λ (l : List ℕ) (k : ℕ). without_entry l k (k - 1) a.k (encode_entry blank)) eq n
    ∙ remove-page es tail a.k (omega arith) (omega arith)
