use Rattle.std.proofs.Common.{List, ap, ap₂, arith, length, ℕ, ◌*◌, ◌+◌, ◌∙◌, ◌≡◌}
use lib.Seq.{sets}
use Rattle.endian.specs.Endian.{le16}
use Rattle.page.specs.Entries.{encode_entry}
use Rattle.page.specs.PageLaws.{number-page}
use Rattle.page.specs.EditLaws.{with_entry, insert-page}
use Rattle.page.proofs.edit.insert_entry.Goals as goal

pub returns : goal.returns
returns c es tail eq =
    let a = c.args in
    let n : c.count_entries-n.result ≡ length es =
    c.count_entries-n.ensures ∙ number-page a.p.now es tail c.requires.whole eq in
    let l₂ =
    c.put_entry.ensures
    ∙ ap (λ (l : List ℕ). sets l (4 + 12 * a.k) (encode_entry a.e)) c.open_gap.ensures in
    c.put_u16.ensures
    ∙ ap (λ (l : List ℕ). sets l 0 (le16 (c.count_entries-n.result + 1))) l₂
    ∙ ap₂ (λ (l : List ℕ) (m : ℕ). with_entry l m a.k (encode_entry a.e)) eq n
    ∙ insert-page es tail a.k a.e (omega arith) (omega arith)
