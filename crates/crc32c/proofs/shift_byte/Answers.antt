use Rattle.std.proofs.Common.{List, ap, bit_xor, get_or, sym, ℕ, ◌%◌, ◌/◌, ◌∙◌}
use Rattle.crc32c.specs.TableLaws.{bits-table}
use Rattle.crc32c.proofs.shift_byte.Goals as goal

pub returns : goal.returns
returns c =
    let x : ℕ = c.args.c in
    ap (λ (t : List ℕ). bit_xor (x / 256) (get_or t (x % 256) 0)) c.requires ∙ sym (bits-table x)
