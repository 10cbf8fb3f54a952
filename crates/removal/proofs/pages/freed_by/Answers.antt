use Rattle.std.proofs.Common.{◌≡◌, refl, sym, ap, ◌∙◌, Bool, cond, List, ℕ, length, take, eq-eqb, ne_eqb, arith}
use Rattle.std.specs.Prelude.{Some, None}
use Prim.Native.Nat.{suc, ◌^◌}
use Rattle.endian.specs.Endian.{u16_at}
use Rattle.address.specs.Role.{Role, meta, bucket_page, bit_page, unmade, role_of}
use Rattle.address.specs.declared.BlockRole.{BlockRole}
use Rattle.address.specs.BlockRole.{role_case}
use Rattle.address.specs.AgreeLaws.{spares-wider}
use Rattle.address.specs.Limits.{max_blocks}
use Rattle.view.specs.ReadsLaws.{reads_whole, reads-block}
use Rattle.removal.specs.Freeing.{emptied}
use Rattle.removal.specs.FieldLaws.{reads-addressed}
use Rattle.removal.proofs.pages.freed_by.Goals as goal

-- a role that is no overflow bit's frees nothing
not-bit : (r : Role) (n : ℕ) → ((i : ℕ) → role_case r ≡ BlockRole.Bit i → ⊥) → None ≡ emptied r n
not-bit meta n h = refl
not-bit (bucket_page b) n h = refl
not-bit (bit_page i) n h = absurd (h i refl)
not-bit unmade n h = refl

-- the role is that of bit i
is-bit : (r : Role) (i n : ℕ) → role_case r ≡ BlockRole.Bit i → emptied r n ≡ emptied (bit_page i) n
is-bit meta i n e = let z : ◌≡◌ {A = ℕ} 0 1 = cc in absurd (omega arith)
is-bit (bucket_page b) i n e = let z : ◌≡◌ {A = ℕ} 0 1 = cc in absurd (omega arith)
is-bit (bit_page j) i n e = let q : j ≡ i = cc in ap (λ (j : ℕ). emptied (bit_page j) n) q
is-bit unmade i n e = let z : ◌≡◌ {A = ℕ} 0 1 = cc in absurd (omega arith)

pub role_of-role-requires : goal.role_of-role-requires
role_of-role-requires c =
    let m = c.args.m in
    let a = reads-addressed c.requires.0 in
    (a.low, spares-wider (take (suc m.point) m.spares) m.point max_blocks (2 ^ 32) (omega arith) a.spares)

pub returns-in_default : goal.returns-in_default
returns-in_default c =
    not-bit (role_of c.args.m.spares c.args.m.point c.args.k) _
    (λ i e. c.in_default.not-Bit i (c.role_of-role.ensures ∙ e))

pub block_at-requires : goal.block_at-requires
block_at-requires c = reads_whole c.requires.0 c.args.k c.requires.1

pub count_entries-requires : goal.count_entries-requires
count_entries-requires c = ap length c.block_at.ensures ∙ reads-block c.requires.0 c.args.k c.requires.1

pub returns-then-count_entries-eq1 : goal.returns-then-count_entries-eq1
returns-then-count_entries-eq1 c =
    let i = c.in-Bit.bit in
    let counted =
    is-bit (role_of c.args.m.spares c.args.m.point c.args.k) i _ (sym c.role_of-role.ensures ∙ c.in-Bit.is)
    ∙ ap (emptied (bit_page i)) (sym (c.count_entries.ensures ∙ ap (λ (l : List ℕ). u16_at l 0) c.block_at.ensures)) in
    sym (counted
    ∙ ap (λ (e : Bool). cond e (Some i) None) (eq-eqb c.count_entries.result 1 c.if-count_entries-eq1.true))

pub returns-else-count_entries-eq1 : goal.returns-else-count_entries-eq1
returns-else-count_entries-eq1 c =
    let i = c.in-Bit.bit in
    let counted =
    is-bit (role_of c.args.m.spares c.args.m.point c.args.k) i _ (sym c.role_of-role.ensures ∙ c.in-Bit.is)
    ∙ ap (emptied (bit_page i)) (sym (c.count_entries.ensures ∙ ap (λ (l : List ℕ). u16_at l 0) c.block_at.ensures)) in
    sym (counted
    ∙ ap (λ (e : Bool). cond e (Some i) None) (ne_eqb c.count_entries.result 1 c.if-count_entries-eq1.false))
