use Rattle.std.proofs.Common.{List, ap, arith, eq-eqb, eqb, false, length, ltb, ne_eqb, sym, true, ℕ, ◌∙◌, ◌≡◌}
use Rattle.lists.specs.Block.{block}
use Rattle.endian.specs.Endian.{u16_at}
use Rattle.store.specs.Store.{prev_at, bucket_at}
use Rattle.image.specs.declared.Meta.{Meta}
use Rattle.image.specs.Rules.{is_overflow}
use Rattle.reader.specs.Known.{Known2}
use Rattle.reader.specs.KnownLaws.{block-whole, block-full}
use Rattle.shape.specs.ChainedLaws.{overflow-inside}
use Rattle.shape.proofs.links.check_link.Goals as goal

-- an overflow page is a whole block of the store
full : {s : List ℕ} {m : Meta} (k : Known2 s m) (j : ℕ) → is_overflow s j ≡ true → {l : List ℕ} → l ≡ block s j
    → length l ≡ 512
full k j page e = ap length e ∙ block-full k j (overflow-inside k j page)

pub returns-then-not-is_overflow : goal.returns-then-not-is_overflow
returns-then-not-is_overflow c =
    let plain : is_overflow c.args.store.now c.args.j ≡ false = sym c.is_overflow.ensures ∙ c.if-not-is_overflow.true in
    rw plain

pub block_at-part-requires : goal.block_at-part-requires
block_at-part-requires c =
    let page : is_overflow c.args.store.now c.args.j ≡ true = sym c.is_overflow.ensures ∙ c.if-not-is_overflow.false in
    block-whole c.requires c.args.j (overflow-inside c.requires c.args.j page)

pub prev_at-requires : goal.prev_at-requires
prev_at-requires c =
    full c.requires c.args.j (sym c.is_overflow.ensures ∙ c.if-not-is_overflow.false) c.block_at-part.ensures

pub returns-then-prev_at-k : goal.returns-then-prev_at-k
returns-then-prev_at-k c =
    let a = c.args in
    let page : is_overflow a.store.now a.j ≡ true = sym c.is_overflow.ensures ∙ c.if-not-is_overflow.false in
    let prev = c.prev_at.ensures ∙ ap prev_at c.block_at-part.ensures in
    let other : eqb (prev_at (block a.store.now a.j)) a.k ≡ false =
    ne_eqb (prev_at (block a.store.now a.j)) a.k (λ e. c.if-prev_at-k.true (prev ∙ e)) in
    rw (page, other)

pub bucket_at-requires : goal.bucket_at-requires
bucket_at-requires c =
    full c.requires c.args.j (sym c.is_overflow.ensures ∙ c.if-not-is_overflow.false) c.block_at-part.ensures

pub returns-then-bucket_at-b : goal.returns-then-bucket_at-b
returns-then-bucket_at-b c =
    let a = c.args in
    let page : is_overflow a.store.now a.j ≡ true = sym c.is_overflow.ensures ∙ c.if-not-is_overflow.false in
    let back : eqb (prev_at (block a.store.now a.j)) a.k ≡ true =
    eq-eqb _ _ (sym (c.prev_at.ensures ∙ ap prev_at c.block_at-part.ensures) ∙ c.if-prev_at-k.false) in
    let bucket = c.bucket_at.ensures ∙ ap bucket_at c.block_at-part.ensures in
    let other : eqb (bucket_at (block a.store.now a.j)) a.b ≡ false =
    ne_eqb (bucket_at (block a.store.now a.j)) a.b (λ q. c.if-bucket_at-b.true (bucket ∙ q)) in
    rw (page, back, other)

pub count_entries-requires : goal.count_entries-requires
count_entries-requires c =
    let whole =
    full c.requires c.args.j (sym c.is_overflow.ensures ∙ c.if-not-is_overflow.false) c.block_at-part.ensures in
    omega (arith, whole)

pub returns : goal.returns
returns c =
    let a = c.args in
    let page : is_overflow a.store.now a.j ≡ true = sym c.is_overflow.ensures ∙ c.if-not-is_overflow.false in
    let back : eqb (prev_at (block a.store.now a.j)) a.k ≡ true =
    eq-eqb _ _ (sym (c.prev_at.ensures ∙ ap prev_at c.block_at-part.ensures) ∙ c.if-prev_at-k.false) in
    let bucket = c.bucket_at.ensures ∙ ap bucket_at c.block_at-part.ensures in
    let own : eqb (bucket_at (block a.store.now a.j)) a.b ≡ true =
    eq-eqb (bucket_at (block a.store.now a.j)) a.b (sym bucket ∙ c.if-bucket_at-b.false) in
    rw (page, back, own)
    (ap (ltb 0) (c.count_entries.ensures ∙ ap (λ (l : List ℕ). u16_at l 0) c.block_at-part.ensures))
