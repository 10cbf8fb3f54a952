-- What is read of the bytes of a well-formed index: the meta block's fields, and each page's entries, links, bucket
-- and flags.
use Rattle.std.specs.Prelude.{◌≡◌, Bool, true, replicate}
use Rattle.std.proofs.Math.Path.{refl, ap, ap₂, subst}
use Rattle.std.proofs.Common.{◌∙◌, le-leb}
use Rattle.std.proofs.Math.Bool.{cond}
use mathlib.Core.List.{List, [], ◌∷◌}
use Prim.Native.Nat.{ℕ, zero, suc, ◌+◌, ◌-◌, ◌^◌, ◌≤◌, ◌<◌}
use native.Mathlib.Omega.{arith}
use Rattle.std.proofs.Math.ListN.{length, take}
use Rattle.std.proofs.Math.Seq.{take_at}
use Rattle.lists.specs.Lists.{find, Each}
use Rattle.lists.specs.ListsLaws.{each-zip}
use Rattle.lists.specs.Block.{block}
use Rattle.endian.specs.Endian.{u16_at}
use Rattle.address.specs.Address.{last_split, point, bucket_block, bit_block}
use Rattle.address.specs.Role.{Role, bucket_page, bit_page, role_of}
use Rattle.address.specs.RoleLaws.{role-bucket, role-bit}
use Rattle.address.specs.BlockLaws.{point-pos}
use Rattle.page.specs.declared.Entry.{Entry}
use Rattle.page.specs.Entries.{encode_page, entries_of}
use Rattle.page.specs.PageLaws.{number-encode_page, entries_of-encode_page}
use Rattle.page.specs.Rule.{page_ok}
use Rattle.page.proofs.RuleLaws.{page_ok-encode_page}
use Rattle.store.specs.Store.{prev_at, next_at, bucket_at, flags_at, id_at, covered}
use Rattle.model.specs.Index.{Page, Index, chain, top_bit}
use Rattle.model.specs.WellFormed.{PageOk, Laid, WF}
use Rattle.model.proofs.BoundLaws.{laid-room, bits-le}
use Rattle.image.specs.declared.Meta.{Meta}
use Rattle.image.specs.Layout.{
  paged,
  blank,
  meta_front,
  padded,
  meta_of,
  flags_of,
  LinkedPage,
  next_of,
  linked_of,
  linked_pages,
  bucket_image,
  overflow_image,
  image,
  encode_block,
  encode,
}
use Rattle.store.specs.Flags.{no_link}
use Rattle.image.specs.Decode.{read_meta, meta_at, max_at, point_at, spares_at, role_at, block_of}
use Rattle.image.specs.PagedLaws.{paged-parts, prev-paged, next-paged, bucket-paged, flags-paged, id-paged}
use Rattle.image.proofs.MetaLaws.{read_meta-meta_front}
use Rattle.image.specs.PageOkLaws.{page-allowed, encode_page-append, length-page_front}
use Rattle.image.specs.LinkedLaws.{has_bit, linked-uses, Found, found-each, each-chain}
use Rattle.image.proofs.BoundLaws.{max-under, max-small, length-meta, meta-fits, flags-small, last-le, bits-part}
use Rattle.image.proofs.EncodeLaws.{bit-inside, bucket-inside, LinkedOk, linked-ok, covered-encode, meta-block}

-- ---- what a page of entries holds

pub record PageIs (l : List ℕ) (es : List Entry) (p n b f : ℕ) : Type 0 where
  pub prev : prev_at l ≡ p
  pub next : next_at l ≡ n
  pub bucket : bucket_at l ≡ b
  pub flags : flags_at l ≡ f
  pub id : id_at l ≡ 0xFF80
  pub number : u16_at l 0 ≡ length es
  pub entries : entries_of l ≡ es
  pub rule : page_ok l ≡ true

page-is : (l : List ℕ) (es : List Entry) (prev next bucket flags : ℕ)
    → covered l ≡ paged (encode_page es []) prev next bucket flags
    → PageOk es → prev < 2 ^ 32 → next < 2 ^ 32 → bucket < 2 ^ 32 → flags < 2 ^ 16 → PageIs l es prev next bucket flags
page-is l es prev next bucket flags q o hp hn hb hf =
    let front = encode_page es [] in
    let len = length-page_front es o.full in
    let a = page-allowed es o in
    let parts = paged-parts front len prev next bucket flags l q ∙ encode_page-append es _ in
    record {
      prev = prev-paged front len prev next bucket flags l q hp;
      next = next-paged front len prev next bucket flags l q hn;
      bucket = bucket-paged front len prev next bucket flags l q hb;
      flags = flags-paged front len prev next bucket flags l q hf;
      id = id-paged front len prev next bucket flags l q;
      number = ap (λ (k : List ℕ). u16_at k 0) parts ∙ number-encode_page es _ (omega (arith, o.full));
      entries = ap entries_of parts ∙ entries_of-encode_page es _ (omega (arith, o.full)) a.fit;
      rule = ap page_ok parts ∙ page_ok-encode_page es _ a;
    }

module _ (x : Index) (w : WF x) where
  abbrev l : Laid x
  l = w.laid

  abbrev sp : List ℕ
  sp = x.spares

  abbrev s : ℕ
  s = point x.max_bucket

  abbrev e : List ℕ
  e = encode x

  -- ---- the meta block

  pub meta-encode : meta_at (encode x) ≡ meta_of x
  meta-encode =
      ap read_meta
      (paged-parts (meta_front (meta_of x)) (length-meta x l) no_link no_link no_link 8 (block e 0) (meta-block x l))
      ∙ read_meta-meta_front (meta_of x) _ (meta-fits x w)

  pub max-encode : max_at (encode x) ≡ x.max_bucket
  unfolding meta_of
  max-encode = ap (λ (m : Meta). m.max) meta-encode

  pub point-encode : point_at (encode x) ≡ point x.max_bucket
  point-encode = ap point max-encode

  pub spares-encode : spares_at (encode x) ≡ x.spares
  unfolding meta_of padded
  spares-encode =
      ap₂ (λ (k : ℕ) (m : Meta). take (suc k) m.spares) point-encode meta-encode
      ∙ take_at sp (replicate (16 - length sp) 0) (suc s) l.spares.points

  pub role-encode : (k : ℕ) → role_at (encode x) k ≡ role_of x.spares (point x.max_bucket) k
  role-encode k = ap₂ (λ (q : List ℕ) (n : ℕ). role_of q n k) spares-encode point-encode

  pub block_of-encode : (b : ℕ) → block_of (encode x) b ≡ bucket_block x.spares b
  block_of-encode b = ap (λ (q : List ℕ). bucket_block q b) spares-encode

  -- ---- the image of a role

  pub image-at : (k : ℕ) (r : Role) → k < x.size → role_of x.spares (point x.max_bucket) k ≡ r
      → covered (block (encode x) k) ≡ image x r
  unfolding encode_block
  image-at k r h q = covered-encode x l k h ∙ ap (image x) q

  pub role-of-bit : (n : ℕ) → n < top_bit x
      → role_of x.spares (point x.max_bucket) (bit_block x.spares (point x.max_bucket) n) ≡ bit_page n
  role-of-bit n h = role-bit sp s x.size l.spares (point-pos x.max_bucket) n h

  bucket-encode : (b : ℕ) → b ≤ x.max_bucket → covered (block e (bucket_block sp b)) ≡ bucket_image x b
  unfolding image
  bucket-encode b h =
      image-at (bucket_block sp b) (bucket_page b) (bucket-inside x l b h)
      (role-bucket sp s x.size l.spares (point-pos x.max_bucket) b (omega (arith, max-under x l)))
      ∙ ap (λ (c : Bool). cond c (bucket_image x b) blank) (le-leb b x.max_bucket h)

  image-bit : (n : ℕ) → 1 ≤ n → image x (bit_page n) ≡ overflow_image (find (has_bit n) (linked_pages x))
  unfolding image
  image-bit zero h = absurd (omega arith)
  image-bit (suc n) h = refl

  -- ---- overflow pages

  pub record LinkedIs (g : LinkedPage) : Type 0 where
    pub ok : LinkedOk x l g
    pub page :
        PageIs (block (encode x) (bit_block x.spares (point x.max_bucket) g.bit)) g.entries
        g.prev g.next g.bucket 1

  pub linked-is : Each LinkedIs (linked_pages x)
  unfolding Found
  linked-is =
      each-zip (LinkedOk x l) (Found (linked_pages x)) LinkedIs is (linked_pages x) (linked-ok x l)
      (found-each (linked_pages x) (λ n. omega (arith, linked-uses x n, l.once n)))
    where
      is : (g : LinkedPage) → LinkedOk x l g → Found (linked_pages x) g → LinkedIs g
      is g o q =
          record {
            ok = o;
            page =
                page-is (block e (bit_block sp s g.bit)) g.entries g.prev g.next g.bucket 1
                (image-at (bit_block sp s g.bit) (bit_page g.bit)
                (bit-inside x l g.bit o.made) (role-of-bit g.bit o.made)
                ∙ image-bit g.bit o.low
                ∙ ap overflow_image q)
                o.page o.prev o.next (omega (arith, o.bucket, max-small x l)) (omega arith);
          }

  -- ---- the chain of bucket b, as its bytes have it

  pub record ChainIs (b : ℕ) : Type 0 where
    pub first :
        PageIs (block (encode x) (bucket_block x.spares b)) (chain x b).first
        (last_split x.max_bucket b) (next_of x.spares (point x.max_bucket) (chain x b).more) b (flags_of x b)
    pub rest :
        Each LinkedIs (linked_of x.spares (point x.max_bucket) b (bucket_block x.spares b) (chain x b).more)
    pub short : length (chain x b).more ≤ x.size

  pub chain-is : (b : ℕ) → b ≤ x.max_bucket → ChainIs b
  unfolding bucket_image
  chain-is b h =
      let k : b < length x.chains = omega (arith, l.whole) in
      let z : 0 + b ≡ b = omega arith in
      let r : Each LinkedIs (linked_of sp s b (bucket_block sp b) (chain x b).more) =
      subst (λ (j : ℕ). Each LinkedIs (linked_of sp s j (bucket_block sp j) (chain x b).more)) z
      (each-chain sp s LinkedIs 0 x.chains linked-is b k) in
      record {
        rest = r;
        first =
            page-is (block e (bucket_block sp b)) (chain x b).first
            (last_split x.max_bucket b) (next_of sp s (chain x b).more) b (flags_of x b)
            (bucket-encode b h) (l.pages b).first
            (omega (arith, last-le x.max_bucket b, max-small x l)) (next (chain x b).more r)
            (omega (arith, max-small x l)) (flags-small x b);
        short = omega (arith, bits-part x.chains b k, bits-le x l, laid-room x l);
      }
    where
      next : (gs : List Page) → Each LinkedIs (linked_of sp s b (bucket_block sp b) gs) → next_of sp s gs < 2 ^ 32
      next [] r = omega arith
      next (g ∷ gs) r = omega (arith, bit-inside x l g.bit r.0.ok.made, l.size)
