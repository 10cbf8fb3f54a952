-- The bytes of a laid-out index, block by block: each has 512 bytes, its check is right, and its body is the image of
-- the block's role.
use Rattle.std.specs.Prelude.{◌≡◌, Bool, cond, not, leb, eqb, length, get_or}
use Rattle.std.proofs.Math.Path.{refl, ap, ap₂}
use Rattle.std.proofs.Common.{◌∙◌, eq-eqb, le-leb}
use Rattle.std.proofs.Math.Bool.{true, false}
use mathlib.Core.List.{List, [], ◌∷◌, map}
use Rattle.std.proofs.Math.Option.{Option, none, some}
use Prim.Native.Nat.{ℕ, zero, suc, ◌+◌, ◌*◌, ◌%◌, ◌^◌, ◌≤◌, ◌<◌}
use native.Mathlib.Omega.{arith}
use Rattle.lists.specs.Lists.{b2n, tally, find, bind, up_from, Each}
use Rattle.lists.specs.ListsLaws.{tally-append, each_append, each-find, and_both}
use Rattle.lists.specs.Bytes.{Bytes}
use Rattle.lists.specs.BytesLaws.{Bytes-append}
use Rattle.lists.specs.Block.{blocks, block}
use Rattle.lists.specs.BlockLaws.{length-bind, block-bind}
use Rattle.endian.specs.Endian.{u32_at}
use Rattle.address.specs.Limits.{max_blocks}
use Rattle.address.specs.Address.{point, bucket_block, bit_block}
use Rattle.address.specs.Role.{Role, meta, bucket_page, bit_page, unmade, role_of}
use Rattle.address.specs.RoleLaws.{role-meta}
use Rattle.address.specs.BlockLaws.{point-pos, bit-made, bucket-made}
use Rattle.page.specs.declared.Entry.{Entry}
use Rattle.page.specs.Entries.{encode_page}
use Rattle.page.specs.PageLaws.{Bytes-encode_page}
use Rattle.store.specs.Store.{covered, checks, number_at, checked}
use Rattle.store.proofs.CheckLaws.{covered_whole, length-sealed, covered-sealed, checks-sealed, Bytes-sealed}
use Rattle.model.specs.Index.{Page, Chain, no_chain, Index, chain, top_bit}
use Rattle.model.specs.Pages.{bits_of, is_free}
use Rattle.model.specs.WellFormed.{PageOk, MoreOk, ChainOk, Laid}
use Rattle.model.specs.TallyLaws.{b2n-le}
use Rattle.model.proofs.BoundLaws.{laid-size}
use Rattle.image.specs.Layout.{
  paged,
  blank,
  meta_front,
  meta_of,
  map_front,
  map_bit,
  LinkedPage,
  next_of,
  linked_of,
  linked_from,
  linked_pages,
  bucket_image,
  overflow_image,
  image,
  encode_block,
  sealed_block,
  encode,
}
use Rattle.store.specs.Flags.{no_link}
use Rattle.image.specs.Rules.{length_ok}
use Rattle.image.specs.PagedLaws.{
  length-paged,
  Bytes-paged,
  length-blank,
  Bytes-blank,
  paged-parts,
}
use Rattle.image.proofs.MetaLaws.{Bytes-meta_front, number-meta_front}
use Rattle.image.specs.BitmapLaws.{length-map_front, Bytes-map_front}
use Rattle.image.specs.PageOkLaws.{length-page_front}
use Rattle.image.specs.LinkedLaws.{has_bit}
use Rattle.image.proofs.BoundLaws.{max-under, length-padded, length-meta}

-- ---- a body

pub record Whole (l : List ℕ) : Type 0 where
  pub full : length l ≡ 508
  pub bytes : Bytes l

paged-whole : (front : List ℕ) (prev next bucket flags : ℕ) → length front ≡ 492 → Bytes front
    → Whole (paged front prev next bucket flags)
paged-whole front prev next bucket flags h b =
    record { full = length-paged front h prev next bucket flags; bytes = Bytes-paged front h prev next bucket flags b }

page-whole : (es : List Entry) (prev next bucket flags : ℕ) → length es ≤ 40
    → Whole (paged (encode_page es []) prev next bucket flags)
page-whole es prev next bucket flags h =
    paged-whole (encode_page es []) prev next bucket flags (length-page_front es h)
    (Bytes-encode_page es [] (λ i. omega arith))

blank-whole : Whole blank
blank-whole = record { full = length-blank; bytes = Bytes-blank }

pub map_bit-lt : (x : Index) (n : ℕ) → map_bit x n < 2
map_bit-lt x n = omega (arith, b2n-le (not (is_free x n)))

module _ (x : Index) (l : Laid x) where
  abbrev sp : List ℕ
  sp = x.spares

  abbrev s : ℕ
  s = point x.max_bucket

  -- ---- blocks are in the store

  pub bit-inside : (n : ℕ) → n < top_bit x → bit_block x.spares (point x.max_bucket) n < x.size
  bit-inside n h = omega (arith, bit-made sp s x.size l.spares (point-pos x.max_bucket) n h, l.spares.room)

  pub bucket-inside : (b : ℕ) → b ≤ x.max_bucket → bucket_block x.spares b < x.size
  bucket-inside b h =
      omega (
        arith,
        bucket-made sp s x.size l.spares (point-pos x.max_bucket) b (omega (arith, max-under x l)),
        l.spares.room,
      )

  -- ---- overflow pages with their links

  pub record LinkedOk (g : LinkedPage) : Type 0 where
    pub low : 1 ≤ g.bit
    pub made : g.bit < top_bit x
    pub used : 1 ≤ length g.entries
    pub page : PageOk g.entries
    pub bucket : g.bucket ≤ x.max_bucket
    pub prev : g.prev < 2 ^ 32
    pub next : g.next < 2 ^ 32

  abbrev Made : ℕ → Type 0
  Made n = (1 ≤ n) × (n < top_bit x)

  pub next_small : (gs : List Page) → ((n : ℕ) → 1 ≤ tally (eqb n) (map (λ (g : Page). g.bit) gs) → Made n)
      → next_of x.spares (point x.max_bucket) gs < 2 ^ 32
  next_small [] r = omega arith
  next_small (g ∷ gs) r =
      omega (
        arith,
        bit-inside g.bit (r g.bit (omega (arith, ap b2n (eq-eqb g.bit g.bit refl)))).1,
        l.size,
      )

  linked_of-ok : (b prev : ℕ) (gs : List Page) → b ≤ x.max_bucket → prev < 2 ^ 32 → Each MoreOk gs
      → ((n : ℕ) → 1 ≤ tally (eqb n) (map (λ (g : Page). g.bit) gs) → Made n)
      → Each LinkedOk (linked_of sp s b prev gs)
  linked_of-ok b prev [] hb hp o r = tt
  linked_of-ok b prev (g ∷ gs) hb hp o r =
      let here : Made g.bit = r g.bit (omega (arith, ap b2n (eq-eqb g.bit g.bit refl))) in (
        record {
          low = here.0;
          made = here.1;
          used = o.0.used;
          page = o.0.page;
          bucket = hb;
          prev = hp;
          next = next_small gs (λ n h. r n (omega arith));
        },
        linked_of-ok b (bit_block sp s g.bit) gs hb (omega (arith, bit-inside g.bit here.1, l.size)) o.1
            (λ n h. r n (omega arith)),
      )

  linked_from-ok : (i : ℕ) (cs : List Chain) → i + length cs ≤ suc x.max_bucket
      → ((k : ℕ) → ChainOk (get_or cs k no_chain))
      → ((n : ℕ) → 1 ≤ tally (eqb n) (bind cs bits_of) → Made n)
      → Each LinkedOk (linked_from sp s i cs)
  linked_from-ok i [] h o r = tt
  linked_from-ok i (c ∷ cs) h o r =
      each_append LinkedOk (linked_of sp s i (bucket_block sp i) c.more) (linked_from sp s (suc i) cs)
      (linked_of-ok i (bucket_block sp i) c.more (omega arith)
      (omega (arith, bucket-inside i (omega arith), l.size)) (o 0).more
      (λ n k. r n (omega (arith, tally-append (eqb n) (bits_of c) (bind cs bits_of)))))
      (linked_from-ok (suc i) cs (omega arith) (λ k. o (suc k))
      (λ n k. r n (omega (arith, tally-append (eqb n) (bits_of c) (bind cs bits_of)))))

  pub linked-ok : Each LinkedOk (linked_pages x)
  linked-ok = linked_from-ok 0 x.chains (omega (arith, l.whole)) l.pages l.made

  -- ---- blocks

  pub image-whole : (r : Role) → Whole (image x r)
  unfolding image bucket_image
  image-whole meta =
      paged-whole (meta_front (meta_of x)) no_link no_link no_link 8 (length-meta x l) (Bytes-meta_front (meta_of x))
  image-whole (bucket_page b) = go (leb b x.max_bucket)
    where
      go : (c : Bool) → Whole (cond c (bucket_image x b) blank)
      go true = page-whole (chain x b).first _ _ _ _ (l.pages b).first.full
      go false = blank-whole
  image-whole (bit_page zero) =
      paged-whole (map_front (map_bit x)) no_link no_link no_link 4 (length-map_front (map_bit x))
      (Bytes-map_front (map_bit x) (map_bit-lt x))
  image-whole (bit_page (suc n)) = go (find (has_bit (suc n)) (linked_pages x)) refl
    where
      go : (o : Option LinkedPage) → find (has_bit (suc n)) (linked_pages x) ≡ o → Whole (overflow_image o)
      go none q = blank-whole
      go (some g) q = page-whole g.entries _ _ _ _ (each-find LinkedOk _ (linked_pages x) g linked-ok q).page.full
  image-whole unmade = blank-whole

  pub block-whole : (k : ℕ) → Whole (encode_block x k)
  unfolding encode_block
  block-whole k = image-whole (role_of sp s k)

  -- a block with its check
  full : (k : ℕ) → length (sealed_block x k) ≡ 512
  unfolding sealed_block
  full k = length-sealed _ k (encode_block x k) (omega (arith, (block-whole k).full))

  pub length-encode : length (encode x) ≡ 512 * x.size
  unfolding encode
  length-encode = length-bind (sealed_block x) full 0 x.size

  pub blocks-encode : blocks (encode x) ≡ x.size
  unfolding blocks
  blocks-encode = omega (arith, length-encode)

  pub block-encode : (k : ℕ) → k < x.size → block (encode x) k ≡ sealed_block x k
  unfolding encode
  block-encode k h =
      let z : 0 + k ≡ k = omega arith in
      block-bind (sealed_block x) full 0 x.size k h ∙ ap (sealed_block x) z

  pub covered-encode : (k : ℕ) → k < x.size → covered (block (encode x) k) ≡ encode_block x k
  unfolding sealed_block
  covered-encode k h =
      let b = (block-whole k).full in
      ap covered (block-encode k h)
      ∙ covered-sealed _ k (encode_block x k) (omega arith)
      ∙ covered_whole (encode_block x k) b

  pub meta-block : covered (block (encode x) 0) ≡ paged (meta_front (meta_of x)) no_link no_link no_link 8
  unfolding encode_block image
  meta-block =
      covered-encode 0 (omega (arith, laid-size x l))
      ∙ ap (image x) (role-meta sp s x.size l.spares (point-pos x.max_bucket))

  pub number-encode : number_at (encode x) ≡ x.number
  unfolding number_at meta_of
  number-encode =
      let front : List ℕ = meta_front (meta_of x) in
      ap (λ (b : List ℕ). u32_at b 104)
      (paged-parts front (length-meta x l) no_link no_link no_link 8 (block (encode x) 0) meta-block)
      ∙ number-meta_front (meta_of x) _ (length-padded x l) l.number

  pub checked-encode : (k : ℕ) → k < x.size → checked (encode x) k ≡ true
  unfolding checked sealed_block
  checked-encode k h =
      ap₂ (λ (n : ℕ) (b : List ℕ). checks n k b) number-encode (block-encode k h)
      ∙ checks-sealed x.number k (encode_block x k) (omega (arith, (block-whole k).full))

  pub Bytes-encode : Bytes (encode x)
  unfolding encode
  Bytes-encode = go 0 x.size
    where
      go : (i n : ℕ) → Bytes (bind (up_from i n) (sealed_block x))
      go i zero = λ j. omega arith
      go i (suc n) =
          Bytes-append (sealed_block x i) (bind (up_from (suc i) n) (sealed_block x))
          (unfold sealed_block in Bytes-sealed _ i (encode_block x i) (block-whole i).bytes)
          (go (suc i) n)

  pub length_ok-encode : length_ok (encode x) ≡ true
  unfolding length_ok
  length_ok-encode =
      and_both (eqb (length (encode x) % 512) 0) _
      (eq-eqb (length (encode x) % 512) 0 (omega (arith, length-encode)))
      (rw blocks-encode
      (and_both (leb 4 x.size) _ (le-leb 4 x.size (laid-size x l)) (le-leb x.size max_blocks l.size)))
