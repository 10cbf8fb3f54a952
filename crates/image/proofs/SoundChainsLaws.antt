-- The chains of a sound store: links and pages, by rules 4 and 5.
use Rattle.std.specs.Prelude.{◌≡◌, eqb, take}
use Rattle.std.proofs.Common.{sym, ◌∙◌}
use Rattle.std.proofs.Math.Path.{ap, subst}
use Rattle.std.proofs.Math.Bool.{Bool, true}
use mathlib.Core.List.{List, [], ◌∷◌, map}
use Rattle.std.proofs.Math.Option.{some}
use Prim.Native.Nat.{ℕ, zero, suc, ◌+◌, ◌≤◌}
use native.Mathlib.Omega.{arith}
use borrow.Author.Tests.{ltb-true, eqb-true}
use Rattle.lists.specs.Lists.{all, up_from, Each}
use Rattle.lists.specs.ListsLaws.{and_left, and_right, each_append}
use Rattle.lists.specs.RunLaws.{all-get, get_or-run}
use Rattle.lists.specs.Block.{block}
use Rattle.endian.specs.Endian.{u16_at}
use Rattle.address.specs.Address.{bucket_block, bit_block}
use Rattle.address.specs.Role.{Role}
use Rattle.page.specs.Entries.{encode_page, entries_of}
use Rattle.page.specs.Rule.{page_ok}
use Rattle.store.specs.Store.{prev_at, next_at, bucket_at, covered}
use Rattle.model.specs.Index.{no_chain, chain}
use Rattle.image.specs.Layout.{paged, LinkedPage, next_of, linked_of, linked_from, overflow_image}
use Rattle.store.specs.Flags.{no_link}
use Rattle.image.specs.Decode.{
  bit_from,
  max_at,
  point_at,
  spares_at,
  role_at,
  block_of,
  trail,
  read_page,
  read_chain,
  decode,
}
use Rattle.image.specs.Rules.{buckets, is_overflow, link_ok, linked, rule4, rule5}
use Rattle.image.specs.PagedLaws.{paged-read}
use Rattle.image.specs.PageOkLaws.{front-page}
use Rattle.image.proofs.SoundFieldsLaws.{SoundBytes}
use Rattle.image.proofs.SoundBlocksLaws.{BlockOk, block-ok, bucket-inside, Overflow, overflow-is}

module _ (s : List ℕ) (g : SoundBytes s) where
  abbrev sp : List ℕ
  sp = spares_at s

  abbrev t : ℕ
  t = point_at s

  -- ---- links

  pub record Link (b k j : ℕ) : Type 0 where
    pub next : next_at (block s k) ≡ j
    pub over : Overflow s g j
    pub back : prev_at (block s j) ≡ k
    pub bucket : bucket_at (block s j) ≡ b
    pub filled : 1 ≤ u16_at (block s j) 0

  -- the chain of bucket b goes on from block k to the blocks js
  abbrev pub Links : ℕ → ℕ → List ℕ → Type 0
  Links b k [] = next_at (block s k) ≡ no_link
  Links b k (j ∷ js) = Link b k j × Links b j js

  links-of : (b k : ℕ) (js : List ℕ) → linked s b k js ≡ true → Links b k js
  unfolding linked
  links-of b k [] h = eqb-true _ _ h
  links-of b k (j ∷ js) h =
      let h₁ = and_right (eqb (next_at (block s k)) j) _ h in
      let o = and_left (link_ok s b k j) _ h₁ in
      let o₁ = and_right (is_overflow s j) _ o in
      let o₂ = and_right (eqb (prev_at (block s j)) k) _ o₁ in (
        record {
          next = eqb-true _ _ (and_left (eqb (next_at (block s k)) j) _ h);
          over = overflow-is s g j (and_left (is_overflow s j) _ o);
          back = eqb-true _ _ (and_left (eqb (prev_at (block s j)) k) _ o₁);
          bucket = eqb-true _ _ (and_left (eqb (bucket_at (block s j)) b) _ o₂);
          filled = ltb-true _ _ (and_right (eqb (bucket_at (block s j)) b) _ o₂);
        },
        links-of b j js (and_right (link_ok s b k j) _ h₁),
      )

  -- the overflow bit of a page gives its block
  pub bit-link : (b k j : ℕ) → Link b k j → bit_block (spares_at s) (point_at s) (bit_from (role_at s j)) ≡ j
  bit-link b k j h = ap (λ (r : Role). bit_block sp t (bit_from r)) h.over.role ∙ h.over.at

  -- the next field leads to the page that the chain has next
  pub next-links : (b k : ℕ) (js : List ℕ) → Links b k js
      → next_at (block s k) ≡ next_of (spares_at s) (point_at s) (map (read_page s) js)
  next-links b k [] h = h
  next-links b k (j ∷ js) h = h.0.next ∙ sym (bit-link b k j h.0)

  -- ---- pages

  pub record PageRead (k : ℕ) : Type 0 where
    pub place : BlockOk s g k
    pub rule : page_ok (block s k) ≡ true

  pub front_read : (k : ℕ) → PageRead k → take 492 (block s k) ≡ encode_page (entries_of (block s k)) []
  front_read k p = front-page (block s k) p.place.bytes p.place.full p.rule

  pages-of : (b k : ℕ) (js : List ℕ) → Links b k js → all (λ j. page_ok (block s j)) js ≡ true → Each PageRead js
  pages-of b k [] l h = tt
  pages-of b k (j ∷ js) l h = (
    record { place = l.0.over.there; rule = and_left (page_ok (block s j)) _ h },
    pages-of b j js l.1 (and_right (page_ok (block s j)) _ h),
  )

  -- ---- a chain

  pub record ChainRead (b : ℕ) : Type 0 where
    pub links : Links b (block_of s b) (trail s b)
    pub first : PageRead (block_of s b)
    pub pages : Each PageRead (trail s b)

  pub chain-read : (b : ℕ) → b ≤ max_at s → ChainRead b
  unfolding rule4 rule5
  chain-read b h =
      let f : ℕ → Bool = λ b. linked s b (block_of s b) (trail s b) in
      let q : ℕ → Bool = λ b. all (λ k. page_ok (block s k)) (block_of s b ∷ trail s b) in
      let l : f b ≡ true =
      all-get f 0 (suc (max_at s)) (and_left (all f (buckets s)) _ g.passes.four) b (omega arith) (omega arith) in
      let p : q b ≡ true =
      all-get q 0 (suc (max_at s)) (and_left (all q (buckets s)) _ g.passes.five) b (omega arith) (omega arith) in
      let ls = links-of b (block_of s b) (trail s b) l in
      record {
        links = ls;
        first =
            record {
              place = block-ok s g (block_of s b) (bucket-inside s g b h);
              rule = and_left (page_ok (block s (block_of s b))) _ p;
            };
        pages = pages-of b (block_of s b) (trail s b) ls (and_right (page_ok (block s (block_of s b))) _ p);
      }

  pub chain-decode : (b : ℕ) → b ≤ max_at s → chain (decode s) b ≡ read_chain s b
  unfolding decode
  chain-decode b h =
      let z : 0 + b ≡ b = omega arith in
      get_or-run (read_chain s) no_chain 0 (suc (max_at s)) b (omega arith) ∙ ap (read_chain s) z

  -- ---- each overflow page of a chain is the image of what is read of it

  unfoldable pub Shown : LinkedPage → Type 0
  Shown h = covered (block s (bit_block (spares_at s) (point_at s) h.bit)) ≡ overflow_image (some h)

  shown : (b k : ℕ) (js : List ℕ) → Links b k js → Each PageRead js
      → Each Shown (linked_of sp t b k (map (read_page s) js))
  unfolding Shown
  shown b k [] h p = tt
  shown b k (j ∷ js) h p =
      let o = h.0.over in
      let w = o.there in
      let e = bit-link b k j h.0 in
      let front = front_read j p.0 in
      let next = next-links b j js h.1 in (
        ap (λ (k : ℕ). covered (block s k)) e ∙ paged-read s j g.bytes w.place o.id
            ∙ (λ i. paged (front i) (h.0.back i) (next i) (h.0.bucket i) (o.flags i)),
        subst (λ (q : ℕ). Each Shown (linked_of sp t b q (map (read_page s) js))) (sym e) (shown b j js h.1 p.1),
      )

  shown-from : (i n : ℕ) → i + n ≤ suc (max_at s) → Each Shown (linked_from sp t i (map (read_chain s) (up_from i n)))
  shown-from i zero h = tt
  shown-from i (suc n) h =
      let c = chain-read i (omega arith) in
      each_append Shown (linked_of sp t i (bucket_block sp i) (map (read_page s) (trail s i)))
      (linked_from sp t (suc i) (map (read_chain s) (up_from (suc i) n)))
      (shown i (bucket_block sp i) (trail s i) c.links c.pages) (shown-from (suc i) n (omega arith))

  pub shown-all : Each Shown (linked_from (spares_at s) (point_at s) 0 (decode s).chains)
  unfolding decode
  shown-all = shown-from 0 (suc (max_at s)) (omega arith)
