-- The chain of a bucket by its blocks: the walk from the bucket's page, and the entries page by page.
use Rattle.std.specs.Prelude.{◌≡◌, true, List, [], ◌∷◌, map, ℕ, zero, suc, ◌≤◌, ◌<◌, length, get_or, take}
use Rattle.std.proofs.Math.Path.{refl}
use Rattle.std.proofs.Common.{sym, ap, ◌∙◌, subst, arith}
use Rattle.std.proofs.lemmas.List.{length-map}
use Rattle.lists.specs.Lists.{all, bind, Each}
use Rattle.lists.specs.RunLaws.{all-get}
use Rattle.lists.specs.Block.{blocks, block}
use Rattle.address.specs.Address.{bucket_block}
use Rattle.page.specs.Rule.{page_ok}
use Rattle.model.specs.Index.{Page, Chain, Index, chain, entries_at}
use Rattle.model.proofs.BoundLaws.{bits-le, laid-room}
use Rattle.image.specs.declared.Meta.{Meta}
use Rattle.image.specs.Layout.{encode}
use Rattle.store.specs.Flags.{no_link}
use Rattle.image.specs.Decode.{max_at, block_of, trail, read_page, read_chain, decode}
use Rattle.frame.specs.Frame.{block_of_bit, blocks_after, chain_blocks, page_block, place_entries, page_entries}
use Rattle.lists.specs.TestLaws.{each_all}
use Rattle.image.proofs.BoundLaws.{bits-part}
use Rattle.image.proofs.EncodePagesLaws.{max-encode}
use Rattle.image.proofs.EncodeDecodeLaws.{trail-encode}
use Rattle.image.proofs.EncodeChainsLaws.{pages_rule, pages-encode}
use Rattle.frame.specs.ListsLaws.{get_d_map}
use Rattle.frame.specs.ImagesLaws.{page-inside}
use Rattle.chain.specs.Walk.{walk, Walked, Bounded}
use Rattle.chain.specs.WalkLaws.{walk-trail, walk-few}
use Rattle.chain.specs.Within.{entries_on, PagesOk, Within}
use Rattle.chain.proofs.DecodeLaws.{chain-decode, entries-walk}
use Rattle.view.specs.Reads.{Reads}
use Rattle.view.specs.ReadsLaws.{reads-laid, reads_sized, reads-size, reads-max}

module _ {s : List ℕ} {m : Meta} (r : Reads s m) (b : ℕ) (made : b ≤ m.max) where
  abbrev x : Index
  x = decode s

  under : b ≤ (decode s).max_bucket
  under = omega (arith, reads-max r)

  pub under-max : b ≤ max_at s
  unfolding decode
  under-max = under

  -- ---- its blocks

  pub trail-read : trail s b ≡ blocks_after (decode s) (chain (decode s) b).more
  trail-read = ap (λ (t : List ℕ). trail t b) r.bytes ∙ trail-encode x r.wf b under

  first_read : block_of s b ≡ bucket_block (decode s).spares b
  unfolding decode
  first_read = refl

  pub walk-read : walk s (block_of s b) ≡ chain_blocks (decode s) b (chain (decode s) b)
  walk-read =
      sym (walk-trail s b) ∙ ap (λ (k : ℕ). k ∷ trail s b) first_read
      ∙ ap (λ (ks : List ℕ). bucket_block x.spares b ∷ ks) trail-read

  pub blocks-inside : Each (λ k. k < blocks s) (chain_blocks (decode s) b (chain (decode s) b))
  blocks-inside =
      each_all (λ k. k < blocks s) no_link (chain_blocks x b (chain x b)) (λ i h.
      rw (reads-size r) (page-inside x (reads-laid r) b i under
      (omega (arith, length-map (chain x b).more (λ (g : Page). block_of_bit x g.bit)))))

  -- no chain has more blocks than the store
  pub walk-bounded : Bounded s (block_of s b)
  walk-bounded =
      let l = reads-laid r in
      let k : b < length x.chains = omega (arith, l.whole, reads-max r) in
      record {
        inside = subst (Each (λ k. k < blocks s)) (sym walk-read) blocks-inside;
        short =
            omega (
              arith,
              ap length walk-read,
              length-map (chain x b).more (λ (g : Page). block_of_bit x g.bit),
              bits-part x.chains b k,
              bits-le x l,
              laid-room x l,
              reads-size r,
            );
      }

  pub pages-read : PagesOk s (chain_blocks (decode s) b (chain (decode s) b))
  pages-read =
      let l = r.wf in
      let rule : pages_rule x l b ≡ true =
      all-get (pages_rule x l) 0 (suc (max_at (encode x))) (pages-encode x l) b (omega arith)
      (omega (arith, under, max-encode x l)) in
      let here : all (λ k. page_ok (block s k)) (block_of s b ∷ trail s b) ≡ true =
      subst (λ (t : List ℕ). all (λ k. page_ok (block t k)) (block_of t b ∷ trail t b) ≡ true) (sym r.bytes) rule in
      subst (PagesOk s) (walk-trail s b ∙ walk-read) here

  pub entries-read : bind (chain_blocks (decode s) b (chain (decode s) b)) (entries_on s) ≡ entries_at (decode s) b
  entries-read = ap (λ (ks : List ℕ). bind ks (entries_on s)) (sym walk-read) ∙ entries-walk s b under-max

  -- the page at place i of the chain
  pub page-read : (i : ℕ) → i ≤ length (chain (decode s) b).more
      → entries_on s (page_block (decode s) b i) ≡ page_entries (decode s) b i
  page-read i h =
      ap (λ (ks : List ℕ). entries_on s (get_or ks i no_link)) (sym (walk-trail s b ∙ walk-read))
      ∙ go i (omega (arith, ap length trail-read, length-map (chain x b).more (λ (g : Page). block_of_bit x g.bit)))
      ∙ ap (λ (c : Chain). place_entries c i) (sym (chain-decode s b under-max))
    where
      go : (j : ℕ) → j ≤ length (trail s b)
          → entries_on s (get_or (block_of s b ∷ trail s b) j no_link) ≡ place_entries (read_chain s b) j
      go zero l = refl
      go (suc j) l =
          sym (get_d_map (λ (g : Page). g.entries) (map (read_page s) (trail s b)) j (read_page s no_link) []
          (omega (arith, length-map (trail s b) (read_page s)))
          ∙ ap (λ (g : Page). g.entries) (get_d_map (read_page s) (trail s b) j no_link (read_page s no_link) l))

  -- ---- its blocks, as they are lent

  module _ (ks : List ℕ) (e : ks ≡ chain_blocks (decode s) b (chain (decode s) b)) where
    pub blocks-within : Within s ks
    blocks-within =
        let size = ap length (e ∙ sym walk-read) in
        record {
          few = omega (arith, size, walk-few s (block_of s b), (reads_sized r).few);
          inside = subst (Each (λ k. k < blocks s)) (sym e) blocks-inside;
        }

    pub blocks-pages : PagesOk s ks
    blocks-pages = subst (PagesOk s) (sym e) pages-read

  -- ---- a walk of it

  module _ {bs : List ℕ} {n : ℕ} (held : Walked s (block_of s b) bs n) where
    pub walks-blocks : take n bs ≡ chain_blocks (decode s) b (chain (decode s) b)
    walks-blocks = held.blocks ∙ walk-read

    pub walks-count : n ≡ length (take n bs)
    walks-count = held.count ∙ ap length (sym held.blocks)

    pub walks-within : Within s (take n bs)
    walks-within = blocks-within (take n bs) walks-blocks

    pub walks-pages : PagesOk s (take n bs)
    walks-pages = blocks-pages (take n bs) walks-blocks
