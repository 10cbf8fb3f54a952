-- A sound store is read as a well-formed index, and is the bytes of it.
use Rattle.std.specs.Prelude.{◌≡◌, Bool, List, [], ◌∷◌, map, ℕ, suc, ◌≤◌, length}
use Rattle.std.proofs.Math.Path.{sym}
use Rattle.std.proofs.Common.{◌∙◌, subst, arith}
use Rattle.std.proofs.Math.Decide.{dec_le}
use Rattle.std.proofs.Math.ListN.{length-map, get_or-eq_default}
use Rattle.lists.specs.Lists.{all, Each}
use Rattle.lists.specs.ListsLaws.{and_left, and_right}
use Rattle.lists.specs.RunLaws.{length_run}
use Rattle.lists.specs.Block.{blocks, block}
use Rattle.lists.specs.BlockLaws.{blocks-ext, Bytes-block}
use Rattle.endian.proofs.EndianLaws.{u32_at-lt}
use Rattle.page.specs.declared.Pair.{Pair}
use Rattle.page.specs.declared.Entry.{Entry}
use Rattle.page.specs.Entries.{entries_of}
use Rattle.page.specs.EntriesLaws.{length-entries_of}
use Rattle.page.specs.Rule.{page_ok}
use Rattle.page.proofs.RuleLaws.{page_ok-allowed}
use Rattle.model.specs.Index.{no_chain, Index, chain, entries_at, bucket, new_bucket, old_bucket}
use Rattle.model.specs.WellFormed.{PageOk, MoreOk, ChainOk, Laid, PlacedIn, WF}
use Rattle.model.specs.ChainOkLaws.{no_chain-ok}
use Rattle.image.specs.Layout.{encode}
use Rattle.image.specs.Decode.{read_meta, max_at, block_of, trail, read_page, read_chain, decode}
use Rattle.image.specs.Rules.{placed, buckets, rule5, rule7}
use Rattle.image.specs.PageOkLaws.{allowed-page}
use Rattle.image.proofs.PairRuleLaws.{rules-placed}
use Rattle.image.proofs.SoundFieldsLaws.{SoundBytes, fields}
use Rattle.image.proofs.SoundChainsLaws.{Links, PageRead, chain-read, chain-decode}
use Rattle.image.proofs.SoundBitsLaws.{uses-made, uses-once}
use Rattle.image.proofs.SoundImagesLaws.{block-decode}
use Rattle.image.proofs.EncodeLaws.{length-encode, block-encode}

module _ (s : List ℕ) (g : SoundBytes s) where
  abbrev x : Index
  x = decode s

  chains-length : length x.chains ≡ suc (max_at s)
  unfolding decode
  chains-length = length-map (buckets s) (read_chain s) ∙ length_run 0 (suc (max_at s))

  -- ---- pages

  page-ok : (k : ℕ) → PageRead s g k → PageOk (entries_of (block s k))
  page-ok k p = allowed-page (entries_of (block s k)) (page_ok-allowed (block s k) p.place.bytes p.rule)

  more-ok : (b k : ℕ) (js : List ℕ) → Links s g b k js → Each (PageRead s g) js → Each MoreOk (map (read_page s) js)
  more-ok b k [] l p = tt
  more-ok b k (j ∷ js) l p = (
    record { used = omega (arith, length-entries_of (block s j), l.0.filled); page = page-ok j p.0 },
    more-ok b j js l.1 p.1,
  )

  chain-ok : (b : ℕ) → ChainOk (chain x b)
  chain-ok b = go (dec_le b (max_at s))
    where
      go : Dec (b ≤ max_at s) → ChainOk (chain x b)
      go (yes h) =
          let c = chain-read s g b h in
          subst ChainOk (sym (chain-decode s g b h))
          (record {
            first = page-ok (block_of s b) c.first;
            more = more-ok b (block_of s b) (trail s b) c.links c.pages;
          })
      go (no h) =
          let past = get_or-eq_default x.chains no_chain {n = b} (omega (arith, chains-length)) in
          subst ChainOk (sym past) no_chain-ok

  -- ---- the layout

  pub decode-laid : Laid (decode s)
  unfolding decode
  decode-laid =
      let f = fields s g in
      record {
        number = unfold read_meta in u32_at-lt (block s 0) (Bytes-block s 0 g.bytes) 104;
        size = g.small;
        fill_low = f.fill_low;
        fill_high = f.fill_high;
        two = f.two;
        spares = f.spares;
        whole = chains-length;
        once = uses-once s g;
        made = uses-made s g;
        pages = chain-ok;
      }

  -- ---- where pairs stand

  abbrev pages_rule : ℕ → Bool
  pages_rule b = all (λ k. page_ok (block s k)) (block_of s b ∷ trail s b)

  abbrev place_rule : ℕ → Bool
  place_rule b =
      all (λ (e : Entry). placed x.job (new_bucket x) (old_bucket x) (bucket x e.pair) b) (entries_at x b)

  decode-placed : (p : Pair) → PlacedIn (decode s) p
  unfolding decode rule5 rule7
  decode-placed p =
      rules-placed (decode s) chains-length
      (and_right (all pages_rule (buckets s)) _ g.passes.five)
      (and_left (all place_rule (buckets s)) _ g.passes.seven)
      (and_right (all place_rule (buckets s)) _ g.passes.seven)
      p

  pub decode-wf : WF (decode s)
  decode-wf = record { laid = decode-laid; placed = decode-placed }

  pub encode-decode : s ≡ encode (decode s)
  unfolding decode
  encode-decode =
      blocks-ext (blocks s) s (encode (decode s)) g.whole (length-encode (decode s) decode-laid)
      (λ k h. block-decode s g k h ∙ sym (block-encode (decode s) decode-laid k h))
