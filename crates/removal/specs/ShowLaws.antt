-- The pages of a chain as a draft shows them and as the store has them.
use Rattle.std.specs.Prelude.{◌≡◌, ◌≢◌, Bool, true, false, List, [], ◌∷◌, ◌++◌, ℕ, suc, ◌^◌, ◌≤◌, ◌<◌, length, None}
use Rattle.std.proofs.Math.Path.{sym, ap}
use Rattle.std.proofs.Common.{◌∙◌, subst, arith}
use Rattle.std.proofs.Math.Logic.{⊎_elim}
use Rattle.std.proofs.Math.Bool.{cond}
use Rattle.std.proofs.Math.Decide.{dec_le}
use Rattle.std.proofs.lemmas.List.{length-map}
use Rattle.std.proofs.Math.ListN.{get_or-eq_default}
use Rattle.lists.specs.Lists.{any, Each}
use Rattle.lists.specs.ListsLaws.{each_append}
use Rattle.lists.specs.Block.{blocks, block}
use Rattle.lists.specs.BlockLaws.{length-block}
use Rattle.page.specs.declared.Pair.{Pair}
use Rattle.page.specs.Pair.{is}
use Rattle.page.specs.Entries.{encode_page}
use Rattle.page.specs.Places.{place_of}
use Rattle.store.specs.declared.Change.{Change}
use Rattle.store.specs.Store.{covered}
use Rattle.model.specs.Index.{Page, Chain, idle, Index, entries_in, chain}
use Rattle.model.specs.Pages.{cut}
use Rattle.image.specs.declared.Meta.{Meta}
use Rattle.image.specs.Layout.{flags_of, encode_block}
use Rattle.store.specs.Flags.{no_link}
use Rattle.image.specs.Decode.{decode}
use Rattle.image.specs.PageOkLaws.{length-page_front}
use Rattle.frame.specs.Frame.{block_of_bit, map_block, chain_blocks, page_block, page_entries, page_with, place_image}
use Rattle.frame.specs.Frame.{Apart, place_block, place_entries, pair_place, frees_at, map_blocks, pair_blocks, page_image}
use Rattle.image.proofs.EncodeLaws.{bit-inside}
use Rattle.frame.specs.ImagesLaws.{top_one, page-inside, page-image}
use Rattle.frame.specs.CommitLaws.{in-or-apart}
use Rattle.frame.specs.RemoveLaws.{frame-cut}
use Rattle.frame.specs.ApartLaws.{page-same, page-meta, page-map}
use Rattle.chain.specs.Search.{at_slot}
use Rattle.view.specs.Places.{find_at}
use Rattle.view.specs.ReadsLaws.{reads-laid, reads-size, reads_sized, reads-max}
use Rattle.plan.specs.Sketch.{Sketch}
use Rattle.plan.specs.ShapeLaws.{shaped-paged}
use Rattle.plan.specs.StoreLaws.{page-full, block-is}
use Rattle.draft.specs.DraftLaws.{length-draft}
use Rattle.removal.specs.Cutting.{Shows, ShapedAt, Like, Findable}

pub sketch-wider : {s : List ℕ} {c : Change} {images d : List ℕ} {n : ℕ} {ks : List ℕ} → Sketch s c images d n ks
    → (i : ℕ) → n ≤ i → Sketch s c images d i ks
sketch-wider g i h = record { draft = g.draft; few = omega (arith, g.few); listed = g.listed; rest = g.rest }

-- ---- the same chain of bucket b

module _ {w x : Index} {b : ℕ} (l : Like w b x) where
  like-image : (i : ℕ) → page_image w b i ≡ page_image x b i
  unfolding page_with flags_of
  like-image i =
      sym (λ t. place_image (record {
        size = 0;
        fill = 0;
        number = 0;
        max_bucket = l.max t;
        spares = l.spares t;
        job = l.job t;
        chains = [];
      }) b (l.chain t) i)

  like-block : (i : ℕ) → page_block w b i ≡ page_block x b i
  like-block i =
      sym (λ t. place_block (record {
        size = 0;
        fill = 0;
        number = 0;
        max_bucket = l.max t;
        spares = l.spares t;
        job = idle;
        chains = [];
      }) b (l.chain t) i)

  pub like-found : (p : Pair) → find_at w b p ≡ find_at x b p
  unfolding find_at
  like-found p =
      sym (λ t. let c : Chain = l.chain t in cond (any (is p) (entries_in c)) (at_slot (place_block (record {
        size = 0;
        fill = 0;
        number = 0;
        max_bucket = l.max t;
        spares = l.spares t;
        job = idle;
        chains = [];
      }) b c (pair_place p c)) (place_of p (place_entries c (pair_place p c)))) None)

-- ---- the pages of bucket b's chain

module _ {s : List ℕ} {m : Meta} {c : Change} {images : List ℕ} {n b : ℕ} {p : Pair} {x : Index}
    (f : Findable s m c images n b p x) where
  pub bucket-low : b ≤ x.max_bucket
  bucket-low = omega (arith, f.made, reads-max f.reads, f.like.max)

  pub bucket-fits : b < length x.chains
  bucket-fits = omega (arith, bucket-low, f.like.laid.whole)

  pub size_is : x.size ≡ blocks s
  size_is = f.like.size ∙ sym (reads-size f.reads)

  pub draft-block : (k : ℕ) → k < blocks s → length (block f.sketches.d k) ≡ 512
  draft-block k h =
      let g = f.sketches.sketch.draft in
      length-block f.sketches.d k (omega (arith, length-draft g, g.whole))

  module _ (i : ℕ) (h : i ≤ length (chain x b).more) where
    pub page-within : page_block x b i < blocks s
    page-within = omega (arith, page-inside x f.like.laid b i bucket-low h, size_is)

    pub page-no-meta : page_block x b i ≢ 0
    page-no-meta = page-meta x f.like.laid b i h

    pub page-no-map : page_block x b i ≢ map_block x
    page-no-map = page-map x f.like.laid b i bucket-low h

    pub page-small : length (page_entries x b i) ≤ 40
    page-small = page-full (chain x b) (f.like.laid.pages b) i

    pub store-page : covered (block s (page_block x b i)) ≡ page_image x b i
    store-page =
        let w = decode s in
        let j : i ≤ length (chain w b).more =
        subst (λ (e : Chain). i ≤ length e.more) f.like.chain h in
        let u : page_block w b i < w.size =
        omega (arith, like-block f.like i, page-within, reads-size f.reads) in
        ap (λ (k : ℕ). covered (block s k)) (sym (like-block f.like i))
        ∙ block-is f.reads (page_block w b i) u
        ∙ page-image w (reads-laid f.reads) b i (omega (arith, f.made, reads-max f.reads)) j
        ∙ like-image f.like i

    pub store-shape : ShapedAt x b i (block s (page_block x b i))
    unfolding page_with
    store-shape =
        shaped-paged (encode_page (page_entries x b i) []) _ (page_block x b (suc i)) b _
        (length-page_front (page_entries x b i) page-small)
        (length-block s (page_block x b i) (omega (arith, page-within, (reads_sized f.reads).whole))) store-page

    pub draft-page : ShapedAt x b i (block f.sketches.d (page_block x b i))
    unfolding page_with
    draft-page =
        shaped-paged (encode_page (page_entries x b i) []) _ (page_block x b (suc i)) b _
        (length-page_front (page_entries x b i) page-small)
        (draft-block (page_block x b i) page-within)
        (f.sketches.shows.pages (page_block x b i) (omega (arith, page-within, size_is)) page-no-meta page-no-map
        ∙ page-image x f.like.laid b i bucket-low h)

  -- no page past the chain's end
  page-past : (i : ℕ) → length (chain x b).more < i → page_block x b i ≡ no_link
  page-past i h =
      get_or-eq_default (chain_blocks x b (chain x b)) no_link {n = i}
      (omega (arith, length-map (chain x b).more (λ (g : Page). block_of_bit x g.bit)))

  pub page-in : (i : ℕ) → page_block x b i < blocks s → i ≤ length (chain x b).more
  page-in i l = go (dec_le i (length (chain x b).more))
    where
      go : Dec (i ≤ length (chain x b).more) → i ≤ length (chain x b).more
      go (yes q) = q
      go (no q) = absurd (omega (arith, page-past i (omega arith), (reads_sized f.reads).few))

  -- a link is none or leads to a page
  pub page-link : (i : ℕ) → page_block x b i ≢ no_link → i ≤ length (chain x b).more
  page-link i l = go (dec_le i (length (chain x b).more))
    where
      go : Dec (i ≤ length (chain x b).more) → i ≤ length (chain x b).more
      go (yes q) = q
      go (no q) = absurd (l (page-past i (omega arith)))

  pub page-word : (i : ℕ) → page_block x b i < 2 ^ 32
  page-word i = go (dec_le i (length (chain x b).more))
    where
      go : Dec (i ≤ length (chain x b).more) → page_block x b i < 2 ^ 32
      go (yes q) = omega (arith, page-within i q, (reads_sized f.reads).few)
      go (no q) = omega (arith, page-past i (omega arith))

  pub page-apart : (i j : ℕ) → i ≤ length (chain x b).more → i ≢ j → page_block x b i ≢ page_block x b j
  page-apart i j h ne e =
      ne (page-same x f.like.laid b i b j bucket-low h bucket-low
      (page-in j (omega (arith, page-within i h))) e).1

  pub map-within : map_block x < blocks s
  map-within = omega (arith, bit-inside x f.like.laid 0 (top_one x f.like.laid), size_is)

  -- ---- a draft d' that differs in the blocks of the pair alone, which are those of the index without it

  module _ (e : Bool) (frees : frees_at x b p ≡ e) (d' : List ℕ)
      (rest : (j : ℕ) → j < blocks s → Apart j (pair_blocks e x b (chain x b) p)
      → block d' j ≡ block f.sketches.d j)
    where
      no-map : (e : Bool) (j : ℕ) → j ≢ map_block x → Apart j (map_blocks e x)
      no-map true j ne = (ne, tt)
      no-map false j ne = tt

      framed : (j : ℕ) → j ≢ 0 → j ≢ map_block x → Apart j (pair_blocks e x b (chain x b) p)
          → encode_block (cut p b x) j ≡ encode_block x j
      framed j nz nm a =
          frame-cut x f.like.laid b bucket-fits p f.once j
          (subst (λ (e : Bool). Apart j (0 ∷ map_blocks e x ++ pair_blocks e x b (chain x b) p)) (sym frees)
          (nz, each_append (λ (i : ℕ). j ≢ i) (map_blocks e x) _ (no-map e j nm) a))

      pub shows-cut : Each (λ (j : ℕ). j < blocks s → covered (block d' j) ≡ encode_block (cut p b x) j)
          (pair_blocks e x b (chain x b) p)
          → Apart 0 (pair_blocks e x b (chain x b) p) → Apart (map_block x) (pair_blocks e x b (chain x b) p)
          → Shows s d' (cut p b x)
      unfolding cut
      shows-cut shown am ab =
          record {
            pages =
                λ j l nz nm.
                let u : j < blocks s = omega (arith, size_is) in
                ⊎_elim (λ q. q u)
                (λ a. ap covered (rest j u a) ∙ f.sketches.shows.pages j l nz nm ∙ sym (framed j nz nm a))
                (in-or-apart (λ (j : ℕ). j < blocks s → covered (block d' j) ≡ encode_block (cut p b x) j) j
                (pair_blocks e x b (chain x b) p) shown);
            meta = rest 0 (omega (arith, map-within)) am ∙ f.sketches.shows.meta;
            map = rest (map_block x) map-within ab ∙ f.sketches.shows.map;
          }
