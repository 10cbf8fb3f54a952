-- A pair whose overflow page is left empty: the page is unlinked and made unused.
use Rattle.std.specs.Prelude.{◌≡◌, ◌≢◌, true, List, [], ℕ, suc, ◌+◌, ◌≤◌, ◌<◌, length}
use Rattle.std.proofs.Math.Path.{sym, ap}
use Rattle.std.proofs.Common.{◌∙◌, arith}
use Rattle.std.proofs.Math.Seq.{sets}
use Rattle.lists.specs.Block.{blocks, block}
use Rattle.endian.specs.Endian.{le32}
use Rattle.page.specs.declared.Pair.{Pair}
use Rattle.page.specs.Entries.{encode_page}
use Rattle.store.specs.declared.Change.{Change}
use Rattle.store.specs.Store.{prev_at, next_at, covered}
use Rattle.model.specs.Index.{Index, chain}
use Rattle.model.specs.Pages.{cut}
use Rattle.image.specs.declared.Meta.{Meta}
use Rattle.image.specs.Layout.{encode_block}
use Rattle.store.specs.Flags.{no_link}
use Rattle.image.specs.PagedLaws.{prev-paged, next-paged}
use Rattle.image.specs.PageOkLaws.{length-page_front}
use Rattle.frame.specs.Frame.{map_block, page_block, page_entries, page_with, more_place, frees_at}
use Rattle.frame.specs.FreedLaws.{before-image, after-image, freed-image}
use Rattle.view.specs.ReadsLaws.{reads_sized}
use Rattle.draft.specs.ShapeLaws.{covered-blank}
use Rattle.plan.specs.ShapeLaws.{shaped-covered, shaped-prev, shaped-next}
use Rattle.removal.specs.Freeing.{Freeable, Freeing}
use Rattle.removal.specs.Cutting.{Shows, Sketches, Findable, Cuttable}
use Rattle.removal.specs.ShowLaws.{bucket-fits, page-within, page-small, page-no-meta, page-no-map, store-page}
use Rattle.removal.specs.ShowLaws.{draft-page, page-in, page-link, page-word, page-apart, map-within, shows-cut}
use Rattle.removal.specs.CutLaws.{stands_at, block_at, block_within}

module _ {s : List ℕ} {m : Meta} {c : Change} {images : List ℕ} {k slot n b : ℕ} {p : Pair} {x : Index}
    (h : Cuttable s m c images k slot n b p x) (goes : frees_at x b p ≡ true) where
  abbrev f : Findable s m c images n b p x
  f = h.findable

  -- the place of the page before it
  abbrev j : ℕ
  j = more_place p (chain x b).more

  block-freed : k ≡ page_block x b (suc (more_place p (chain x b).more))
  block-freed = block_at h ∙ ap (page_block x b) ((stands_at h).over goes)

  inside : suc (more_place p (chain x b).more) ≤ length (chain x b).more
  inside = omega (arith, (stands_at h).over goes, (stands_at h).inside)

  low : more_place p (chain x b).more ≤ length (chain x b).more
  low = omega (arith, inside)

  prev-is : prev_at (block s k) ≡ page_block x b (more_place p (chain x b).more)
  unfolding page_with
  prev-is =
      ap (λ (i : ℕ). prev_at (block s i)) block-freed
      ∙ prev-paged (encode_page (page_entries x b (suc j)) []) (length-page_front _ (page-small f (suc j) inside)) _ _ _ _
      (block s (page_block x b (suc j))) (store-page f (suc j) inside) (page-word f j)

  next-is : next_at (block s k) ≡ page_block x b (suc (suc (more_place p (chain x b).more)))
  unfolding page_with
  next-is =
      ap (λ (i : ℕ). next_at (block s i)) block-freed
      ∙ next-paged (encode_page (page_entries x b (suc j)) []) (length-page_front _ (page-small f (suc j) inside)) _ _ _ _
      (block s (page_block x b (suc j))) (store-page f (suc j) inside) (page-word f (suc (suc j)))

  -- ---- it can be freed

  pub freeable : Freeable s c images k h.findable.sketches.d n
  freeable =
      record {
        ks = f.sketches.ks;
        sketch = f.sketches.sketch;
        few = f.few;
        inside = block_within h;
        before = omega (arith, prev-is, page-within f j low);
        after =
            λ q.
            let i : ℕ = suc (suc j) in
            omega (arith, next-is, page-within f i (page-link f i (λ e. q (next-is ∙ e))));
        apart = (
          (λ e. page-apart f j (suc j) low (λ q. omega arith) (sym prev-is ∙ e ∙ block-freed)),
          (λ e. page-apart f (suc j) (suc (suc j)) inside (λ q. omega arith) (sym block-freed ∙ sym e ∙ next-is)),
          (λ e. page-apart f j (suc (suc j)) low (λ q. omega arith) (sym prev-is ∙ sym e ∙ next-is)),
        );
      }

  -- ---- and is

  module _ {r : Change} {images' : List ℕ} (g : Freeing s r images' k h.findable.sketches.d n) where
    full : (i : ℕ) → i ≤ length (chain x b).more → length (encode_page (page_entries x b i) []) ≡ 492
    full i l = length-page_front (page_entries x b i) (page-small f i l)

    before-shown : covered (block g.d' (page_block x b (more_place p (chain x b).more)))
        ≡ encode_block (cut p b x) (page_block x b (more_place p (chain x b).more))
    unfolding page_with
    before-shown =
        ap covered
        (ap (block g.d') (sym prev-is) ∙ g.before
        ∙ (λ t. sets (block f.sketches.d (prev-is t)) 496 (le32 (next-is t))))
        ∙ shaped-covered (full j low) (shaped-next (full j low) (draft-page f j low) (page_block x b (suc (suc j))))
        ∙ sym (before-image x f.like.laid b (bucket-fits f) p f.once goes)

    here-shown : covered (block g.d' (page_block x b (suc (more_place p (chain x b).more))))
        ≡ encode_block (cut p b x) (page_block x b (suc (more_place p (chain x b).more)))
    here-shown =
        ap covered (ap (block g.d') (sym block-freed) ∙ g.here)
        ∙ covered-blank _
        ∙ sym (freed-image x f.like.laid b (bucket-fits f) p f.once goes)

    after-shown : suc (more_place p (chain x b).more) < length (chain x b).more
        → covered (block g.d' (page_block x b (suc (suc (more_place p (chain x b).more)))))
        ≡ encode_block (cut p b x) (page_block x b (suc (suc (more_place p (chain x b).more))))
    after-shown l =
        let i : ℕ = suc (suc j) in
        let ne : next_at (block s k) ≢ no_link =
        λ e. omega (arith, e, next-is, page-within f i l, (reads_sized f.reads).few) in
        ap covered
        (ap (block g.d') (sym next-is) ∙ g.after ne
        ∙ (λ t. sets (block f.sketches.d (next-is t)) 492 (le32 (prev-is t))))
        ∙ shaped-covered (full i l) (shaped-prev (full i l) (draft-page f i l) (page_block x b j))
        ∙ sym (after-image x f.like.laid b (bucket-fits f) p f.once goes l)

    -- a block of the store that is no page of the chain
    off : (t : ℕ) → t < blocks s → ((i : ℕ) → i ≤ length (chain x b).more → page_block x b i ≢ t)
        → (i : ℕ) → t ≢ page_block x b i
    off t l none i e = none i (page-in f i (omega (arith, e, l))) (sym e)

    pub shows-freed : Shows s g.d' (cut p b x)
    shows-freed =
        let zero = off 0 (omega (arith, block_within h)) (page-no-meta f) in
        let map = off (map_block x) (map-within f) (page-no-map f) in
        shows-cut f true goes g.d'
        (λ i l a.
        g.rest i l (λ q. a.1.0 (q ∙ block-freed)) (λ q. a.0 (q ∙ prev-is)) (λ q. a.1.1.0 (q ∙ next-is)))
        ((λ l. before-shown), ((λ l. here-shown), ((λ l. after-shown (page-in f (suc (suc j)) l)), tt)))
        (zero j, (zero (suc j), (zero (suc (suc j)), tt)))
        (map j, (map (suc j), (map (suc (suc j)), tt)))

    pub sketches-freed : Sketches s r images' (n + 3) (cut p b x)
    sketches-freed = record { d = g.d'; ks = g.ks; sketch = g.sketch; shows = shows-freed }
