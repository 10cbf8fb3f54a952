-- A pair that stands in a chain of the index that a draft shows: its page, and the draft after it is taken out.
use Rattle.std.specs.Prelude.{◌≡◌, refl, ◌≢◌, Bool, true, false, not, ℕ, zero, suc, ◌+◌, ◌≤◌, ◌<◌, length, get_or}
use Rattle.std.proofs.Math.Path.{sym, ap}
use Rattle.std.proofs.Common.{◌∙◌, subst, arith}
use mathlib.Core.List.{List, [], ◌∷◌, ◌++◌}
use Rattle.lists.specs.Block.{blocks, block, set_block}
use Rattle.endian.specs.Endian.{u16_at}
use Rattle.address.specs.Address.{point, last_split}
use Rattle.address.specs.Role.{bucket_page, bit_page, role_of}
use Rattle.address.specs.BlockLaws.{point-pos}
use Rattle.address.specs.RoleLaws.{role-only}
use Rattle.page.specs.declared.Pair.{Pair}
use Rattle.page.specs.declared.Entry.{Entry}
use Rattle.page.specs.Pair.{is}
use Rattle.page.specs.Entries.{encode_page}
use Rattle.page.specs.Places.{remove_at}
use Rattle.page.specs.Gap.{Held}
use Rattle.page.specs.PageLaws.{number-page}
use Rattle.page.specs.SublistLaws.{sublist-keep, length-sublist}
use Rattle.store.specs.declared.Change.{Change}
use Rattle.store.specs.Store.{trailer, covered}
use Rattle.model.specs.Index.{Index, chain}
use Rattle.model.specs.Pages.{thin_entries, cut}
use Rattle.model.specs.WellFormed.{PageOk, Laid}
use Rattle.model.proofs.MachineLaws.{never}
use Rattle.image.specs.declared.Meta.{Meta}
use Rattle.image.specs.Layout.{paged, flags_of, encode_block}
use Rattle.image.proofs.BoundLaws.{max-under}
use Rattle.image.specs.PageOkLaws.{length-page_front}
use Rattle.frame.specs.Frame.{chain_blocks, page_block, page_entries, prev_in, flags_for, page_with}
use Rattle.frame.specs.Frame.{pair_place, frees_at}
use Rattle.frame.specs.ImagesLaws.{no_page, page-made, page-block}
use Rattle.frame.specs.CutPagesLaws.{thin-image}
use Rattle.view.specs.HeldLaws.{FoundAt, find_at-at}
use Rattle.draft.specs.Draft.{Draft, PageEdited}
use Rattle.draft.specs.ShapeLaws.{held-page}
use Rattle.plan.specs.ShapeLaws.{shaped-page, shaped-length, shaped-entries, covered-entries}
use Rattle.plan.specs.SketchLaws.{page-edited, sketch-here, sketch-there, sketch-more}
use Rattle.std.specs.Prelude.{Some, None}
use Rattle.removal.specs.Freeing.{emptied, freed_if, freed_at}
use Rattle.removal.specs.Cutting.{Shows, ShapedAt, Sketches, Findable, Cuttable}
use Rattle.removal.specs.PairLaws.{slot-inside, remove-thin, page-ok, place_role, PairAt, pair-at}
use Rattle.removal.specs.FieldLaws.{role-read}
use Rattle.removal.specs.ShowLaws.{bucket-low, bucket-fits, sketch-wider, page-within, page-no-meta}
use Rattle.removal.specs.ShowLaws.{page-no-map, store-shape, draft-page, shows-cut}

module _ {s : List ℕ} {m : Meta} {c : Change} {images : List ℕ} {k slot n b : ℕ} {p : Pair} {x : Index}
    (h : Cuttable s m c images k slot n b p x) where
  abbrev f : Findable s m c images n b p x
  f = h.findable

  -- the place of its page
  abbrev place : ℕ
  place = pair_place p (chain x b)

  there : FoundAt x b p k slot
  there = find_at-at x b p k slot h.found

  pub stands_at : PairAt p b (chain x b) (pair_place p (chain x b))
  stands_at = pair-at p b (chain x b) f.once there.stands

  pub block_at : k ≡ page_block x b (pair_place p (chain x b))
  block_at = there.block

  pub block_within : k < blocks s
  block_within = omega (arith, block_at, page-within f place stands_at.inside)

  abbrev es : List Entry
  es = page_entries x b place

  ok : PageOk (page_entries x b (pair_place p (chain x b)))
  ok = page-ok (chain x b) (f.like.laid.pages b) place stands_at.inside

  full : length (encode_page (page_entries x b (pair_place p (chain x b))) []) ≡ 492
  full = length-page_front es ok.full

  -- ---- the bit that is freed

  abbrev laid : Laid x
  laid = f.like.laid

  abbrev sp : List ℕ
  sp = x.spares

  abbrev v : ℕ
  v = point x.max_bucket

  pos : 1 ≤ point x.max_bucket
  pos = point-pos x.max_bucket

  role-at : (i : ℕ) → i ≤ length (chain x b).more
      → role_of x.spares (point x.max_bucket) (page_block x b i) ≡ place_role b (chain x b) i
  role-at zero l =
      role-only sp v x.size laid.spares pos _ (bucket_page b)
      (omega (arith, max-under x laid, bucket-low f), refl)
  role-at (suc i) l =
      role-only sp v x.size laid.spares pos _ (bit_page (get_or (chain x b).more i no_page).bit)
      ((page-made x laid b i l).1, sym (page-block x laid b i l))

  role-here : role_of m.spares m.point k ≡ place_role b (chain x b) (pair_place p (chain x b))
  role-here =
      role-read f.reads k ∙ sym (λ t. role_of (f.like.spares t) (point (f.like.max t)) k)
      ∙ ap (role_of sp v) block_at
      ∙ role-at place stands_at.inside

  count-here : u16_at (block s k) 0 ≡ length (page_entries x b (pair_place p (chain x b)))
  count-here =
      let q = store-shape f place stands_at.inside in
      ap (λ (j : ℕ). u16_at (block s j) 0) block_at
      ∙ number-page (block s (page_block x b place)) es _ (shaped-length full q) (shaped-page es q)

  pub emptied-here : emptied (role_of m.spares m.point k) (u16_at (block s k) 0) ≡ freed_at x b p
  emptied-here =
      (λ t. emptied (role-here t) (count-here t)) ∙ stands_at.empties

  -- ---- where its page stays

  abbrev prev : ℕ
  prev = prev_in (last_split x.max_bucket b) (chain_blocks x b (chain x b)) place

  abbrev next : ℕ
  next = page_block x b (suc place)

  abbrev flags : ℕ
  flags = flags_for (flags_of x b) place

  abbrev d : List ℕ
  d = f.sketches.d

  -- the page in the draft
  pub page-here : ShapedAt x b (pair_place p (chain x b)) (block h.findable.sketches.d k)
  page-here =
      subst (λ (j : ℕ). ShapedAt x b place (block d j)) (sym block_at) (draft-page f place stands_at.inside)

  pub held-here : Held (block h.findable.sketches.d k) slot
  held-here =
      let q = page-here in
      held-page (block d k) es _ (shaped-length full q) (shaped-page es q) slot ok.full
      (omega (arith, there.slot, slot-inside p es ok stands_at.has))

  removed : remove_at slot (page_entries x b (pair_place p (chain x b)))
      ≡ thin_entries p (page_entries x b (pair_place p (chain x b)))
  removed = ap (λ (i : ℕ). remove_at i es) there.slot ∙ remove-thin p es ok stands_at.has

  module _ (stays : frees_at x b p ≡ false) where
    -- the page without the pair's entry
    pub thinned : List ℕ
    thinned = encode_page (remove_at slot es) (trailer prev next b flags ++ page-here.rest)

    few : length (remove_at slot (page_entries x b (pair_place p (chain x b)))) ≤ 40
    few = omega (arith, ap length removed, length-sublist (sublist-keep (λ e. not (is p e)) es), ok.full)

    covered-thinned : covered thinned
        ≡ encode_block (cut p b x) (page_block x b (pair_place p (chain x b)))
    unfolding thinned page_with
    covered-thinned =
        covered-entries es page-here (remove_at slot es) few
        ∙ ap (λ (fs : List Entry). paged (encode_page fs []) prev next b flags) removed
        ∙ sym (thin-image x laid b (bucket-fits f) p f.once stays place stands_at.inside)

    pub shows-thinned : (d' : List ℕ) → block d' k ≡ thinned
        → ((j : ℕ) → j < blocks s → j ≢ k → block d' j ≡ block h.findable.sketches.d j) → Shows s d' (cut p b x)
    shows-thinned d' here rest =
        let i = stands_at.inside in
        shows-cut f false stays d' (λ j l a. rest j l (λ q. a.0 (q ∙ block_at)))
        ((λ l. ap (λ (j : ℕ). covered (block d' j)) (sym block_at) ∙ ap covered here ∙ covered-thinned), tt)
        ((λ q. page-no-meta f place i (sym q)), tt)
        ((λ q. page-no-map f place i (sym q)), tt)

    full-thinned : length thinned ≡ 512
    unfolding thinned
    full-thinned =
        let fs : List Entry = remove_at slot es in
        shaped-length (length-page_front fs few) (shaped-entries es page-here fs)

    pub sketches-thinned : {r : Change} {images' : List ℕ} → PageEdited s c images k (remove_at slot) r images'
        → Sketches s r images' (n + 3) (cut p b x)
    unfolding thinned
    sketches-thinned {r} {images'} e =
        let g = f.sketches.sketch in
        let draft : Draft s r images' (set_block d k thinned) = page-edited g e es _ (shaped-page es page-here) in
        record {
          d = set_block d k thinned;
          ks = k ∷ f.sketches.ks;
          sketch =
              sketch-wider (sketch-more g k block_within thinned full-thinned e.lists draft) (n + 3) (omega arith);
          shows =
              shows-thinned (set_block d k thinned) (sketch-here g k block_within thinned full-thinned)
              (sketch-there g k block_within thinned full-thinned);
        }

-- ---- what is freed tells whether the page stays

pub freed-some : (x : Index) (b : ℕ) (p : Pair) (i : ℕ) → freed_at x b p ≡ Some i → frees_at x b p ≡ true
freed-some x b p i e = go (frees_at x b p) refl e
  where
    go : (t : Bool) → frees_at x b p ≡ t
        → freed_if t (chain x b).more p ≡ Some i
        → frees_at x b p ≡ true
    go true q e = q
    go false q e = never (cc)

pub freed-none : (x : Index) (b : ℕ) (p : Pair) → freed_at x b p ≡ None → frees_at x b p ≡ false
freed-none x b p e = go (frees_at x b p) refl e
  where
    go : (t : Bool) → frees_at x b p ≡ t
        → freed_if t (chain x b).more p ≡ None
        → frees_at x b p ≡ false
    go true q e = never (cc)
    go false q e = q
