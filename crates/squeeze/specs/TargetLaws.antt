-- The page that an entry is moved to: the first with room of the chain, and of the chain without the entry.
use Rattle.std.specs.Prelude.{◌≡◌, ◌≢◌, true, List, [], ◌∷◌, ◌++◌, ℕ, ◌≤◌, ◌<◌, length, get_or}
use Rattle.std.proofs.Math.Path.{sym, ap}
use Rattle.std.proofs.Common.{◌∙◌, subst, arith, ltb-true}
use Rattle.std.proofs.lemmas.List.{map-append, length-map}
use Rattle.std.proofs.Math.Option.{Option}
use Rattle.std.proofs.Math.ListN.{get_or-append}
use Rattle.lists.specs.Lists.{tally}
use Rattle.lists.specs.Block.{blocks, block}
use Rattle.page.specs.declared.Entry.{Entry}
use Rattle.page.specs.Pair.{is}
use Rattle.page.specs.Entries.{entries_of}
use Rattle.page.specs.Rule.{page_ok}
use Rattle.page.specs.Allowed.{Sorted}
use Rattle.page.proofs.RuleLaws.{page_ok-sorted}
use Rattle.page.specs.SublistLaws.{all-each, each-get_or}
use Rattle.store.specs.Flags.{no_link}
use Rattle.model.specs.Index.{Page, Chain, Index, chain, entries_at}
use Rattle.model.specs.Pages.{chain_room, cut}
use Rattle.model.specs.Held.{count}
use Rattle.model.specs.Steps.{next}
use Rattle.model.specs.Squeeze.{moved_to, squeeze_in, squeeze_step}
use Rattle.model.specs.WellFormed.{WF, Laid}
use Rattle.model.proofs.SqueezeLaws.{Moving, mover-is, behind, rest, page, pages, without_is, without-room}
use Rattle.model.proofs.SqueezeStepLaws.{squeeze-wf, squeeze-count}
use Rattle.image.specs.declared.Meta.{Meta}
use Rattle.image.specs.Decode.{decode}
use Rattle.frame.specs.Frame.{block_of_bit, map_block, chain_blocks, page_block, entries_after, place_entries, page_entries}
use Rattle.frame.specs.Frame.{room_place}
use Rattle.frame.specs.ApartLaws.{page-meta, page-map}
use Rattle.frame.specs.BehindLaws.{behind-place, place_inside, front-place, front-inside}
use Rattle.frame.specs.ImagesLaws.{page-inside}
use Rattle.frame.specs.PagesLaws.{room_at}
use Rattle.frame.specs.RemoveLaws.{stands-once}
use Rattle.frame.specs.SqueezeLaws.{fits-z, laid-z, chain-z, again, target}
use Rattle.view.specs.ReadsLaws.{reads-laid, reads-size, reads-max, reads-count, reads-block}
use Rattle.view.specs.ChainLaws.{pages-read, page-read}
use Rattle.insertion.specs.Put.{entered, room_block}
use Rattle.squeeze.specs.Move.{Movable}

-- pages behind a chain change no page of it
behind-entries : (hs : List Page) (c : Chain) (i : ℕ) → i ≤ length c.more
    → place_entries (behind hs c) i ≡ place_entries c i
behind-entries hs c i h =
    ap (λ (ess : List (List Entry)). get_or (c.first ∷ ess) i []) (map-append (λ (g : Page). g.entries) c.more hs)
    ∙ get_or-append (c.first ∷ entries_after c.more) (entries_after hs) [] i
    (omega (arith, length-map c.more (λ (g : Page). g.entries)))

module _ {s : List ℕ} {m : Meta} {b : ℕ} {e : Entry} {last slot k : ℕ} (h : Movable s m b e last slot k) where
  abbrev x : Index
  x = decode s

  -- without the entry
  abbrev z : Index
  z = cut e.pair b x

  wf : WF (decode s)
  wf = h.reads.wf

  pub once : tally (is e.pair) (entries_at (decode s) b) ≤ 1
  once = stands-once x wf e.pair b

  low : b ≤ x.max_bucket
  low = omega (arith, h.made, reads-max h.reads)

  pub fits : b < length (decode s).chains
  fits = omega (arith, low, (reads-laid h.reads).whole)

  pub cut_fits : b < length (cut e.pair b (decode s)).chains
  cut_fits = fits-z x wf b e h.moves

  pub laid-cut : Laid (cut e.pair b (decode s))
  laid-cut = laid-z x wf b e h.moves

  pub cut_low : b ≤ (cut e.pair b (decode s)).max_bucket
  unfolding cut
  cut_low = low

  pub cut-size : (cut e.pair b (decode s)).size ≡ blocks s
  unfolding cut
  cut-size = sym (reads-size h.reads)

  -- ---- the index after the step

  pub moved-is : entered (cut e.pair b (decode s)) b e ≡ moved_to (decode s) b e
  moved-is = again x wf b e h.moves

  step_is : squeeze_step b x ≡ next (moved_to x b e)
  unfolding squeeze_step
  step_is = ap (λ (o : Option Entry). squeeze_in o b x) h.moves

  pub moved-wf : WF (entered (cut e.pair b (decode s)) b e)
  moved-wf = subst WF (sym moved-is) (squeeze-wf b x (moved_to x b e) wf step_is)

  pub moved-count : count (entered (cut e.pair b (decode s)) b e) ≡ m.count
  moved-count =
      ap count moved-is ∙ squeeze-count b x (moved_to x b e) wf step_is ∙ sym (reads-count h.reads)

  -- ---- the page with room, of the chain and of the chain without the entry

  mv : Moving (chain x b) e
  mv = mover-is (chain x b) e h.moves

  abbrev front : Chain
  front = pages (chain x b).first mv.before

  abbrev left : List Page
  left = rest mv.bit mv.entries

  abbrev whole : List Page
  whole = page mv.bit (mv.entries ++ e ∷ []) ∷ []

  shape-cut : chain z b ≡ behind left front
  unfolding mv
  shape-cut = chain-z x wf b e h.moves

  pub room_cut : chain_room (chain (cut e.pair b (decode s)) b) ≡ true
  room_cut =
      let ok = (reads-laid h.reads).pages b in
      ap chain_room (shape-cut ∙ sym (without_is (chain x b) e ok once mv)) ∙ without-room (chain x b) e ok once mv

  place-cut : room_place (chain z b) ≡ room_place front
  place-cut = ap room_place shape-cut ∙ behind-place left front mv.room

  inside : room_place (chain x b) ≤ length (chain x b).more
  inside = place_inside e (chain x b) h.room.room

  pub inside-cut : let z = cut e.pair b (decode s) in room_place (chain z b) ≤ length (chain z b).more
  inside-cut = place_inside e (chain z b) room_cut

  pub target_is : k ≡ room_block (cut e.pair b (decode s)) b
  target_is =
      h.room.page ∙ ap (page_block x b) (front-place mv ∙ ap room_place (sym mv.early))
      ∙ sym (target x wf b e h.moves)

  entries-same : page_entries x b (room_place (chain x b)) ≡ page_entries z b (room_place (chain z b))
  entries-same =
      (λ t. place_entries (mv.shape t) (front-place mv t))
      ∙ behind-entries whole front (room_place front) (front-inside mv)
      ∙ sym (behind-entries left front (room_place front) (front-inside mv))
      ∙ (λ t. place_entries (sym shape-cut t) (sym place-cut t))

  pub target-read : let z = cut e.pair b (decode s) in
      entries_of (block s k) ≡ page_entries z b (room_place (chain z b))
  target-read =
      ap (λ (j : ℕ). entries_of (block s j)) h.room.page
      ∙ page-read h.reads b h.made (room_place (chain x b)) inside
      ∙ entries-same

  pub target-few : let z = cut e.pair b (decode s) in length (page_entries z b (room_place (chain z b))) < 40
  target-few =
      ltb-true (length (page_entries z b (room_place (chain z b)))) 40 (room_at e (chain z b) room_cut).room

  -- ---- its block

  pub target-under : k < blocks s
  target-under =
      omega (arith, target_is, page-inside z laid-cut b (room_place (chain z b)) cut_low inside-cut, cut-size)

  pub target-no-meta : k ≢ 0
  target-no-meta q = page-meta z laid-cut b (room_place (chain z b)) inside-cut (sym target_is ∙ q)

  pub target-no-map : k ≢ map_block (cut e.pair b (decode s))
  target-no-map q = page-map z laid-cut b (room_place (chain z b)) cut_low inside-cut (sym target_is ∙ q)

  pub target-sorted : Sorted (block s k)
  target-sorted =
      page_ok-sorted (block s k) (reads-block h.reads k target-under)
      (subst (λ (j : ℕ). page_ok (block s j) ≡ true) (sym h.room.page)
      (each-get_or (λ (j : ℕ). page_ok (block s j) ≡ true) (chain_blocks x b (chain x b)) (room_place (chain x b)) no_link
      (all-each (λ j. page_ok (block s j)) (chain_blocks x b (chain x b)) (pages-read h.reads b h.made))
      (omega (arith, inside, length-map (chain x b).more (λ (g : Page). block_of_bit x g.bit)))))
