-- The blocks that an entry put into a chain alters.
use Rattle.std.specs.Prelude.{◌≡◌, refl, ◌≢◌, Bool, true, false, cond, List, [], ◌∷◌, ◌++◌, ℕ, suc, ◌<◌, eqb, length, get_or}
use Rattle.std.proofs.Common.{sym, ap, ◌∙◌, ne_eqb}
use Rattle.std.proofs.Math.Option.{Option, some}
use Rattle.lists.specs.Lists.{find}
use Rattle.address.specs.Address.{point, bucket_block}
use Rattle.page.specs.declared.Entry.{Entry}
use Rattle.model.specs.Index.{Page, Chain, Index, chain, set_chain}
use Rattle.model.specs.Pages.{has_room, page_room, enter_entry, add_more, add_entry, add_page, is_free}
use Rattle.model.specs.WellFormed.{Laid}
use Rattle.model.specs.ChainLaws.{bits-add}
use Rattle.image.specs.Layout.{LinkedPage, next_of, linked_of, encode_block}
use Rattle.store.specs.Flags.{no_link}
use Rattle.frame.specs.Frame.{Apart, block_of_bit, map_block, blocks_after, page_block, first_place, room_place}
use Rattle.frame.specs.Frame.{last_place, put_alters}
use Rattle.frame.specs.ListsLaws.{find-pass, find-cons, find-skip}
use Rattle.image.specs.LinkedLaws.{has_bit}
use Rattle.frame.specs.ChainLaws.{linked_as, other-bit, page_of_bit, Unaltered, frame-chain, free-kept}

module _ (x : Index) (e : Entry) where
  abbrev sp : List ℕ
  sp = x.spares

  abbrev s : ℕ
  s = point x.max_bucket

  abbrev linked : (b prev : ℕ) → List Page → List LinkedPage
  linked b prev gs = linked_of sp s b prev gs

  abbrev blk : Page → ℕ
  blk g = block_of_bit x g.bit

  -- ---- a page with room

  next-room : (gs : List Page) → next_of sp s (add_more e gs) ≡ next_of sp s gs
  next-room [] = refl
  next-room (g ∷ gs) = go (page_room g)
    where
      go : (b : Bool)
          → next_of sp s
          (cond b (record { bit = g.bit; entries = enter_entry e g.entries } ∷ gs) (g ∷ add_more e gs)) ≡ blk g
      go true = refl
      go false = refl

  linked-room : (m b prev : ℕ) (gs : List Page)
      → block_of_bit x m ≢ get_or (blocks_after x gs) (first_place page_room gs) no_link
      → find (has_bit m) (linked b prev (add_more e gs)) ≡ find (has_bit m) (linked b prev gs)
  linked-room m b prev [] ne = refl
  linked-room m b prev (g ∷ gs) ne = go (page_room g) ne (linked-room m b (blk g) gs)
    where
      go : (c : Bool)
          → block_of_bit x m
          ≢ get_or (blk g ∷ blocks_after x gs) (cond c 0 (suc (first_place page_room gs))) no_link
          → (block_of_bit x m ≢ get_or (blocks_after x gs) (first_place page_room gs) no_link
          → find (has_bit m) (linked b (blk g) (add_more e gs)) ≡ find (has_bit m) (linked b (blk g) gs))
          → find (has_bit m)
          (linked b prev
          (cond c (record { bit = g.bit; entries = enter_entry e g.entries } ∷ gs) (g ∷ add_more e gs)))
          ≡ find (has_bit m) (linked b prev (g ∷ gs))
      go true ne ih =
          find-skip (has_bit m) (linked_as b prev (next_of sp s gs) g (enter_entry e g.entries))
          (linked_as b prev (next_of sp s gs) g g.entries) (linked b (blk g) gs) (linked b (blk g) gs)
          (other-bit x m g ne)
          (other-bit x m g ne) refl
      go false ne ih =
          ap (λ (n : ℕ). find (has_bit m) (linked_as b prev n g g.entries ∷ linked b (blk g) (add_more e gs)))
          (next-room gs)
          ∙ find-cons (has_bit m) (linked_as b prev (next_of sp s gs) g g.entries)
          (linked b (blk g) (add_more e gs)) (linked b (blk g) gs) (ih ne)

  in-room : (b k : ℕ) → b < length x.chains → k ≢ 0 → k ≢ page_block x b (room_place (chain x b))
      → Unaltered x b k (add_entry e (chain x b))
  in-room b k fits nz ne =
      record {
        other = nz;
        bucket_page = page (has_room c.first) ne;
        bitmap = λ q. free-kept x b (add_entry e c) fits (λ n. bits-add (eqb n) e c);
        overflow = over (has_room c.first) ne;
      }
    where
      c : Chain
      c = chain x b

      added : Bool → Chain
      added h =
          cond h (record { first = enter_entry e (chain x b).first; more = (chain x b).more })
          (record { first = (chain x b).first; more = add_more e (chain x b).more })

      place : Bool → ℕ
      place h = cond h 0 (suc (first_place page_room (chain x b).more))

      page : (h : Bool) → k ≢ page_block x b (place h) → bucket_block sp b ≡ k
          → ((added h).first ≡ (chain x b).first) × (next_of sp s (added h).more ≡ next_of sp s (chain x b).more)
      page true ne q = absurd (ne (sym q))
      page false ne q = (refl, next-room (chain x b).more)

      over : (h : Bool) → k ≢ page_block x b (place h) → (n : ℕ) → block_of_bit x (suc n) ≡ k
          → page_of_bit x b (suc n) (added h) ≡ page_of_bit x b (suc n) (chain x b)
      over true ne n q = refl
      over false ne n q = linked-room (suc n) b (bucket_block sp b) (chain x b).more (λ r. ne (sym q ∙ r))

  -- ---- a page at the chain's end

  module _ (n : ℕ) where
    abbrev new_page : Page
    new_page = record { bit = n; entries = e ∷ [] }

    next-new : (prev k : ℕ) (gs : List Page) → prev ≡ k → k ≢ get_or (prev ∷ blocks_after x gs) (length gs) no_link
        → next_of sp s (gs ++ new_page ∷ []) ≡ next_of sp s gs
    next-new prev k [] q ne = absurd (ne (sym q))
    next-new prev k (g ∷ gs) q ne = refl

    linked-new : (m b prev : ℕ) (gs : List Page) → m ≢ n
        → block_of_bit x m ≢ get_or (prev ∷ blocks_after x gs) (length gs) no_link
        → find (has_bit m) (linked b prev (gs ++ new_page ∷ [])) ≡ find (has_bit m) (linked b prev gs)
    linked-new m b prev [] nn nl = find-pass (has_bit m) (linked_as b prev no_link new_page (e ∷ [])) [] (ne_eqb m n nn)
    linked-new m b prev (g ∷ []) nn nl =
        find-skip (has_bit m) (linked_as b prev (block_of_bit x n) g g.entries) (linked_as b prev no_link g g.entries)
        (linked b (blk g) (new_page ∷ [])) [] (other-bit x m g nl) (other-bit x m g nl) (linked-new m b (blk g) [] nn nl)
    linked-new m b prev (g ∷ h ∷ gs) nn nl =
        find-cons (has_bit m) (linked_as b prev (blk h) g g.entries) (linked b (blk g) (h ∷ gs ++ new_page ∷ []))
        (linked b (blk g) (h ∷ gs)) (linked-new m b (blk g) (h ∷ gs) nn nl)

    pub in-new : (b k : ℕ) → k ≢ 0
        → (map_block x ≡ k → (m : ℕ) → is_free (set_chain x x.spares b (add_page n e (chain x b))) m ≡ is_free x m)
        → k ≢ page_block x b (last_place (chain x b)) → k ≢ block_of_bit x n → Unaltered x b k (add_page n e (chain x b))
    in-new b k nz nb nl nn =
        record {
          other = nz;
          bucket_page = λ q. (refl, next-new (bucket_block sp b) k (chain x b).more q nl);
          bitmap = nb;
          overflow =
              λ m q. linked-new (suc m) b (bucket_block sp b) (chain x b).more (λ r. nn (sym q ∙ ap (block_of_bit x) r))
              (λ r. nl (sym q ∙ r));
        }

module _ (x : Index) (l : Laid x) (b : ℕ) (fits : b < length x.chains) (e : Entry) where
  -- into a page with room: meta and that page
  pub frame-room : (free : Option ℕ) (k : ℕ) → Apart k (put_alters true free x b)
      → encode_block (set_chain x x.spares b (add_entry e (chain x b))) k ≡ encode_block x k
  frame-room free k a = frame-chain x l b fits (add_entry e (chain x b)) k (in-room x e b k fits a.0 a.1.0)

  -- into a free page: meta, bitmap, the last page and that page
  pub frame-again : (n k : ℕ) → Apart k (put_alters false (some n) x b)
      → encode_block (set_chain x x.spares b (add_page n e (chain x b))) k ≡ encode_block x k
  frame-again n k a =
      frame-chain x l b fits (add_page n e (chain x b)) k
      (in-new x e n b k a.0 (λ q. absurd (a.1.0 (sym q))) a.1.1.0 a.1.1.1.0)
