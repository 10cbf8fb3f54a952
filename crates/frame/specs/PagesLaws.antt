-- What a put writes into the blocks that it alters: the page with the entry, the last page with its new link, the new
-- page.
use Rattle.std.specs.Prelude.{◌≡◌, refl, Bool, true, false, cond, not, ◌||◌, eqb}
use Rattle.std.proofs.Math.Path.{sym, ap, subst}
use Rattle.std.proofs.Common.{◌∙◌, subst₂, arith}
use mathlib.Core.List.{List, [], ◌∷◌, ◌++◌, map-append}
use Prim.Native.Nat.{ℕ, zero, suc, ◌+◌, ◌≤◌, ◌<◌}
use Rattle.std.proofs.Math.Decide.{ℕ_discrete}
use Rattle.std.proofs.Math.ListN.{length, get_or, length-set, length-append, get_or-append, get_or-eq_default}
use Rattle.std.proofs.lemmas.List.{length-map}
use Rattle.std.proofs.Math.Seq.{get_or_at}
use Rattle.lists.specs.Lists.{b2n, any}
use Rattle.lists.specs.ListsLaws.{eqb_yes, eqb_no}
use Rattle.address.specs.Address.{last_split, bucket_block}
use Rattle.page.specs.declared.Entry.{Entry}
use Rattle.page.specs.Entries.{encode_page}
use Rattle.model.specs.Index.{Page, Chain, Index, chain, set_chain}
use Rattle.model.specs.Pages.{has_room, page_room, chain_room, enter_entry, add_more, add_entry, add_page, is_free}
use Rattle.model.specs.WellFormed.{uses, Laid}
use Rattle.model.specs.ChainLaws.{bits-page}
use Rattle.model.proofs.LaidLaws.{bits-set}
use Rattle.model.specs.StandLaws.{chain-here}
use Rattle.model.proofs.MachineLaws.{never}
use Rattle.image.specs.Layout.{paged, map_bit, flags_of, encode_block}
use Rattle.store.specs.Flags.{no_link}
use Rattle.frame.specs.Frame.{block_of_bit, blocks_after, chain_blocks, place_block, page_block, entries_after}
use Rattle.frame.specs.Frame.{place_entries, page_entries, page_with, place_image, prev_in, flags_for, first_place}
use Rattle.frame.specs.Frame.{room_place, last_place}
use Rattle.frame.specs.ImagesLaws.{page-image}
use Rattle.frame.specs.ChainLaws.{free-yes, free-alike}

-- ---- the pages of a chain that was set anew

-- the chain's blocks are those that x has for it
module _ (x : Index) (sp : List ℕ) (b : ℕ) (fits : b < length x.chains) (c : Chain) (l : Laid (set_chain x sp b c))
    (at : chain_blocks (set_chain x sp b c) b c ≡ chain_blocks x b c) where
  abbrev y : Index
  y = set_chain x sp b c

  pub set-image : (i : ℕ) → i ≤ length c.more
      → encode_block (set_chain x sp b c) (place_block x b c i) ≡ place_image x b c i
  unfolding page_with flags_of
  set-image i h =
      let e : chain y b ≡ c = chain-here x sp b c fits in
      let k : i ≤ length (chain y b).more = subst (λ (d : Chain). i ≤ length d.more) (sym e) h in
      let f : b ≤ x.max_bucket = omega (arith, fits, l.whole, length-set x.chains b c) in
      subst (λ (js : List ℕ). encode_block y (get_or js i no_link)
      ≡ page_with x b js i (place_entries c i) (get_or js (suc i) no_link)) at
      (subst (λ (d : Chain). encode_block y (place_block y b d i) ≡ place_image y b d i) e (page-image y l b i f k))

-- ---- into a page with room

module _ (x : Index) (e : Entry) where
  room_after : (gs : List Page) → blocks_after x (add_more e gs) ≡ blocks_after x gs
  room_after [] = refl
  room_after (g ∷ gs) = go (page_room g) (room_after gs)
    where
      go : (r : Bool) → blocks_after x (add_more e gs) ≡ blocks_after x gs
          → blocks_after x
          (cond r (record { bit = g.bit; entries = enter_entry e g.entries } ∷ gs) (g ∷ add_more e gs))
          ≡ block_of_bit x g.bit ∷ blocks_after x gs
      go true ih = refl
      go false ih = ap (λ (js : List ℕ). block_of_bit x g.bit ∷ js) ih

  pub room-blocks : (b : ℕ) (c : Chain) → chain_blocks x b (add_entry e c) ≡ chain_blocks x b c
  room-blocks b c = go (has_room c.first)
    where
      go : (r : Bool)
          → chain_blocks x b
          (cond r (record { first = enter_entry e c.first; more = c.more })
          (record { first = c.first; more = add_more e c.more }))
          ≡ chain_blocks x b c
      go true = refl
      go false = ap (λ (js : List ℕ). bucket_block x.spares b ∷ js) (room_after c.more)

-- the page at place i has room, and gets the entry
pub record RoomAt (e : Entry) (i : ℕ) (before after : List (List Entry)) : Type 0 where
  pub inside : i < length before
  pub room : has_room (get_or before i []) ≡ true
  pub entered : get_or after i [] ≡ enter_entry e (get_or before i [])

module _ (e : Entry) where
  room-more : (gs : List Page) → any page_room gs ≡ true
      → RoomAt e (first_place page_room gs) (entries_after gs) (entries_after (add_more e gs))
  room-more [] h = never (cc)
  room-more (g ∷ gs) h = go (page_room g) refl h (room-more gs)
    where
      go : (r : Bool) → page_room g ≡ r → r || any page_room gs ≡ true
          → (any page_room gs ≡ true → RoomAt e (first_place page_room gs) (entries_after gs) (entries_after (add_more e gs)))
          → RoomAt e (cond r 0 (suc (first_place page_room gs))) (entries_after (g ∷ gs))
          (entries_after (cond r (record { bit = g.bit; entries = enter_entry e g.entries } ∷ gs) (g ∷ add_more e gs)))
      go true k h ih = record { inside = omega arith; room = k; entered = refl }
      go false k h ih =
          let r = ih h in record { inside = omega (arith, r.inside); room = r.room; entered = r.entered }

  pub room_at : (c : Chain) → chain_room c ≡ true
      → RoomAt e (room_place c) (c.first ∷ entries_after c.more)
      ((add_entry e c).first ∷ entries_after (add_entry e c).more)
  room_at c h = go (has_room c.first) refl h
    where
      added : Bool → Chain
      added r =
          cond r (record { first = enter_entry e c.first; more = c.more })
          (record { first = c.first; more = add_more e c.more })

      go : (r : Bool) → has_room c.first ≡ r → r || any page_room c.more ≡ true
          → RoomAt e (cond r 0 (suc (first_place page_room c.more))) (c.first ∷ entries_after c.more)
          ((added r).first ∷ entries_after (added r).more)
      go true k h = record { inside = omega arith; room = k; entered = refl }
      go false k h =
          let r = room-more c.more h in
          record { inside = omega (arith, r.inside); room = r.room; entered = r.entered }

pub prev-append : (last : ℕ) (js ks : List ℕ) (i : ℕ) → i ≤ length js → prev_in last (js ++ ks) i ≡ prev_in last js i
prev-append last js ks zero h = refl
prev-append last js ks (suc i) h = get_or-append js ks no_link i h

module _ (x : Index) (b : ℕ) (fits : b < length x.chains) (e : Entry) where
  abbrev c : Chain
  c = chain x b

  -- the page with room gets the entry, and stays otherwise
  pub room-image : Laid (set_chain x x.spares b (add_entry e (chain x b))) → chain_room (chain x b) ≡ true
      → let i = room_place (chain x b) in
      encode_block (set_chain x x.spares b (add_entry e (chain x b))) (page_block x b i)
      ≡ page_with x b (chain_blocks x b (chain x b)) i (enter_entry e (page_entries x b i)) (page_block x b (suc i))
  room-image l h =
      let i : ℕ = room_place c in
      let r = room_at e c h in
      let y : Index = set_chain x x.spares b (add_entry e c) in
      let inside : i ≤ length (add_entry e c).more =
      omega (
        arith,
        r.inside,
        length-map c.more (λ (g : Page). g.entries),
        length-map c.more (λ (g : Page). block_of_bit x g.bit),
        length-map (add_entry e c).more (λ (g : Page). block_of_bit x g.bit),
        ap length (room-blocks x e b c),
      ) in
      subst (λ (js : List ℕ). encode_block y (get_or js i no_link)
      ≡ page_with x b js i (enter_entry e (page_entries x b i)) (get_or js (suc i) no_link))
      (room-blocks x e b c)
      (set-image x x.spares b fits (add_entry e c) l refl i inside
      ∙ ap (λ (es : List Entry). page_with x b (chain_blocks x b (add_entry e c)) i es
      (place_block x b (add_entry e c) (suc i))) r.entered)

  -- ---- into a page at the chain's end

  module _ (n : ℕ) (sp : List ℕ) (l : Laid (set_chain x sp b (add_page n e (chain x b))))
      (at : chain_blocks (set_chain x sp b (add_page n e (chain x b))) b (add_page n e (chain x b))
      ≡ chain_blocks x b (add_page n e (chain x b))) where
    abbrev i : ℕ
    i = last_place (chain x b)

    abbrev js : List ℕ
    js = chain_blocks x b (chain x b)

    abbrev ess : List (List Entry)
    ess = (chain x b).first ∷ entries_after (chain x b).more

    abbrev js' : List ℕ
    js' = js ++ block_of_bit x n ∷ []

    page-at : (j : ℕ) → j ≤ suc i → encode_block (set_chain x sp b (add_page n e (chain x b))) (get_or js' j no_link)
        ≡ page_with x b js' j (get_or (ess ++ (e ∷ []) ∷ []) j []) (get_or js' (suc j) no_link)
    page-at j h =
        subst₂ (λ (ks : List ℕ) (fs : List (List Entry)).
        encode_block (set_chain x sp b (add_page n e (chain x b))) (get_or ks j no_link)
        ≡ page_with x b ks j (get_or fs j []) (get_or ks (suc j) no_link))
        (ap (λ (r : List ℕ). bucket_block x.spares b ∷ r)
        (map-append (λ (g : Page). block_of_bit x g.bit) (chain x b).more _))
        (ap (λ (r : List (List Entry)). (chain x b).first ∷ r)
        (map-append (λ (g : Page). g.entries) (chain x b).more _))
        (set-image x sp b fits (add_page n e (chain x b)) l at j
        (omega (arith, length-append (chain x b).more (record { bit = n; entries = e ∷ [] } ∷ []))))

    many : length js ≡ suc i
    many = ap suc (length-map (chain x b).more (λ (g : Page). block_of_bit x g.bit))

    many-entries : length ess ≡ suc i
    many-entries = ap suc (length-map (chain x b).more (λ (g : Page). g.entries))

    -- the last page gets its link
    pub last-image : let i = last_place (chain x b) in
        encode_block (set_chain x sp b (add_page n e (chain x b))) (page_block x b i)
        ≡ page_with x b (chain_blocks x b (chain x b)) i (page_entries x b i) (block_of_bit x n)
    unfolding page_with
    last-image =
        let k : get_or js i no_link ≡ get_or js' i no_link =
        sym (get_or-append js (block_of_bit x n ∷ []) no_link i (omega (arith, many))) in
        let es = get_or-append ess ((e ∷ []) ∷ []) [] i (omega (arith, many-entries)) in
        let p = prev-append (last_split x.max_bucket b) js (block_of_bit x n ∷ []) i (omega (arith, many)) in
        let q = get_or_at js (block_of_bit x n) [] no_link (suc i) many in
        ap (encode_block (set_chain x sp b (add_page n e (chain x b)))) k
        ∙ page-at i (omega arith)
        ∙ (λ j. paged (encode_page (es j) []) (p j) (q j) b (flags_for (flags_of x b) i))

    pub new-image : encode_block (set_chain x sp b (add_page n e (chain x b))) (block_of_bit x n)
        ≡ paged (encode_page (e ∷ []) []) (page_block x b (last_place (chain x b))) no_link b 1
    unfolding page_with
    new-image =
        let es = get_or_at ess (e ∷ []) [] [] (suc i) many-entries in
        let p = get_or-append js (block_of_bit x n ∷ []) no_link i (omega (arith, many)) in
        let q =
        get_or-eq_default js' no_link {n = suc (suc i)}
        (omega (arith, many, length-append js (block_of_bit x n ∷ []))) in
        ap (encode_block (set_chain x sp b (add_page n e (chain x b))))
        (sym (get_or_at js (block_of_bit x n) [] no_link (suc i) many))
        ∙ page-at (suc i) (omega arith)
        ∙ (λ j. paged (encode_page (es j) []) (p j) (q j) b 1)

-- a free page that is taken: its bit is 1 now, and the others are as they were
pub taken-map : (x : Index) (b : ℕ) → b < length x.chains → (e : Entry) (n : ℕ) (m : ℕ)
    → map_bit (set_chain x x.spares b (add_page n e (chain x b))) m ≡ cond (eqb m n) 1 (map_bit x m)
taken-map x b fits e n m = go (ℕ_discrete m n)
  where
    y : Index
    y = set_chain x x.spares b (add_page n e (chain x b))

    more : (k : ℕ) → uses k y ≡ b2n (eqb k n) + uses k x
    more k =
        omega (arith, bits-set (eqb k) x.chains b (add_page n e (chain x b)) fits, bits-page (eqb k) n e (chain x b))

    busy : is_free (set_chain x x.spares b (add_page n e (chain x b))) n ≡ false
    busy = no-free (is_free y n) refl
      where
        no-free : (c : Bool) → is_free y n ≡ c → c ≡ false
        no-free true q = absurd (omega (arith, more n, ap b2n (eqb_yes n n refl), (free-yes y n q).2))
        no-free false q = refl

    go : Dec (m ≡ n) → map_bit (set_chain x x.spares b (add_page n e (chain x b))) m ≡ cond (eqb m n) 1 (map_bit x m)
    go (yes q) = rw (q, eqb_yes n n refl) (ap (λ (c : Bool). b2n (not c)) busy)
    go (no q) =
        let u : uses m y ≡ uses m x = omega (arith, more m, ap b2n (eqb_no m n q)) in
        rw (eqb_no m n q)
        (ap (λ (c : Bool). b2n (not c))
        (free-alike x y m (λ f. (f.0, f.1, sym u ∙ f.2)) (λ f. (f.0, f.1, u ∙ f.2))))
