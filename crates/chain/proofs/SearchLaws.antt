-- What the searches along a chain find.
use Rattle.std.proofs.Math.Path.{◌≡◌, refl, sym, ap}
use Rattle.std.proofs.Common.{◌∙◌, arith}
use Rattle.std.specs.Prelude.{Bool, false, cond, ◌&&◌, ℕ, ◌<◌, length, get_or, Some, None, is_some}
use Rattle.std.proofs.Math.Bool.{true}
use mathlib.Core.List.{List}
use Rattle.std.proofs.Math.Option.{Option, none, some}
use borrow.Author.Tests.{ltb-true}
use Rattle.std.proofs.Math.Dec.{ltb}
use Rattle.std.proofs.lemmas.Option.{same_Some}
use Rattle.lists.specs.Lists.{any, find, bind}
use Rattle.lists.specs.ListsLaws.{and_left, and_right}
use Rattle.lists.specs.Block.{block}
use Rattle.page.specs.declared.Pair.{Pair}
use Rattle.page.specs.declared.Entry.{Entry}
use Rattle.page.specs.Pair.{is}
use Rattle.page.specs.Entries.{entry_at}
use Rattle.page.specs.Places.{place_of}
use Rattle.page.specs.SublistLaws.{all-each}
use Rattle.page.specs.PlaceLaws.{place-any}
use Rattle.page.specs.Rule.{order_ok, page_ok}
use Rattle.page.proofs.RuleLaws.{page_ok-parts}
use Rattle.chain.specs.declared.Found.{Found}
use Rattle.chain.specs.declared.Room.{Room}
use Rattle.chain.specs.Walk.{last_of}
use Rattle.chain.specs.Search.{slot_in, pair_on, room_on, found_as, find_in, room_as, room_in, at_slot, is_page}
use Rattle.chain.specs.Within.{entries_on, PagesOk}
use Rattle.chain.specs.FindLaws.{First, find_first, first-each, is_some as is_there, find-any, any-bind}

-- ---- a slot

pub same_slot : (j i k n : ℕ) → at_slot j i ≡ at_slot k n → (j ≡ k) × (i ≡ n)
same_slot j i k n h =
    let f = same_Some (record { block = j; slot = i }) (record { block = k; slot = n }) h in
    (ap (λ (g : Found). g.block) f, ap (λ (g : Found). g.slot) f)

module _ (es : List Entry) (p : Pair) where
  slot-as : (b : Bool) → any (is p) es ≡ b → slot_in es p ≡ cond b (Some (place_of p es)) None
  unfolding slot_in
  slot-as b e = rw e

  pub slot-here : any (is p) es ≡ true → slot_in es p ≡ Some (place_of p es)
  slot-here = slot-as true

  pub slot-nowhere : any (is p) es ≡ false → slot_in es p ≡ None
  slot-nowhere = slot-as false

  -- a slot that is found is the pair's place
  pub record Slotted (n : ℕ) : Type 0 where
    pub stands : any (is p) es ≡ true
    pub place : n ≡ place_of p es

  pub slot_at : (n : ℕ) → slot_in es p ≡ Some n → Slotted n
  slot_at n h = go (any (is p) es) refl
    where
      go : (b : Bool) → any (is p) es ≡ b → Slotted n
      go true e = let q = slot-here e in record { stands = e; place = cc }
      go false e = let q = slot-nowhere e in let z : ◌≡◌ {A = ℕ} 0 1 = cc in absurd (omega arith)

  pub slot-none : slot_in es p ≡ None → any (is p) es ≡ false
  slot-none h = go (any (is p) es) refl
    where
      go : (b : Bool) → any (is p) es ≡ b → any (is p) es ≡ false
      go false e = e
      go true e = let q = slot-here e in let z : ◌≡◌ {A = ℕ} 0 1 = cc in absurd (omega arith)

module _ (s ks : List ℕ) where
  -- ---- a pair

  module _ (p : Pair) where
    -- the pair's page is the first that has the pair, its slot the pair's place in it
    pub record FoundAt (k n : ℕ) : Type 0 where
      pub page : First (pair_on s p) ks k
      pub slot : n ≡ place_of p (entries_on s k)

    pub find_in-at : (k n : ℕ) → find_in s ks p ≡ at_slot k n → FoundAt k n
    unfolding find_in
    find_in-at k n h = go (find (pair_on s p) ks) refl h
      where
        go : (o : Option ℕ) → find (pair_on s p) ks ≡ o → found_as s p o ≡ at_slot k n → FoundAt k n
        go none e q = let z : ◌≡◌ {A = ℕ} 0 1 = cc in absurd (omega arith)
        go (some j) e q =
            let t = same_slot j (place_of p (entries_on s j)) k n q in
            let same : j ≡ k = t.0 in
            let place : place_of p (entries_on s j) ≡ n = t.1 in
            record {
              page = find_first (pair_on s p) ks k (e ∙ ap some same);
              slot = sym place ∙ ap (λ (i : ℕ). place_of p (entries_on s i)) same;
            }

    -- a pair is found if some page of the chain has it
    pub find_in-any : is_some (find_in s ks p) ≡ any (is p) (bind ks (entries_on s))
    unfolding find_in
    find_in-any = go (find (pair_on s p) ks) ∙ find-any (pair_on s p) ks ∙ sym (any-bind (is p) (entries_on s) ks)
      where
        go : (o : Option ℕ) → is_some (found_as s p o) ≡ is_there o
        go none = refl
        go (some k) = refl

    pub find_in-none : find_in s ks p ≡ None → any (is p) (bind ks (entries_on s)) ≡ false
    find_in-none h = sym find_in-any ∙ ap is_some h

    -- in pages that pass the rule, the entry in the slot has the pair
    pub record EntryAt (k n : ℕ) : Type 0 where
      pub inside : n < length (entries_on s k)
      pub has : (d : Entry) → is p (get_or (entries_on s k) n d) ≡ true

    pub find_in-entry : (k n : ℕ) → PagesOk s ks → find_in s ks p ≡ at_slot k n → EntryAt k n
    unfolding order_ok
    find_in-entry k n ok h =
        let f = find_in-at k n h in
        let es : List Entry = entries_on s k in
        let each = all-each (λ j. page_ok (block s j)) ks ok in
        let fine = first-each (pair_on s p) (λ j. page_ok (block s j) ≡ true) ks k f.page each in
        let order = (page_ok-parts (block s k) fine).order in
        let stands : (d : Entry) → ltb n (length es) && is p (get_or es n d) ≡ true =
        λ d. rw f.slot (sym (place-any p es d order) ∙ f.page.here) in
        record {
          inside = ltb-true n (length es) (and_left (ltb n (length es)) _ (stands (entry_at (block s k) 0)));
          has = λ d. and_right (ltb n (length es)) _ (stands d);
        }

  -- ---- room

  pub room_in-page : (k : ℕ) → room_in s ks ≡ Room.Page k → First (room_on s) ks k
  unfolding room_in
  room_in-page k h = go (find (room_on s) ks) refl h
    where
      go : (o : Option ℕ) → find (room_on s) ks ≡ o → room_as (last_of ks) o ≡ Room.Page k → First (room_on s) ks k
      go none e q = let z : ◌≡◌ {A = ℕ} 0 1 = cc in absurd (omega arith)
      go (some j) e q = let same : j ≡ k = cc in find_first (room_on s) ks k (e ∙ ap some same)

  pub room_in-full : (k : ℕ) → room_in s ks ≡ Room.Full k → k ≡ last_of ks
  unfolding room_in
  room_in-full k h = go (find (room_on s) ks) h
    where
      go : (o : Option ℕ) → room_as (last_of ks) o ≡ Room.Full k → k ≡ last_of ks
      go none q = cc
      go (some j) q = let z : ◌≡◌ {A = ℕ} 0 1 = cc in absurd (omega arith)

  pub room_in-any : is_page (room_in s ks) ≡ any (room_on s) ks
  unfolding room_in
  room_in-any = go (find (room_on s) ks) ∙ find-any (room_on s) ks
    where
      go : (o : Option ℕ) → is_page (room_as (last_of ks) o) ≡ is_there o
      go none = refl
      go (some k) = refl
