-- Whether an entry is left to move, as code tests it, and the search for one among a page's slots.
use Rattle.std.specs.Prelude.{◌≡◌, Bool, true, false, not, ◌&&◌, List, ℕ, ◌+◌, ◌≤◌, ◌<◌, refl, eqb, length, get_or, take, is_some, ◌≢◌, Option}
use Rattle.std.proofs.Common.{sym, ◌∙◌, subst, arith, eq-eqb, ne_eqb}
use Rattle.std.proofs.Math.Path.{ap}
use Rattle.std.proofs.Math.Option.{none, some}
use Rattle.lists.specs.Lists.{all, any, find}
use Rattle.lists.specs.Block.{block}
use Rattle.address.specs.Address.{bucket_of}
use Rattle.endian.specs.Endian.{u16_at}
use Rattle.page.specs.declared.Pair.{Pair}
use Rattle.page.specs.declared.Entry.{Entry}
use Rattle.page.specs.Pair.{is}
use Rattle.page.specs.PairLaws.{same-eq}
use Rattle.page.specs.Places.{place_of}
use Rattle.page.specs.PlaceLaws.{place_at}
use Rattle.page.specs.Rule.{order_ok, page_ok}
use Rattle.page.specs.Allowed.{Sorted}
use Rattle.page.specs.Entries.{entry_at, entries_of}
use Rattle.page.specs.EntriesLaws.{length-entries_of, get_or-entries_of}
use Rattle.model.specs.Index.{Index, chain, entries_at, bucket, new_bucket}
use Rattle.model.specs.Steps.{moves}
use Rattle.image.specs.declared.Meta.{Meta}
use Rattle.image.specs.Decode.{block_of, decode}
use Rattle.frame.specs.Frame.{chain_blocks}
use Rattle.chain.specs.declared.Found.{Found}
use Rattle.chain.specs.Walk.{Walked}
use Rattle.chain.specs.Search.{at_slot, find_in}
use Rattle.chain.specs.Within.{PagesOk, Within}
use Rattle.chain.specs.FindLaws.{find-here}
use Rattle.view.specs.Reads.{Reads}
use Rattle.view.specs.ReadsLaws.{reads-max}
use Rattle.view.specs.PlacesLaws.{find-read}
use Rattle.view.specs.ChainLaws.{blocks-within, blocks-pages, walks-blocks, walks-count}
use Rattle.view.specs.HeldLaws.{is_some-find_at}
use Rattle.split.specs.Mover.{movable, copied, NewChain, Copies}
use Rattle.split.specs.Seek.{Before, Fresh, AnswersFrom, Stands, found_on, After}
use Rattle.split.specs.SeekLaws.{before-find, before-all, before-next, after-at}

-- ---- the walk along the new chain

module _ {s : List ℕ} {m : Meta} (r : Reads s m) where
  new-made : new_bucket (decode s) ≤ m.max
  new-made = omega (arith, reads-max r)

  -- ---- a walk of it

  module _ {bs : List ℕ} {n : ℕ} (h : Walked s (block_of s m.max) bs n) where
    pub walks-copies : NewChain (decode s) bs n
    walks-copies =
        let y = decode s in
        record {
          blocks = walks-blocks r m.max (omega arith) h ∙ ap (λ (b : ℕ). chain_blocks y b (chain y b)) (reads-max r);
          count = walks-count r m.max (omega arith) h;
        }

  pub copies-count : (f : Bool) (bs : List ℕ) (n : ℕ) → Copies f (decode s) bs n → n ≡ length (take n bs)
  copies-count true bs n z = z ∙ ap (λ (j : ℕ). length (take j bs)) (sym z)
  copies-count false bs n h = h.count

  pub copies-within : (f : Bool) (bs : List ℕ) (n : ℕ) → Copies f (decode s) bs n → Within s (take n bs)
  copies-within true bs n z =
      subst (λ (j : ℕ). Within s (take j bs)) (sym z) (record { few = omega arith; inside = tt })
  copies-within false bs n h = blocks-within r (new_bucket (decode s)) new-made (take n bs) h.blocks

  pub copies-pages : (f : Bool) (bs : List ℕ) (n : ℕ) → Copies f (decode s) bs n → PagesOk s (take n bs)
  copies-pages true bs n z = ap (λ (j : ℕ). all (λ (k : ℕ). page_ok (block s k)) (take j bs)) z
  copies-pages false bs n h = blocks-pages r (new_bucket (decode s)) new-made (take n bs) h.blocks

-- ---- one entry

-- whether it goes to the new bucket n, by the bucket of its hash code
pub moves-read : (x : Index) (e : Entry) {b n : ℕ} → n ≡ new_bucket x → b ≡ bucket_of n e.pair.hash → eqb b n ≡ moves x e
moves-read x e {b} {n} q at =
    ap (λ (k : ℕ). eqb k n) at ∙ ap (λ (k : ℕ). eqb (bucket_of k e.pair.hash) k) q

module _ {s : List ℕ} {m : Meta} (r : Reads s m) where
  abbrev x : Index
  x = decode s

  found-copy : {bs : List ℕ} {n : ℕ} → NewChain (decode s) bs n → (p : Pair)
      → is_some (find_in s (take n bs) p) ≡ any (is p) (entries_at (decode s) (new_bucket (decode s)))
  found-copy h p =
      ap is_some (ap (λ (ks : List ℕ). find_in s ks p) h.blocks ∙ find-read r (new_bucket x) (new-made r) p)
      ∙ is_some-find_at x (new_bucket x) p

  no-blocks : (bs : List ℕ) {n : ℕ} → n ≡ 0 → (p : Pair) → is_some (find_in s (take n bs) p) ≡ false
  unfolding find_in
  no-blocks bs z p = ap (λ (j : ℕ). is_some (find_in s (take j bs) p)) z

  -- the entries from the place k on that go to the new bucket and are not found in the blocks are those left to copy
  pub copy-answers : (f : Bool) (bs : List ℕ) (n : ℕ) → Copies f (decode s) bs n → (es : List Entry) (k : ℕ) → Fresh f (decode s) es k
      → (i : ℕ) (d : Entry) → k ≤ i → i < length es
      → moves (decode s) (get_or es i d) && not (is_some (find_in s (take n bs) (get_or es i d).pair))
      ≡ movable true (decode s) (get_or es i d)
  copy-answers true bs n h es k fresh i d le lt =
      let e = get_or es i d in
      ap (λ (b : Bool). moves x e && not b)
      (no-blocks bs h e.pair ∙ sym (after-at (copied x) es k i d (fresh refl) le lt))
  copy-answers false bs n h es k fresh i d le lt =
      let e = get_or es i d in ap (λ (b : Bool). moves x e && not b) (found-copy h e.pair)

-- b is the bucket that its hash code maps to
module _ {s : List ℕ} {m : Meta} (r : Reads s m) (e : Entry) (b : ℕ) (at : b ≡ bucket_of m.max e.pair.hash) where
  goes : moves (decode s) e ≡ eqb b m.max
  goes = sym (moves-read (decode s) e (reads-max r) at)

  pub movable-other : (c : Bool) → b ≢ m.max → false ≡ movable c (decode s) e
  movable-other true ne =
      sym (ap (λ (u : Bool). u && not (copied (decode s) e)) (goes ∙ ne_eqb b m.max ne))
  movable-other false ne = sym (goes ∙ ne_eqb b m.max ne)

  moves-home : b ≡ m.max → moves (decode s) e ≡ true
  moves-home q = goes ∙ eq-eqb b m.max q

  pub movable-clear : (c : Bool) → c ≡ false → b ≡ m.max → true ≡ movable c (decode s) e
  movable-clear c k q = sym (ap (λ (d : Bool). movable d (decode s) e) k ∙ moves-home q)

  pub movable-fresh : (c : Bool) → c ≡ true → copied (decode s) e ≡ false → b ≡ m.max → true ≡ movable c (decode s) e
  movable-fresh c k z q =
      sym
      (ap (λ (d : Bool). movable d (decode s) e) k
      ∙ ap (λ (u : Bool). u && not (copied (decode s) e)) (moves-home q)
      ∙ ap not z)

  -- f is what the search for a copy found in the new chain
  pub movable-copy : {c : Bool} {bs : List ℕ} {n : ℕ} → c ≡ true → NewChain (decode s) bs n → b ≡ m.max
      → (f : Option Found) → f ≡ find_in s (take n bs) e.pair → not (is_some f) ≡ movable c (decode s) e
  movable-copy k h q f g =
      sym
      (ap (λ (d : Bool). movable d (decode s) e) k
      ∙ ap (λ (u : Bool). u && not (copied (decode s) e)) (moves-home q)
      ∙ ap not (sym (ap is_some g ∙ found-copy r h e.pair)))

-- another entry of its pair is as much to move
pub movable-same : (c : Bool) (x : Index) (e : Entry) → movable c x e ≡ true → (d : Entry) → is e.pair d ≡ true
    → movable c x d ≡ true
movable-same true x e h d q =
    subst
    (λ (p : Pair). eqb (bucket x p) (new_bucket x) && not (any (is p) (entries_at x (new_bucket x))) ≡ true)
    (same-eq e.pair d.pair q) h
movable-same false x e h d q =
    subst (λ (p : Pair). eqb (bucket x p) (new_bucket x) ≡ true) (same-eq e.pair d.pair q) h

-- ---- the slots of a page

-- a search of the sorted page for the pair of slot i finds it there
pub slot-found : (l : List ℕ) (i : ℕ) → i < u16_at l 0 → {e : Entry} → e ≡ entry_at l i → Sorted l → (b : ℕ)
    → found_on b (entries_of l) e.pair ≡ at_slot b i
unfolding order_ok
slot-found l i more {e} read sorted b =
    let there : get_or (entries_of l) i e ≡ e = get_or-entries_of l i e more ∙ sym read in
    ap (at_slot b)
    (ap (λ (d : Entry). place_of d.pair (entries_of l)) (sym there)
    ∙ place_at (entries_of l) i e sorted.order (omega (arith, length-entries_of l)))

-- a search from slot i on

module _ (t : Entry → Bool) (l : List ℕ) (i : ℕ) where
  module _ (more : i < u16_at l 0) where
    in_list : i < length (entries_of l)
    in_list = omega (arith, length-entries_of l)

    -- e is the entry in the slot
    module _ {e : Entry} (read : e ≡ entry_at l i) where
      is-there : get_or (entries_of l) i e ≡ e
      is-there = get_or-entries_of l i e more ∙ sym read

      pub slot-here : Before t (entries_of l) i → t e ≡ true
          → (find t (entries_of l) ≡ some e) × Stands t (entries_of l) e i
      slot-here z h =
          let first = find-here t (entries_of l) i e in_list (ap t is-there ∙ h) ∙ ap some is-there in
          (before-find t (entries_of l) i z ∙ first, record { inside = in_list; here = is-there; first = z })

      pub slot-later : Before t (entries_of l) i → t e ≡ false → Before t (entries_of l) (i + 1)
      slot-later z h = before-next t (entries_of l) i e in_list (ap t is-there ∙ h) z

      -- a test that tells of the entries from slot k on which pass
      pub slot-answers : {post : Entry → Bool → Type 0} {k : ℕ} → AnswersFrom post t (entries_of l) k → k ≤ i
          → {b : Bool} → post e b → b ≡ t e
      slot-answers {post} h le {b} p =
          h.at i e b le in_list (subst (λ (d : Entry). post d b) (sym is-there) p) ∙ ap t is-there

    -- where none from slot k on passes, it does not
    pub slot-after : (k : ℕ) → After t (entries_of l) k → k ≤ i → t (entry_at l i) ≡ false
    slot-after k z h =
        ap t (sym (get_or-entries_of l i (entry_at l i) more))
        ∙ after-at t (entries_of l) k i (entry_at l i) z h in_list

  -- past the last slot
  pub slot-end : Before t (entries_of l) i → u16_at l 0 ≤ i → find t (entries_of l) ≡ none
  slot-end z past = before-all t (entries_of l) i (omega (arith, length-entries_of l)) z
