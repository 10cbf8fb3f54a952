-- The turns of the loop that writes pairs out: what is left to write is what is left of the merged pages.
use mathlib.Core.Path.{◌≡◌, refl, sym, ap, ap₂, ◌∙◌, subst}
use mathlib.Core.Logic.{◌≢◌}
use mathlib.Core.Bool.{Bool, true, false, cond}
use mathlib.Core.List.{List, [], ◌∷◌, ◌++◌}
use Prim.Native.Nat.{ℕ, suc, ◌+◌, ◌*◌, ◌-◌, ◌/◌, ◌≤◌, ◌<◌}
use native.Mathlib.Omega.{arith}
use borrow.Author.Tests.{eq-eqb}
use lib.ListN.{length, get_or, drop, length-append}
use lib.Seq.{sets, sets-eq, length-sets}
use Rattle.lists.specs.Lists.{tally, bind}
use Rattle.lists.specs.BytesLaws.{sets-append}
use Rattle.endian.specs.Endian.{le16, le32}
use Rattle.page.specs.declared.Pair.{Pair}
use Rattle.page.specs.declared.Entry.{Entry}
use Rattle.page.specs.Pair.{pair_of, ascending}
use Rattle.model.specs.Held.{self, sorted}
use Rattle.model.specs.SortedLaws.{length-sorted}
use Rattle.model.specs.Calls.{place_bytes}
use Rattle.chain.specs.Pairs.{counts, is_match}
use Rattle.merge.specs.Merge.{joined, Best, Taken}
use Rattle.merge.specs.MergeLaws.{taken-tally}
use Rattle.merge.specs.declared.First.{First}
use Rattle.merge.specs.declared.Merge.{Merge}
use Rattle.merge.specs.Heads.{first_at, first_of, pair_from, no_key, left_of, Merging, Moved, Underway, Advanced}
use Rattle.merge.specs.MergingLaws.{first-below, merging-up, merging-upto, merging-best, merging-none, first-left}
use Rattle.view.specs.Left.{pairs_left, fresh_at, NoLower, Told}
use Rattle.view.specs.ToldLaws.{merging-told}
use Rattle.view.specs.LeftLaws.{left-none, left-past, turn-above, turn-once, turn-skip, turn-first}
use Rattle.view.specs.Lookup.{written, Listable}

pub length-place_bytes : (p : Pair) → length (place_bytes p) ≡ 6
unfolding le32 le16
length-place_bytes p = refl

length-places : (ps : List Pair) → length (bind ps place_bytes) ≡ 6 * length ps
length-places [] = refl
length-places (p ∷ ps) =
    length-append (place_bytes p) (bind ps place_bytes) ∙ omega (arith, length-place_bytes p, length-places ps)

-- what is still to be written, ps of them, is written from place 0 on
written_start : (ps : List Pair) (out : List ℕ) → 6 * length ps ≤ length out
    → written ps out ≡ sets out 0 (bind ps place_bytes)
unfolding written
written_start ps out room =
    let n : 0 + length (bind ps place_bytes) ≡ 6 * length ps = omega (arith, length-places ps) in
    sym (sets-eq (bind ps place_bytes) out 0 (omega (arith, n))
    ∙ ap (λ (k : ℕ). bind ps place_bytes ++ drop k out) n)

-- what is left to write from the place `at` on is what is left of the pages
pub record Listed (f : ℕ → List Entry) (n k h : ℕ) (fresh : Bool) (whole out : List ℕ) (at : ℕ) : Type 0 where
  pub once : ascending self (sorted (pairs_left f n k h fresh)) ≡ true
  pub above : NoLower f (n + k) h
  pub room : at + 6 * length (pairs_left f n k h fresh) ≤ length out
  pub rest : whole ≡ sets out at (bind (sorted (pairs_left f n k h fresh)) place_bytes)

pub list-start : (f : ℕ → List Entry) (n k h : ℕ) (fresh : Bool) (out : List ℕ) → NoLower f (n + k) h
    → Listable (pairs_left f n k h fresh) out
    → Listed f n k h fresh (written (sorted (pairs_left f n k h fresh)) out) out 0
list-start f n k h fresh out above all =
    let ps : List Pair = pairs_left f n k h fresh in
    record {
      once = all.ascends;
      above = above;
      room = omega (arith, all.room);
      rest = written_start (sorted ps) out (omega (arith, length-sorted ps, all.room));
    }

-- nothing is left
list_done : (f : ℕ → List Entry) (n k h : ℕ) (fresh : Bool) (whole out : List ℕ) (at : ℕ)
    → Listed f n k h fresh whole out at → pairs_left f n k h fresh ≡ [] → out ≡ whole
list_done f n k h fresh whole out at l z =
    sym (l.rest ∙ ap (λ (ps : List Pair). sets out at (bind (sorted ps) place_bytes)) z)

-- the list with an entry taken
module _ (n k h : ℕ) (fresh : Bool) (f g : ℕ → List Entry) {j : ℕ} {e : Entry} (best : Best f (n + k) j)
    (up : (i : ℕ) → i < n + k → ascending pair_of (f i) ≡ true) (taken : Taken f g j e) (code : e.pair.hash ≡ h)
    {whole out : List ℕ} {at : ℕ} (l : Listed f n k h fresh whole out at) where
  abbrev ps : List Pair
  ps = pairs_left f n k h fresh

  abbrev qs : List Pair
  qs = pairs_left g n k h fresh

  abbrev c : Bool
  c = counts (fresh_at fresh n j) e

  matches : (b : Bool) → c ≡ b → is_match h (fresh_at fresh n j) e ≡ b
  matches true q = rw q (eq-eqb e.pair.hash h code)
  matches false q = rw q

  first : c ≡ true → sorted ps ≡ e.pair ∷ sorted qs
  first q = turn-first n k h fresh f best up e g taken l.once (matches true q)

  counted : c ≡ true → length ps ≡ suc (length qs)
  counted q = omega (arith, ap length (first q), length-sorted ps, length-sorted qs)

  pub turn-room : counts (fresh_at fresh n j) e ≡ true → at + 6 ≤ length out
  turn-room q = omega (arith, counted q, l.room)

  pub turn-listed : (out' : List ℕ) (at' : ℕ)
      → out' ≡ cond (counts (fresh_at fresh n j) e) (sets out at (place_bytes e.pair)) out
      → at' ≡ cond (counts (fresh_at fresh n j) e) (at + 6) at
      → Listed g n k h fresh whole out' at'
  turn-listed out' at' o a = go c refl o a
    where
      go : (b : Bool) → c ≡ b → out' ≡ cond b (sets out at (place_bytes e.pair)) out → at' ≡ cond b (at + 6) at
          → Listed g n k h fresh whole out' at'
      go true q o a =
          let size : length out' ≡ length out = ap length o ∙ length-sets out at (place_bytes e.pair) in
          let rest : List ℕ = bind (sorted qs) place_bytes in
          record {
            once = turn-once n k h fresh f best up e g taken l.once;
            above = turn-above n k h fresh f best up e g taken l.above;
            room = omega (arith, a, size, counted q, l.room);
            rest =
                l.rest ∙ ap (λ (ps : List Pair). sets out at (bind ps place_bytes)) (first q)
                ∙ sym (sets-append (place_bytes e.pair) rest out at)
                ∙ ap (λ (m : ℕ). sets (sets out at (place_bytes e.pair)) (at + m) rest) (length-place_bytes e.pair)
                ∙ ap (λ (x : List ℕ). sets x (at + 6) rest) (sym o) ∙ ap (λ (m : ℕ). sets out' m rest) (sym a);
          }
      go false q o a =
          let same = turn-skip n k h fresh f best up e g taken l.once (matches false q) in
          let rest : List ℕ = bind (sorted qs) place_bytes in
          record {
            once = turn-once n k h fresh f best up e g taken l.once;
            above = turn-above n k h fresh f best up e g taken l.above;
            room = omega (
              arith,
              a,
              ap length o,
              ap length same,
              l.room,
              length-sorted ps,
              length-sorted qs,
            );
            rest =
                l.rest ∙ ap (λ (ps : List Pair). sets out at (bind ps place_bytes)) same
                ∙ ap (λ (x : List ℕ). sets x at rest) (sym o) ∙ ap (λ (m : ℕ). sets out' m rest) (sym a);
          }

-- ---- a merge under way

-- the entries that are left
abbrev pub entries_left : (s ks tails : List ℕ) (n : ℕ) → ℕ
entries_left s ks tails n = tally (λ e. true) (joined (left_of s ks tails) 0 n)

module _ {s ks keys tails tree : List ℕ} {n k h : ℕ} {fresh : Bool} (m : Merging s ks (n + k) keys tails tree)
    (some : 1 ≤ n + k) {whole out : List ℕ} {at : ℕ} (l : Listed (left_of s ks tails) n k h fresh whole out at) where
  abbrev j : ℕ
  j = get_or tree 1 0

  pub list-none : get_or keys (get_or tree 1 0) 0 ≡ no_key → out ≡ whole
  list-none z =
      list_done (left_of s ks tails) n k h fresh whole out at l
      (left-none n k h fresh (left_of s ks tails) (merging-best m some) (merging-none m some z))

  module _ (more : get_or keys (get_or tree 1 0) 0 < no_key) where
    abbrev e : Entry
    e = first_at s (get_or ks j 0) (get_or tails j 0)

    told : Told s (get_or ks j 0) (get_or keys j 0) (get_or tails j 0)
    told = merging-told m some more

    code : e.pair.hash ≡ get_or keys j 0 / 4294967296
    code = sym (ap (λ (p : Pair). p.hash) told.pair)

    pub list-past : get_or keys (get_or tree 1 0) 0 / 4294967296 ≢ h → out ≡ whole
    list-past ne =
        list_done (left_of s ks tails) n k h fresh whole out at l
        (left-past n k h fresh (left_of s ks tails) (merging-best m some) (merging-up m) e _ (first-left m some more)
        l.above (λ q. ne (sym code ∙ q)))

    module _ (here : get_or keys (get_or tree 1 0) 0 / 4294967296 ≡ h) {keys' tails' tree' : List ℕ}
        (v : Moved s ks (n + k) tree tails keys' tails' tree') where
      is-first : v.entry ≡ e
      is-first = let q = sym v.taken.here ∙ first-left m some more in cc

      taken : Taken (left_of s ks tails) (left_of s ks tails') j e
      taken = rw is-first at v.taken

      pub list-less : entries_left s ks tails' (n + k) < entries_left s ks tails (n + k)
      list-less =
          omega (
            arith,
            taken-tally (left_of s ks tails) (left_of s ks tails') taken (λ e. true) 0 (n + k) (omega arith)
                (omega (arith, merging-upto m some)),
          )

      module _ {b : Bool} (own : b ≡ fresh_at fresh n (get_or tree 1 0)) where
        told-counts : counts b e ≡ counts (fresh_at fresh n j) e
        told-counts = ap (λ (d : Bool). counts d e) own

        pub list-room : counts b (first_at s (get_or ks (get_or tree 1 0) 0) (get_or tails (get_or tree 1 0) 0)) ≡ true
            → at + 6 ≤ length out
        list-room q =
            turn-room n k h fresh (left_of s ks tails) (left_of s ks tails') (merging-best m some) (merging-up m) taken
            (code ∙ here) l (sym told-counts ∙ q)

        pub list-turn : (out' : List ℕ) (at' : ℕ)
            → out' ≡ cond (counts b (first_at s (get_or ks (get_or tree 1 0) 0) (get_or tails (get_or tree 1 0) 0)))
            (sets out at (place_bytes (pair_from (get_or keys (get_or tree 1 0) 0) (get_or tails (get_or tree 1 0) 0 / 64)))) out
            → at' ≡ cond (counts b (first_at s (get_or ks (get_or tree 1 0) 0) (get_or tails (get_or tree 1 0) 0))) (at + 6) at
            → Listed (left_of s ks tails') n k h fresh whole out' at'
        list-turn out' at' o a =
            turn-listed n k h fresh (left_of s ks tails) (left_of s ks tails') (merging-best m some) (merging-up m) taken
            (code ∙ here) l out' at'
            (o ∙ ap₂ (λ (d : Bool) (p : Pair). cond d (sets out at (place_bytes p)) out) told-counts told.pair)
            (a ∙ ap (λ (d : Bool). cond d (at + 6) at) told-counts)

-- ---- by what `first` answers of a merge g of the pages ks, the first n of which are own ones

module _ {s ks : List ℕ} {n h : ℕ} {fresh : Bool} (g : Merge) (u : Underway s ks g) (some : 1 ≤ length ks)
    (upto : n ≤ length ks) {whole out : List ℕ} {at : ℕ}
    (l : Listed (left_of s ks g.tails) n (length ks - n) h fresh whole out at) where
  both : length ks ≡ n + (length ks - n)
  both = omega (arith, upto)

  joint : Merging s ks (n + (length ks - n)) g.keys g.tails g.tree
  joint = subst (λ (m : ℕ). Merging s ks m g.keys g.tails g.tree) both u

  pub done-none : get_or g.keys (get_or g.tree 1 0) 0 ≡ no_key → out ≡ whole
  done-none = list-none joint (omega (arith, some, both)) l

  module _ (f : First) (is : (f.key ≢ no_key) × (f ≡ first_of g)) where
    more : get_or g.keys (get_or g.tree 1 0) 0 < no_key
    more = first-below g u some f is

    key : f.key ≡ get_or g.keys (get_or g.tree 1 0) 0
    key = ap (λ (x : First). x.key) is.1

    pub first-told : Told s (get_or ks f.page 0) f.key f.tail
    first-told = subst (λ (x : First). Told s (get_or ks x.page 0) x.key x.tail) (sym is.1) (merging-told u some more)

    pub done-past : f.key / 4294967296 ≢ h → out ≡ whole
    done-past ne = list-past joint (omega (arith, some, both)) l more (λ e. ne (ap (λ (k : ℕ). k / 4294967296) key ∙ e))

    module _ (here : f.key / 4294967296 ≡ h) (g' : Merge) (v : Advanced s ks g g') where
      same : get_or g.keys (get_or g.tree 1 0) 0 / 4294967296 ≡ h
      same = sym (ap (λ (k : ℕ). k / 4294967296) key) ∙ here

      moved : Moved s ks (n + (length ks - n)) g.tree g.tails g'.keys g'.tails g'.tree
      moved = subst (λ (m : ℕ). Moved s ks m g.tree g.tails g'.keys g'.tails g'.tree) both v

      pub first-less : entries_left s ks g'.tails (length ks) < entries_left s ks g.tails (length ks)
      first-less =
          subst (λ (m : ℕ). entries_left s ks g'.tails m < entries_left s ks g.tails m) (sym both)
          (list-less joint (omega (arith, some, both)) l more same moved)

      module _ {b : Bool} (own : b ≡ fresh_at fresh n f.page) where
        own' : b ≡ fresh_at fresh n (get_or g.tree 1 0)
        own' = own ∙ ap (λ (x : First). fresh_at fresh n x.page) is.1

        pub first-room : counts b (first_at s (get_or ks f.page 0) f.tail) ≡ true → at + 6 ≤ length out
        first-room q =
            list-room joint (omega (arith, some, both)) l more same moved own'
            (sym (ap (λ (x : First). counts b (first_at s (get_or ks x.page 0) x.tail)) is.1) ∙ q)

        pub first-put : (out' : List ℕ) (at' : ℕ)
            → out' ≡ cond (counts b (first_at s (get_or ks f.page 0) f.tail))
            (sets out at (place_bytes (pair_from f.key (f.tail / 64)))) out
            → at' ≡ cond (counts b (first_at s (get_or ks f.page 0) f.tail)) (at + 6) at
            → Listed (left_of s ks g'.tails) n (length ks - n) h fresh whole out' at'
        first-put out' at' o a =
            list-turn joint (omega (arith, some, both)) l more same moved own' out' at'
            (o ∙ ap (λ (x : First). cond (counts b (first_at s (get_or ks x.page 0) x.tail))
            (sets out at (place_bytes (pair_from x.key (x.tail / 64)))) out) is.1)
            (a ∙ ap (λ (x : First). cond (counts b (first_at s (get_or ks x.page 0) x.tail)) (at + 6) at) is.1)
