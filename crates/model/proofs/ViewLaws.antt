-- What a put, an insert, a removal, a begin and a step can answer, case by case, with the tests that led there.
use Rattle.std.specs.Prelude.{◌≡◌, refl, Bool, true, false, List, [], ◌∷◌, ◌++◌, ℕ, suc, ◌+◌, ◌≤◌, ◌<◌, eqb, leb, ltb}
use Rattle.std.proofs.Math.Option.{Option, none, some}
use Rattle.std.proofs.Common.{leb-true, leb-false}
use Rattle.lists.specs.Lists.{b2n, tally, find}
use Rattle.address.specs.Address.{buckets_at, point}
use Rattle.page.specs.declared.Pair.{Pair}
use Rattle.page.specs.declared.Entry.{Entry}
use Rattle.model.specs.declared.Refusal.{Refusal}
use Rattle.model.specs.declared.Stop.{Stop}
use Rattle.model.specs.Index.{Chain, Job, idle, copying, clearing, Index, entries_in, chain, entries_at, bucket}
use Rattle.model.specs.Index.{new_bucket, old_bucket, top_bit, set_chain, set_job}
use Rattle.model.specs.Pages.{chain_room, add_entry, add_page, Taken, take_page, put_in, put, cut}
use Rattle.model.specs.Held.{held, wanted}
use Rattle.model.specs.Steps.{Step, next, stopped, or_full, widen, begin_in, begin, moves, to_copy, copy_in, clear_in}
use Rattle.model.specs.Steps.{step_in, step}
use Rattle.model.specs.Calls.{pair_ok, Result, done, refused, or_no_room, insert_in, insert, cut_held, remove_in}
use Rattle.model.specs.Calls.{remove}
use Rattle.model.specs.ChainLaws.{tally-add, tally-page}

abbrev pub unmoved_entry : Pair → Entry
unmoved_entry p = record { pair = p; moved = false }

abbrev pub moved_entry : Pair → Entry
moved_entry p = record { pair = p; moved = true }

-- ---- put

pub data Putting (x : Index) (b : ℕ) (e : Entry) : Option Index → Type 0 where
  full : chain_room (chain x b) ≡ false → take_page x ≡ none → Putting x b e none
  in_page : chain_room (chain x b) ≡ true → Putting x b e (some (set_chain x x.spares b (add_entry e (chain x b))))
  in_new : (t : Taken) → chain_room (chain x b) ≡ false → take_page x ≡ some t
      → Putting x b e (some (set_chain x t.spares b (add_page t.bit e (chain x b))))

pub put_view : (x : Index) (b : ℕ) (e : Entry) → Putting x b e (put x b e)
unfolding put
put_view x b e = go (chain_room (chain x b)) (take_page x) refl refl
  where
    go : (r : Bool) (t : Option Taken) → chain_room (chain x b) ≡ r → take_page x ≡ t → Putting x b e (put_in r t x b e)
    go true t k l = in_page k
    go false none k l = full k l
    go false (some t) k l = in_new t k l

-- what a put leaves: another chain at b, with the entry more, and its spares
pub record PutAs (x : Index) (b : ℕ) (e : Entry) (y : Index) : Type 0 where
  pub spares : List ℕ
  pub pages : Chain
  pub index : y ≡ set_chain x spares b pages
  pub numbers : (t : Entry → Bool) → tally t (entries_in pages) ≡ b2n (t e) + tally t (entries_at x b)

pub put_as : {x : Index} {b : ℕ} {e : Entry} {y : Index} → Putting x b e (some y) → PutAs x b e y
put_as {x} {b} {e} (in_page k) =
    record {
      spares = x.spares;
      pages = add_entry e (chain x b);
      index = refl;
      numbers = λ f. tally-add f e (chain x b) k;
    }
put_as {x} {b} {e} (in_new t r k) =
    record {
      spares = t.spares;
      pages = add_page t.bit e (chain x b);
      index = refl;
      numbers = λ f. tally-page f e t.bit (chain x b);
    }

-- ---- insert and remove

pub data Inserting (x : Index) (q : Pair) : Result → Type 0 where
  wrong : pair_ok q ≡ false → Inserting x q (refused Refusal.Number)
  already : pair_ok q ≡ true → held x q ≡ true → Inserting x q (refused Refusal.HeldAlready)
  no_room : pair_ok q ≡ true → held x q ≡ false → Putting x (bucket x q) (unmoved_entry q) none
      → Inserting x q (refused Refusal.NoRoom)
  inserted : {y : Index} → pair_ok q ≡ true → held x q ≡ false → Putting x (bucket x q) (unmoved_entry q) (some y)
      → Inserting x q (done y)

pub insert-view : (x : Index) (q : Pair) → Inserting x q (insert x q)
unfolding insert
insert-view x q = go (pair_ok q) (held x q) refl refl
  where
    put-in : {r : Option Index} → pair_ok q ≡ true → held x q ≡ false → Putting x (bucket x q) (unmoved_entry q) r
        → Inserting x q (or_no_room r)
    put-in {r = none} k l v = no_room k l v
    put-in {r = some y} k l v = inserted k l v

    go : (b h : Bool) → pair_ok q ≡ b → held x q ≡ h → Inserting x q (insert_in b h x q)
    go false h k l = Inserting.wrong k
    go true true k l = already k l
    go true false k l = put-in k l (put_view x (bucket x q) (unmoved_entry q))

pub data Removing (x : Index) (q : Pair) : Result → Type 0 where
  wrong : pair_ok q ≡ false → Removing x q (refused Refusal.Number)
  absent : pair_ok q ≡ true → held x q ≡ false → Removing x q (refused Refusal.NotHeld)
  removed : pair_ok q ≡ true → held x q ≡ true
      → Removing x q (done (cut_held x.job x q (eqb (bucket x q) (new_bucket x))))

pub remove-view : (x : Index) (q : Pair) → Removing x q (remove x q)
unfolding remove
remove-view x q = go (pair_ok q) (held x q) refl refl
  where
    go : (b h : Bool) → pair_ok q ≡ b → held x q ≡ h → Removing x q (remove_in b h x q)
    go false h k l = Removing.wrong k
    go true true k l = removed k l
    go true false k l = absent k l

-- ---- begin and step

pub data Beginning (x : Index) : Option Index → Type 0 where
  no_point : ltb (point x.max_bucket) (point (suc x.max_bucket)) ≡ true
      → x.size < buckets_at (suc (point x.max_bucket)) + top_bit x + 1 → Beginning x none
  same_point : ltb (point x.max_bucket) (point (suc x.max_bucket)) ≡ false → Beginning x (some (widen x x.spares))
  new_point : ltb (point x.max_bucket) (point (suc x.max_bucket)) ≡ true
      → buckets_at (suc (point x.max_bucket)) + top_bit x + 1 ≤ x.size
      → Beginning x (some (widen x (x.spares ++ top_bit x ∷ [])))

pub begin-view : (x : Index) → Beginning x (begin x)
unfolding begin
begin-view x = go _ _ refl refl
  where
    go : (a b : Bool) → ltb (point x.max_bucket) (point (suc x.max_bucket)) ≡ a
        → leb (buckets_at (suc (point x.max_bucket)) + top_bit x + 1) x.size ≡ b → Beginning x (begin_in a b x)
    go false b k l = same_point k
    go true true k l = new_point k (leb-true _ x.size l)
    go true false k l = no_point k (leb-false _ x.size l)

pub data Stepping (x : Index) : Step Index → Type 0 where
  resting : x.job ≡ idle → wanted x ≡ false → Stepping x (stopped Stop.Idle)
  unbegun : x.job ≡ idle → wanted x ≡ true → Beginning x none → Stepping x (stopped Stop.NoRoom)
  began : {y : Index} → x.job ≡ idle → wanted x ≡ true → Beginning x (some y) → Stepping x (next y)
  uncopied : x.job ≡ copying → (e : Entry) → find (to_copy x) (entries_at x (old_bucket x)) ≡ some e
      → Putting x (new_bucket x) (moved_entry e.pair) none → Stepping x (stopped Stop.NoRoom)
  copied : {y : Index} → x.job ≡ copying → (e : Entry) → find (to_copy x) (entries_at x (old_bucket x)) ≡ some e
      → Putting x (new_bucket x) (moved_entry e.pair) (some y) → Stepping x (next y)
  copied_all : x.job ≡ copying → find (to_copy x) (entries_at x (old_bucket x)) ≡ none
      → Stepping x (next (set_job x clearing))
  cleared : x.job ≡ clearing → (e : Entry) → find (moves x) (entries_at x (old_bucket x)) ≡ some e
      → Stepping x (next (cut e.pair (old_bucket x) x))
  cleared_all : x.job ≡ clearing → find (moves x) (entries_at x (old_bucket x)) ≡ none
      → Stepping x (next (set_job x idle))

pub step-view : (x : Index) → Stepping x (step x)
unfolding step
step-view x = go x.job (wanted x) refl refl
  where
    begin-in : {r : Option Index} → x.job ≡ idle → wanted x ≡ true → Beginning x r → Stepping x (or_full r)
    begin-in {r = none} j k v = unbegun j k v
    begin-in {r = some y} j k v = began j k v

    put-in : {r : Option Index} → x.job ≡ copying → (e : Entry) → find (to_copy x) (entries_at x (old_bucket x)) ≡ some e
        → Putting x (new_bucket x) (moved_entry e.pair) r → Stepping x (or_full r)
    put-in {r = none} j e k v = uncopied j e k v
    put-in {r = some y} j e k v = copied j e k v

    copy-view : (f : Option Entry) → x.job ≡ copying → find (to_copy x) (entries_at x (old_bucket x)) ≡ f
        → Stepping x (copy_in f x)
    copy-view (some e) j k = put-in j e k (put_view x (new_bucket x) (moved_entry e.pair))
    copy-view none j k = copied_all j k

    clear-view : (f : Option Entry) → x.job ≡ clearing → find (moves x) (entries_at x (old_bucket x)) ≡ f
        → Stepping x (clear_in f x)
    clear-view (some e) j k = cleared j e k
    clear-view none j k = cleared_all j k

    go : (j : Job) (w : Bool) → x.job ≡ j → wanted x ≡ w → Stepping x (step_in j w x)
    go idle true e k = begin-in e k (begin-view x)
    go idle false e k = resting e k
    go copying w e k = copy-view (find (to_copy x) (entries_at x (old_bucket x))) e refl
    go clearing w e k = clear-view (find (moves x) (entries_at x (old_bucket x))) e refl
