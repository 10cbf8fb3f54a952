-- The insert of a pair: what the put is told of the index, and what the call comes to.
use Rattle.std.specs.Prelude.{◌≡◌, refl, Bool, true, false, List, ℕ, ◌+◌, ◌^◌, ◌≤◌, ◌<◌, Ok, Err}
use Rattle.std.proofs.Common.{sym, ◌∙◌, arith}
use Rattle.std.proofs.Math.Path.{ap}
use Rattle.std.proofs.Math.Option.{Option, some}
use Rattle.lists.specs.Lists.{any}
use Rattle.lists.specs.ListsLaws.{zero-any}
use Rattle.address.specs.Address.{bucket_of}
use Rattle.address.proofs.BucketLaws.{bucket-le}
use Rattle.page.specs.declared.Pair.{Pair}
use Rattle.page.specs.Pair.{is}
use Rattle.store.specs.declared.Change.{Change}
use Rattle.model.specs.declared.Refusal.{Refusal}
use Rattle.model.specs.Answers.{Answer}
use Rattle.model.specs.Index.{Index, entries_at, bucket, new_bucket, old_bucket}
use Rattle.model.specs.Pages.{put}
use Rattle.model.specs.Held.{held, count}
use Rattle.model.specs.Calls.{pair_ok, Result, done, refused, or_no_room, insert_in, insert}
use Rattle.model.specs.Machine.{inserting, CallFits}
use Rattle.model.specs.WellFormed.{unmoved_at, moved_at, WF}
use Rattle.model.proofs.BoundLaws.{count-le}
use Rattle.model.specs.PlacedLaws.{held-zero}
use Rattle.model.specs.HeldIn.{held_in}
use Rattle.model.proofs.HeldLaws.{is-parts, held-no}
use Rattle.model.proofs.InsertLaws.{insert-wf}
use Rattle.model.proofs.ViewLaws.{unmoved_entry}
use Rattle.image.specs.declared.Meta.{Meta}
use Rattle.image.specs.Decode.{decode}
use Rattle.frame.specs.MetaLaws.{insert-count}
use Rattle.view.specs.Reads.{Reads}
use Rattle.view.specs.ReadsLaws.{reads-laid, reads-max, reads-count}
use Rattle.plan.specs.Plan.{Settles, accepted, declined, Places, placed, full}

-- a refused call
pub settles-refused : {s : List ℕ} {c : Change} {images : List ℕ} {o : Result} {a : Answer} (r : Refusal)
    → o ≡ refused r → a ≡ Err r → c.count ≡ 0 → Settles s c images o a
settles-refused {s} {c} {images} r p q z = rw (p, q) (declined z)

-- the count has room for one more
pub count-more : {s : List ℕ} {m : Meta} → Reads s m → m.count + 1 < 2 ^ 32
count-more {s} r = omega (arith, reads-count r, count-le (decode s) r.wf, (reads-laid r).size)

module _ (x : Index) (p : Pair) (ok : pair_ok p ≡ true) where
  pub insert-held : held x p ≡ true → insert x p ≡ refused Refusal.HeldAlready
  unfolding insert
  insert-held h = λ i. insert_in (ok i) (h i) x p

  pub insert-put : held x p ≡ false → insert x p ≡ or_no_room (put x (bucket x p) (unmoved_entry p))
  unfolding insert
  insert-put h = λ i. insert_in (ok i) (h i) x p

module _ {s : List ℕ} {m : Meta} (r : Reads s m) (p : Pair) (ok : pair_ok p ≡ true) (free : held (decode s) p ≡ false)
    (b : ℕ) (home : b ≡ bucket_of m.max p.hash) where
  abbrev x : Index
  x = decode s

  home-is : b ≡ bucket x p
  home-is = home ∙ ap (λ (n : ℕ). bucket_of n p.hash) (reads-max r)

  pub home-under : b ≤ m.max
  home-under = omega (arith, home-is, bucket-le x.max_bucket p.hash (reads-laid r).two, reads-max r)

  put_is : insert x p ≡ or_no_room (put x b (unmoved_entry p))
  put_is = insert-put x p ok free ∙ ap (λ (d : ℕ). or_no_room (put x d (unmoved_entry p))) (sym home-is)

  -- no entry of the chain has the pair
  pub pair-absent : any (is p) (entries_at (decode s) b) ≡ false
  unfolding held_in
  pair-absent =
      ap (λ (d : ℕ). any (is p) (entries_at x d)) home-is
      ∙ zero-any (is p) (entries_at x (bucket x p))
      (is-parts p (entries_at x (bucket x p))
      ∙ held-zero (new_bucket x) (old_bucket x) (bucket x p) (unmoved_at x p) (moved_at x p) x.job (r.wf.placed p)
      (held-no x p free))

  pub put-leaves : CallFits (inserting p) → (y : Index) → put (decode s) b (unmoved_entry p) ≡ some y
      → (WF y) × (count y ≡ m.count + 1)
  put-leaves fits y e =
      let d : insert x p ≡ done y = put_is ∙ ap or_no_room e in
      (insert-wf x p y r.wf fits d, omega (arith, insert-count x r.wf p y fits d, reads-count r))

  -- what the call comes to, by what the put does
  module _ {c : Change} {images : List ℕ} {room : Bool}
      (at : Places s c images (put (decode s) b (unmoved_entry p)) room) where
    pub settles-done : room ≡ true → Settles s c images (insert (decode s) p) (Ok tt)
    settles-done h = rw put_is (go at h)
      where
        go : {o : Option Index} {t : Bool} → Places s c images o t → t ≡ true
            → Settles s c images (or_no_room o) (Ok tt)
        go (placed q) h = accepted q
        go (full z) h = let z : ◌≡◌ {A = ℕ} 0 1 = cc in absurd (omega arith)

    pub insert-full : room ≡ false → insert (decode s) p ≡ refused Refusal.NoRoom
    insert-full h = put_is ∙ go at h
      where
        go : {o : Option Index} {t : Bool} → Places s c images o t → t ≡ false → or_no_room o ≡ refused Refusal.NoRoom
        go (placed q) h = let z : ◌≡◌ {A = ℕ} 0 1 = cc in absurd (omega arith)
        go (full z) h = refl

    pub put-none : room ≡ false → c.count ≡ 0
    put-none h = go at h
      where
        go : {o : Option Index} {t : Bool} → Places s c images o t → t ≡ false → c.count ≡ 0
        go (placed q) h = let z : ◌≡◌ {A = ℕ} 0 1 = cc in absurd (omega arith)
        go (full z) h = z
