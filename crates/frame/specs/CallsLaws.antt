-- THE FRAME: an accepted insert, an accepted removal and a step leave every block but a few, at most eight, as it was.
use Rattle.std.specs.Prelude.{◌≡◌, Bool, true, false, ◌||◌, ℕ, ◌≤◌, ◌<◌, eqb, ltb, length}
use Rattle.std.proofs.Math.Path.{refl}
use Rattle.std.proofs.Common.{subst, arith, ltb-true, length-append}
use Rattle.std.proofs.Math.Option.{Option, none, some}
use Rattle.lists.specs.Lists.{find}
use Rattle.address.specs.Address.{point, made}
use Rattle.page.specs.declared.Pair.{Pair}
use Rattle.page.specs.declared.Entry.{Entry}
use Rattle.model.specs.Index.{Chain, Job, idle, copying, clearing, Index, chain, entries_at, bucket, new_bucket}
use Rattle.model.specs.Index.{old_bucket, set_chain}
use Rattle.model.specs.Pages.{chain_room, add_page, free_bit, Taken, take_from, take_page}
use Rattle.model.specs.Steps.{Step, next, moves, to_copy, step}
use Rattle.model.specs.Calls.{Result, done, cut_held, insert, remove}
use Rattle.model.specs.WellFormed.{Laid, WF}
use Rattle.model.proofs.HeldLaws.{home-range, old-range, new-range}
use Rattle.model.proofs.ViewLaws.{Putting, in_page, in_new, Inserting, insert-view, inserted, Removing, remove-view}
use Rattle.model.proofs.ViewLaws.{removed, Stepping, step-view, began, copied, copied_all, cleared, cleared_all}
use Rattle.model.proofs.MachineLaws.{never}
use Rattle.image.specs.Layout.{encode_block}
use Rattle.frame.specs.Frame.{Apart, map_blocks, pair_blocks, frees_at, put_alters, put_blocks, cut_blocks}
use Rattle.frame.specs.Frame.{cuts_blocks, remove_alters, remove_blocks, copy_blocks, clear_blocks, step_alters}
use Rattle.frame.specs.Frame.{step_blocks}
use Rattle.frame.specs.PutLaws.{frame-room, frame-again}
use Rattle.frame.specs.FreshLaws.{frame_fresh}
use Rattle.frame.specs.RemoveLaws.{stands-once, frame-cut}
use Rattle.frame.specs.CutsLaws.{frame-cuts}
use Rattle.frame.specs.JobLaws.{frame-copied, frame-cleared}
use Rattle.frame.specs.BeginLaws.{frame-begin}

-- ---- a put

module _ (x : Index) (l : Laid x) (b : ℕ) (fits : b < length x.chains) (e : Entry) where
  given : (u t : Taken) → some u ≡ some t → (k : ℕ)
      → encode_block (set_chain x u.spares b (add_page u.bit e (chain x b))) k ≡ encode_block x k
      → encode_block (set_chain x t.spares b (add_page t.bit e (chain x b))) k ≡ encode_block x k
  given u t q k h =
      let s : u ≡ t = cc in
      subst (λ (u : Taken). encode_block (set_chain x u.spares b (add_page u.bit e (chain x b))) k
      ≡ encode_block x k) s h

  taken : (f : Option ℕ) (r : Bool) (t : Taken) → free_bit x ≡ f
      → ltb (made x.spares (point x.max_bucket)) x.size ≡ r
      → take_from f r x.spares (point x.max_bucket) ≡ some t → (k : ℕ) → Apart k (put_alters false f x b)
      → encode_block (set_chain x t.spares b (add_page t.bit e (chain x b))) k ≡ encode_block x k
  taken (some n) r t q h v k a = given _ t v k (frame-again x l b fits e n k a)
  taken none true t q h v k a = given _ t v k (frame_fresh x l b fits e (ltb-true _ x.size h) k a)
  taken none false t q h v k a = never (cc)

  pub frame-put : {y : Index} → Putting x b e (some y) → (k : ℕ) → Apart k (put_blocks x b)
      → encode_block y k ≡ encode_block x k
  unfolding take_page
  frame-put (in_page r) k a =
      frame-room x l b fits e (free_bit x) k (subst (λ (c : Bool). Apart k (put_alters c (free_bit x) x b)) r a)
  frame-put (in_new t r q) k a =
      taken (free_bit x) (ltb (made x.spares (point x.max_bucket)) x.size) t refl refl q k
      (subst (λ (c : Bool). Apart k (put_alters c (free_bit x) x b)) r a)

-- ---- calls and steps

module _ (x : Index) (w : WF x) where
  pub frame-insert : (p : Pair) (y : Index) → insert x p ≡ done y → (k : ℕ) → Apart k (put_blocks x (bucket x p))
      → encode_block y k ≡ encode_block x k
  frame-insert p y e k a = go (insert x p) (insert-view x p) e
    where
      go : (r : Result) → Inserting x p r → r ≡ done y → encode_block y k ≡ encode_block x k
      go r (Inserting.wrong q) e = never (cc)
      go r (Inserting.already q h) e = never (cc)
      go r (Inserting.no_room q h v) e = never (cc)
      go r (inserted {y = z} q h v) e =
          let s : z ≡ y = cc in
          subst (λ (z : Index). encode_block z k ≡ encode_block x k) s
          (frame-put x w.laid (bucket x p) (home-range x w.laid p) _ v k a)

  pub frame-remove : (p : Pair) (y : Index) → remove x p ≡ done y → (k : ℕ) → Apart k (remove_blocks x p)
      → encode_block y k ≡ encode_block x k
  frame-remove p y e k a = go (remove x p) (remove-view x p) e
    where
      cuts : (j : Job) (new : Bool) → Apart k (remove_alters j new x p) → encode_block (cut_held j x p new) k ≡ encode_block x k
      cuts idle new a =
          frame-cut x w.laid (bucket x p) (home-range x w.laid p) p (stands-once x w p (bucket x p)) k a
      cuts clearing new a =
          frame-cut x w.laid (bucket x p) (home-range x w.laid p) p (stands-once x w p (bucket x p)) k a
      cuts copying true a = frame-cuts x w p k a
      cuts copying false a =
          frame-cut x w.laid (bucket x p) (home-range x w.laid p) p (stands-once x w p (bucket x p)) k a

      go : (r : Result) → Removing x p r → r ≡ done y → encode_block y k ≡ encode_block x k
      go r (Removing.wrong q) e = never (cc)
      go r (Removing.absent q h) e = never (cc)
      go r (removed q h) e =
          let s : cut_held x.job x p (eqb (bucket x p) (new_bucket x)) ≡ y = cc in
          subst (λ (z : Index). encode_block z k ≡ encode_block x k) s (cuts x.job (eqb (bucket x p) (new_bucket x)) a)

  pub frame_step : (y : Index) → step x ≡ next y → (k : ℕ) → Apart k (step_blocks x) → encode_block y k ≡ encode_block x k
  frame_step y e k a = go (step x) (step-view x) e
    where
      At : Index → Type 0
      At z = encode_block z k ≡ encode_block x k

      -- the list of this job
      of : (j : Job) → x.job ≡ j → Apart k (step_alters j x)
      of j q = subst (λ (j : Job). Apart k (step_alters j x)) q a

      copies : x.job ≡ copying → (f : Option Entry) → find (to_copy x) (entries_at x (old_bucket x)) ≡ f
          → Apart k (copy_blocks f x)
      copies q f h = subst (λ (f : Option Entry). Apart k (copy_blocks f x)) h (of copying q)

      clears : x.job ≡ clearing → (f : Option Entry) → find (moves x) (entries_at x (old_bucket x)) ≡ f
          → Apart k (clear_blocks f x)
      clears q f h = subst (λ (f : Option Entry). Apart k (clear_blocks f x)) h (of clearing q)

      same : (z : Index) → ◌≡◌ {A = Step Index} (next z) (next y) → z ≡ y
      same z q = cc

      go : (r : Step Index) → Stepping x r → r ≡ next y → encode_block y k ≡ encode_block x k
      go r (Stepping.resting q h) e = never (cc)
      go r (Stepping.unbegun q h v) e = never (cc)
      go r (Stepping.uncopied q f h v) e = never (cc)
      go r (began {y = z} q h v) e = subst At (same z e) (frame-begin x w.laid q v k (of idle q))
      go r (copied {y = z} q f h v) e =
          subst At (same z e) (frame-put x w.laid (new_bucket x) (new-range x w.laid) _ v k (copies q (some f) h))
      go r (copied_all q h) e = subst At (same _ e) (frame-copied x w.laid k (copies q none h))
      go r (cleared q f h) e =
          subst At (same _ e)
          (frame-cut x w.laid (old_bucket x) (old-range x w.laid) f.pair
          (stands-once x w f.pair (old_bucket x)) k
          (clears q (some f) h))
      go r (cleared_all q h) e = subst At (same _ e) (frame-cleared x w.laid q k (clears q none h))

-- ---- at most eight

put-few : (x : Index) (b : ℕ) → length (put_blocks x b) ≤ 4
put-few x b = go (chain_room (chain x b)) (free_bit x)
  where
    go : (r : Bool) (f : Option ℕ) → length (put_alters r f x b) ≤ 4
    go true f = omega arith
    go false (some n) = omega arith
    go false none = omega arith

map-few : (x : Index) (f : Bool) → length (map_blocks f x) ≤ 1
map-few x true = omega arith
map-few x false = omega arith

pair-few : (f : Bool) (x : Index) (b : ℕ) (c : Chain) (p : Pair) → length (pair_blocks f x b c p) ≤ 3
pair-few true x b c p = omega arith
pair-few false x b c p = omega arith

cut-few : (x : Index) (b : ℕ) (p : Pair) → length (cut_blocks x b p) ≤ 5
cut-few x b p =
    let f : Bool = frees_at x b p in
    simp length-append (omega (arith, map-few x f, pair-few f x b (chain x b) p))

cuts-few : (x : Index) (p : Pair) → length (cuts_blocks x p) ≤ 8
cuts-few x p =
    let o : ℕ = old_bucket x in
    let n : ℕ = new_bucket x in
    simp length-append
    (omega (
      arith,
      map-few x (frees_at x o p || frees_at x n p),
      pair-few (frees_at x o p) x o (chain x o) p,
      pair-few (frees_at x n p) x n (chain x n) p,
    ))

module _ (x : Index) where
  pub few-insert : (p : Pair) → length (put_blocks x (bucket x p)) ≤ 8
  few-insert p = omega (arith, put-few x (bucket x p))

  pub few-remove : (p : Pair) → length (remove_blocks x p) ≤ 8
  few-remove p = go x.job (eqb (bucket x p) (new_bucket x))
    where
      go : (j : Job) (new : Bool) → length (remove_alters j new x p) ≤ 8
      go idle new = omega (arith, cut-few x (bucket x p) p)
      go clearing new = omega (arith, cut-few x (bucket x p) p)
      go copying true = cuts-few x p
      go copying false = omega (arith, cut-few x (bucket x p) p)

  pub few-step : length (step_blocks x) ≤ 8
  few-step = go x.job
    where
      copies : (f : Option Entry) → length (copy_blocks f x) ≤ 8
      copies (some e) = omega (arith, put-few x (new_bucket x))
      copies none = omega arith

      clears : (f : Option Entry) → length (clear_blocks f x) ≤ 8
      clears (some e) = omega (arith, cut-few x (old_bucket x) e.pair)
      clears none = omega arith

      go : (j : Job) → length (step_alters j x) ≤ 8
      go idle = omega arith
      go copying = copies (find (to_copy x) (entries_at x (old_bucket x)))
      go clearing = clears (find (moves x) (entries_at x (old_bucket x)))
