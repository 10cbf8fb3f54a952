-- No room (docs/RULES.md 6.3): exactly when neither the chain nor the overflow bits nor the blocks past the made ones
-- have any; when a step finds none.
use Rattle.std.specs.Prelude.{◌≡◌, refl, ◌↔◌, ◌⊎◌, Bool, true, false, ℕ, suc, ◌*◌, ◌≤◌, ◌<◌, eqb, length}
use Rattle.std.proofs.Common.{sym, ap, subst, inl, inr, arith, ltb-true, ltb-false, lt-ltb, le-ltb}
use Rattle.std.proofs.Math.Option.{Option, none, some}
use Rattle.lists.specs.Lists.{b2n, any, find, up_from}
use Rattle.lists.specs.ListsLaws.{any-yes, find-no, find-yes}
use Rattle.address.specs.Address.{point}
use Rattle.page.specs.declared.Pair.{Pair}
use Rattle.page.specs.declared.Entry.{Entry}
use Rattle.page.specs.PairLaws.{no_way}
use Rattle.model.specs.declared.Refusal.{Refusal}
use Rattle.model.specs.declared.Stop.{Stop}
use Rattle.model.specs.Index.{Job, idle, copying, clearing, Index, chain, entries_at, bucket, old_bucket}
use Rattle.model.specs.Index.{top_bit}
use Rattle.model.specs.Pages.{has_room, chain_room, bits_used, is_free, free_bit, Taken, put}
use Rattle.model.specs.Held.{held, count, wanted}
use Rattle.model.specs.Steps.{Step, stopped, to_copy, step}
use Rattle.model.specs.Calls.{pair_ok, Result, refused, insert}
use Rattle.model.specs.Steps.{copies_left}
use Rattle.model.specs.WellFormed.{uses}
use Rattle.model.specs.Room.{NoPage, Room, on_page, freed, unmade, NoPoint, NoStep}
use Rattle.model.specs.TallyLaws.{or_left, or_right, tally-up_from}
use Rattle.model.proofs.PackedLaws.{pages-full, full-pages}
use Rattle.model.proofs.LaidLaws.{TakenAs, nothing, again, fresh, take-view}
use Rattle.model.proofs.ViewLaws.{Putting, full, in_page, in_new, put_view, Inserting, already, no_room, inserted}
use Rattle.model.proofs.ViewLaws.{insert-view, Beginning, no_point, same_point, new_point, Stepping, resting}
use Rattle.model.proofs.ViewLaws.{unbegun}
use Rattle.model.proofs.ViewLaws.{began, uncopied, copied, copied_all, cleared, cleared_all, step-view}

-- ---- the overflow bits

free-not : (x : Index) (n : ℕ) → 1 ≤ n → n < top_bit x → any (eqb n) (bits_used x) ≡ false → is_free x n ≡ true
free-not x n l g e = rw (lt-ltb 0 n l, lt-ltb n (top_bit x) g, e)

bits-used : (x : Index) → free_bit x ≡ none → (n : ℕ) → 1 ≤ n → n < top_bit x → 1 ≤ uses n x
unfolding free_bit
bits-used x h n l g = go (any (eqb n) (bits_used x)) refl
  where
    go : (b : Bool) → any (eqb n) (bits_used x) ≡ b → 1 ≤ uses n x
    go true e = any-yes (eqb n) (bits_used x) e
    go false e =
        absurd (omega (
          arith,
          find-no (is_free x) (up_from 0 (top_bit x)) h,
          tally-up_from (is_free x) n 0 (top_bit x) (omega arith) (omega arith),
          ap b2n (free-not x n l g e),
        ))

-- ---- put and insert

module _ {x : Index} {b : ℕ} where
  no_page : chain_room (chain x b) ≡ false → TakenAs x none → NoPage x b
  no_page r (nothing f s) =
      record {
        first = ltb-false (length (chain x b).first) 40 (or_left (has_room (chain x b).first) _ r);
        more = pages-full (chain x b).more (or_right (has_room (chain x b).first) _ r);
        bits = λ n l g. omega (arith, bits-used x f n l g);
        blocks = s;
      }

  -- where there is room there is not none
  pub room-not : Room x b → NoPage x b → ⊥
  room-not (on_page r) f =
      no_way r (rw (le-ltb (length (chain x b).first) 40 f.first) (full-pages (chain x b).more f.more))
  room-not (freed n l g u) f = omega (arith, f.bits n l g)
  room-not (unmade l) f = omega (arith, f.blocks)

  pub putting-none : {e : Entry} → Putting x b e none → NoPage x b
  putting-none (full r t) = no_page r (rw t at (take-view x))

  pub no_page-none : {e : Entry} → NoPage x b → {r : Option Index} → Putting x b e r → r ≡ none
  no_page-none f (full r t) = refl
  no_page-none f (in_page r) = absurd (room-not (on_page r) f)
  no_page-none f (in_new t r k) = absurd (taken (rw k at (take-view x)))
    where
      taken : {t : Taken} → TakenAs x (some t) → ⊥
      taken (again n u l g) = room-not (freed n l g u) f
      taken (fresh e l) = room-not (unmade l) f

-- there is room or there is none
pub room-or-none : (x : Index) (b : ℕ) → Room x b ⊎ NoPage x b
room-or-none x b = go (chain_room (chain x b)) refl (take-view x)
  where
    go : (r : Bool) → chain_room (chain x b) ≡ r → {t : Option Taken} → TakenAs x t → Room x b ⊎ NoPage x b
    go true k t = inl (on_page k)
    go false k (nothing f s) = inr (no_page k (nothing f s))
    go false k (again n u l g) = inl (freed n l g u)
    go false k (fresh e l) = inl (unmade l)

pub put-none : (x : Index) (b : ℕ) (e : Entry) → (put x b e ≡ none) ↔ NoPage x b
put-none x b e = (λ h. putting-none (rw h at (put_view x b e)), λ f. no_page-none f (put_view x b e))

-- an insert that no earlier test refuses
pub insert-no_room : (x : Index) (q : Pair) → pair_ok q ≡ true → held x q ≡ false
    → (insert x q ≡ refused Refusal.NoRoom) ↔ NoPage x (bucket x q)
insert-no_room x q ok nh = (λ h. to (rw h at (insert-view x q)), λ f. from f (insert-view x q))
  where
    to : Inserting x q (refused Refusal.NoRoom) → NoPage x (bucket x q)
    to (no_room k l v) = putting-none v

    from : NoPage x (bucket x q) → {r : Result} → Inserting x q r → r ≡ refused Refusal.NoRoom
    from f (Inserting.wrong k) = no_way ok k
    from f (already k l) = no_way l nh
    from f (no_room k l v) = refl
    from f (inserted k l v) = let n = no_page-none f v in let z : ◌≡◌ {A = ℕ} 0 1 = cc in absurd (omega arith)

-- ---- a step

module _ {x : Index} where
  begin-none : Beginning x none → NoPoint x
  begin-none (no_point k l) =
      record { needed = ltb-true (point x.max_bucket) (point (suc x.max_bucket)) k; blocks = l }

  no_point-none : NoPoint x → {r : Option Index} → Beginning x r → r ≡ none
  no_point-none g (no_point k l) = refl
  no_point-none g (same_point k) =
      absurd (omega (arith, g.needed, ltb-false (point x.max_bucket) (point (suc x.max_bucket)) k))
  no_point-none g (new_point k l) = absurd (omega (arith, g.blocks))

wants : (x : Index) → wanted x ≡ true → x.fill * suc x.max_bucket < count x
unfolding wanted
wants x h = ltb-true (x.fill * suc x.max_bucket) (count x) h

rests : (x : Index) → wanted x ≡ false → count x ≤ x.fill * suc x.max_bucket
unfolding wanted
rests x h = ltb-false (x.fill * suc x.max_bucket) (count x) h

-- a step stops for room exactly when there is none
pub step-no_room : (x : Index) → (step x ≡ stopped Stop.NoRoom) ↔ NoStep x.job x
step-no_room x = (λ h. to (rw h at (step-view x)), λ f. from (λ i e. subst (λ (j : Job). NoStep j x) e f) (step-view x))
  where
    left : (e : Entry) → find (to_copy x) (entries_at x (old_bucket x)) ≡ some e → 1 ≤ copies_left x
    left e k =
        let y = find-yes (to_copy x) (entries_at x (old_bucket x)) e k in
        omega (arith, y.1 (to_copy x), ap b2n y.0)

    by : (i : Job) → x.job ≡ i → NoStep i x → NoStep x.job x
    by i e f = subst (λ (j : Job). NoStep j x) (sym e) f

    to : Stepping x (stopped Stop.NoRoom) → NoStep x.job x
    to (unbegun j w v) = by idle j (wants x w, begin-none v)
    to (uncopied j e k v) = by copying j (left e k, putting-none v)

    from : ((i : Job) → x.job ≡ i → NoStep i x) → {r : Step Index} → Stepping x r → r ≡ stopped Stop.NoRoom
    from f (resting j w) = absurd (omega (arith, (f idle j).0, rests x w))
    from f (unbegun j w v) = refl
    from f (began j w v) = let n = no_point-none (f idle j).1 v in let z : ◌≡◌ {A = ℕ} 0 1 = cc in absurd (omega arith)
    from f (uncopied j e k v) = refl
    from f (copied j e k v) =
        let n = no_page-none (f copying j).1 v in let z : ◌≡◌ {A = ℕ} 0 1 = cc in absurd (omega arith)
    from f (copied_all j k) =
        absurd (omega (arith, (f copying j).0, find-no (to_copy x) (entries_at x (old_bucket x)) k))
    from f (cleared j e k) = absurd (f clearing j)
    from f (cleared_all j k) = absurd (f clearing j)
