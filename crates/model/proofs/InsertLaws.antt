-- An accepted insert keeps the index well-formed and makes its pair held; no other pair's holding changes.
use Rattle.std.specs.Prelude.{◌≡◌, refl, Bool, true, false, cond, not, ◌||◌, List, ℕ, ◌+◌, ◌<◌, leb, length}
use Rattle.std.proofs.Common.{sym, ◌∙◌, subst, arith, leb-true}
use Rattle.lists.specs.Lists.{b2n, tally}
use Rattle.lists.specs.ListsLaws.{and_left, and_right, not_yes}
use Rattle.page.specs.declared.Pair.{Pair}
use Rattle.page.specs.declared.Entry.{Entry}
use Rattle.page.specs.Pair.{same, bad_pair}
use Rattle.page.specs.PairLaws.{same_refl, same-eq}
use Rattle.model.specs.Index.{Chain, Index, entries_in, entries_at, bucket, new_bucket, old_bucket, set_chain}
use Rattle.model.specs.Held.{held}
use Rattle.model.specs.Calls.{pair_ok, done, insert}
use Rattle.model.specs.Machine.{inserting, CallFits}
use Rattle.model.specs.WellFormed.{EntryOk, Laid, unmoved_at, moved_at, WF}
use Rattle.model.specs.HeldIn.{held_in}
use Rattle.model.specs.PlacedLaws.{held-zero, turned_same, insert-placed}
use Rattle.model.specs.StandLaws.{having, marked, number-here, number-there, number_same}
use Rattle.model.proofs.HeldLaws.{old-new, home-range, is-parts, held-no, held_in-held, held-is}
use Rattle.model.proofs.LaidLaws.{put-laid}
use Rattle.model.proofs.ViewLaws.{unmoved_entry, put_as, Inserting, inserted, insert-view}
use Rattle.model.specs.BecomesLaws.{TurnedTo, with_pair, Becomes, becomes}

-- an entry more in bucket b's chain changes nothing for another pair
pub put_other : (x : Index) (w : WF x) (b : ℕ) → b < length x.chains → (e : Entry) (sp : List ℕ) (c : Chain)
    → ((t : Entry → Bool) → tally t (entries_in c) ≡ b2n (t e) + tally t (entries_at x b))
    → (p : Pair) → same p e.pair ≡ false → TurnedTo (set_chain x sp b c) p (held_in x p)
unfolding held_in
put_other x w b fits e sp c add p ne =
    turned_same x.job (new_bucket x) (old_bucket x) (bucket x p) (unmoved_at x p) (moved_at x p) _ _ _
    (record { placed = w.placed p; number = refl })
    (number_same x sp b c fits (having p not) (add (having p not) ∙ rw ne (omega arith)))
    (number_same x sp b c fits (having p marked) (add (having p marked) ∙ rw ne (omega arith)))

pub insert-becomes : (x : Index) (q : Pair) (y : Index) → WF x → insert x q ≡ done y → Becomes (with_pair q) x y
unfolding held_in
insert-becomes x q y w h = view (rw h at (insert-view x q))
  where
    e : Entry
    e = unmoved_entry q

    b : ℕ
    b = bucket x q

    fits : b < length x.chains
    fits = home-range x w.laid q

    one : held x q ≡ false → (sp : List ℕ) (c : Chain)
        → ((t : Entry → Bool) → tally t (entries_in c) ≡ b2n (t e) + tally t (entries_at x b))
        → (p : Pair) (d : Bool) → same p q ≡ d → TurnedTo (set_chain x sp b c) p (cond d 1 (held_in x p))
    one nh sp c add p false k = put_other x w b fits e sp c add p k
    one nh sp c add p true k =
        subst (λ (r : Pair). TurnedTo (set_chain x sp b c) r 1) (sym (same-eq p q k))
        (insert-placed (new_bucket x) (old_bucket x) b (old-new x w.laid) (unmoved_at x q) (moved_at x q) _ _
        x.job (w.placed q) (held-no x q nh)
        (number-here x sp b c fits (having q not) ∙ add (having q not) ∙ rw (same_refl q) (omega arith))
        (number-there x sp b c fits (having q not))
        (number_same x sp b c fits (having q marked) (add (having q marked) ∙ rw (same_refl q) (omega arith))))

    view : Inserting x q (done y) → Becomes (with_pair q) x y
    view (inserted k nh v) =
        let a = put_as v in
        subst (Becomes (with_pair q) x) (sym a.index)
        (becomes (with_pair q) x _ (λ p. one nh a.spares a.pages a.numbers p (same p q) refl))

-- a pair that call-level tests let through makes an entry that may stand on a page
pub pair_ok_lem : (q : Pair) (m : Bool) → CallFits (inserting q) → pair_ok q ≡ true
    → EntryOk (record { pair = q; moved = m })
pair_ok_lem q m f k =
    record {
      good = not_yes (bad_pair q) (and_left (not (bad_pair q)) (leb q.offset 65535) k);
      fits = record {
        hash = f.0;
        block = f.1;
        offset = omega (arith, leb-true q.offset 65535 (and_right (not (bad_pair q)) (leb q.offset 65535) k));
      };
    }

pub insert-wf : (x : Index) (q : Pair) (y : Index) → WF x → CallFits (inserting q) → insert x q ≡ done y → WF y
unfolding held_in
insert-wf x q y w f h =
    record { laid = view (rw h at (insert-view x q)); placed = (insert-becomes x q y w h).placed }
  where
    view : Inserting x q (done y) → Laid y
    view (inserted k nh v) =
        put-laid x w.laid (bucket x q) (home-range x w.laid q) (unmoved_entry q) (pair_ok_lem q false f k)
        (is-parts q (entries_at x (bucket x q))
        ∙ held-zero (new_bucket x) (old_bucket x) (bucket x q) (unmoved_at x q) (moved_at x q) x.job (w.placed q)
        (held-no x q nh))
        v

pub insert-held : (x : Index) (q : Pair) (y : Index) → WF x → CallFits (inserting q) → insert x q ≡ done y
    → (p : Pair) → held y p ≡ same p q || held x p
insert-held x q y w f h p =
    held-is y (insert-wf x q y w f h) p (same p q || held x p)
    ((insert-becomes x q y w h).number p ∙ go (same p q) (held x p) (held_in-held x w p))
  where
    go : (s a : Bool) → held_in x p ≡ b2n a → cond s 1 (held_in x p) ≡ b2n (s || a)
    go true a k = refl
    go false a k = k
