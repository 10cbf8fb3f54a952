-- Each step keeps the index well-formed, and every pair as held as it was.
use Rattle.std.specs.Prelude.{◌≡◌, refl, ◌≢◌, Bool, true, false, not, List, length}
use Rattle.std.proofs.Common.{sym, ap, ◌∙◌, arith}
use Rattle.std.proofs.Math.Path.{subst}
use Rattle.std.proofs.Math.Option.{none, some}
use Prim.Native.Nat.{ℕ, suc, ◌+◌, ◌≤◌, ◌<◌}
use Rattle.lists.specs.Lists.{b2n, any, tally, find}
use Rattle.lists.specs.ListsLaws.{and_left, and_right, not_yes, eqb-eq, any-no, find-yes}
use Rattle.address.specs.Address.{bucket_of, split_from}
use Rattle.address.proofs.BucketLaws.{bucket-le, bucket-stays, bucket-splits}
use Rattle.page.specs.declared.Pair.{Pair}
use Rattle.page.specs.declared.Entry.{Entry}
use Rattle.page.specs.Pair.{same, is}
use Rattle.page.specs.PairLaws.{same_refl, same-eq}
use Rattle.model.specs.Index.{Chain, idle, copying, clearing, Index, entries_in, chain, entries_at, bucket}
use Rattle.model.specs.Index.{new_bucket, old_bucket, set_chain, set_job}
use Rattle.model.specs.Pages.{cut}
use Rattle.model.specs.Held.{held}
use Rattle.model.specs.Steps.{next, widen, moves, to_copy, step}
use Rattle.model.specs.WellFormed.{unmoved_at, moved_at, Laid, WF}
use Rattle.model.specs.HeldIn.{held_no, held_in}
use Rattle.model.specs.PlacedLaws.{turned_same, turned-at, copy-placed, clear-placed, begin-placed}
use Rattle.model.specs.PlacedLaws.{copied_placed, cleared-placed}
use Rattle.model.specs.ChainOkLaws.{found_ok}
use Rattle.model.specs.StandLaws.{having, marked, number-here, number-there, number_same, cut-same, cut-there}
use Rattle.model.specs.StandLaws.{cut-less}
use Rattle.model.proofs.HeldLaws.{old-new, old-range, new-range, stands-none, none-stands, stands-passed}
use Rattle.model.proofs.HeldLaws.{found-stands, moves-yes, held_in-held, held-is}
use Rattle.model.proofs.LaidLaws.{cut-laid, put-laid, job-laid, chain-wider, begin-laid}
use Rattle.model.proofs.ViewLaws.{moved_entry, Putting, put_as, Beginning, same_point, new_point, Stepping, began}
use Rattle.model.proofs.ViewLaws.{copied, copied_all, cleared, cleared_all, step-view}
use Rattle.model.specs.BecomesLaws.{TurnedTo, unchanged, Becomes, becomes, placed_at, held_in-at}
use Rattle.model.proofs.InsertLaws.{put_other}

-- ---- begin

pub widen-becomes : (x : Index) (sp : List ℕ) → WF x → x.job ≡ idle → Becomes unchanged x (widen x sp)
unfolding held_in
widen-becomes x sp w j =
    becomes unchanged x (widen x sp) (λ p. subst (TurnedTo (widen x sp) p) (held_in-at x idle j p) (go p))
  where
    m : ℕ
    m = x.max_bucket

    go : (p : Pair) → TurnedTo (widen x sp) p (unmoved_at x p (bucket x p) + moved_at x p (bucket x p))
    go p =
        turned_same copying (suc m) (split_from (suc m)) (bucket_of (suc m) p.hash)
        (unmoved_at x p) (moved_at x p) _ _ _
        (begin-placed (suc m) (split_from (suc m)) (bucket_of (suc m) p.hash) (unmoved_at x p) (moved_at x p)
        m (old_bucket x) (bucket x p) (placed_at x idle w j p)
        (λ e. omega (arith, bucket-le m p.hash w.laid.two, e))
        (bucket-stays m p.hash w.laid.two) (bucket-splits m p.hash w.laid.two))
        (λ b. ap (λ (c : Chain). tally (having p not) (entries_in c)) (chain-wider x.chains b))
        (λ b. ap (λ (c : Chain). tally (having p marked) (entries_in c)) (chain-wider x.chains b))

begin-becomes : (x : Index) {y : Index} → WF x → x.job ≡ idle → Beginning x (some y) → Becomes unchanged x y
begin-becomes x w j (same_point k) = widen-becomes x x.spares w j
begin-becomes x w j (new_point k l) = widen-becomes x _ w j

-- ---- copying

module _ (x : Index) (w : WF x) (j : x.job ≡ copying) where
  -- a copy of an old entry, put into the new bucket
  copy-becomes : (q : Pair) → bucket x q ≡ new_bucket x → 1 ≤ unmoved_at x q (old_bucket x) + moved_at x q (old_bucket x)
      → unmoved_at x q (new_bucket x) + moved_at x q (new_bucket x) ≡ 0 → (sp : List ℕ) (c : Chain)
      → ((t : Entry → Bool) → tally t (entries_in c) ≡ b2n (t (moved_entry q)) + tally t (entries_at x (new_bucket x)))
      → Becomes unchanged x (set_chain x sp (new_bucket x) c)
  unfolding held_in
  copy-becomes q at old new sp c add = becomes unchanged x y (λ p. one p (same p q) refl)
    where
      n : ℕ
      n = new_bucket x

      y : Index
      y = set_chain x sp n c

      fits : n < length x.chains
      fits = new-range x w.laid

      one : (p : Pair) (d : Bool) → same p q ≡ d → TurnedTo y p (held_in x p)
      one p false k = put_other x w n fits (moved_entry q) sp c add p k
      one p true k =
          subst (λ (r : Pair). TurnedTo y r (held_in x r)) (sym (same-eq p q k))
          (turned-at n (old_bucket x) (bucket x q) (unmoved_at x q) (moved_at x q) _ _ j
          (copy-placed n (old_bucket x) (bucket x q) (old-new x w.laid) (unmoved_at x q) (moved_at x q) _ _
          (placed_at x copying w j q) at old new
          (number_same x sp n c fits (having q not) (add (having q not) ∙ rw (same_refl q) (omega arith)))
          (number-here x sp n c fits (having q marked) ∙ add (having q marked) ∙ rw (same_refl q) (omega arith))
          (number-there x sp n c fits (having q marked))))

  module _ (e : Entry) (k : find (to_copy x) (entries_at x (old_bucket x)) ≡ some e) where
    to-copy : to_copy x e ≡ true
    to-copy = (find-yes (to_copy x) (entries_at x (old_bucket x)) e k).0

    not_there : any (is e.pair) (entries_at x (new_bucket x)) ≡ false
    not_there = not_yes (any (is e.pair) (entries_at x (new_bucket x))) (and_right (moves x e) _ to-copy)

    copied-becomes : {y : Index} → Putting x (new_bucket x) (moved_entry e.pair) (some y) → Becomes unchanged x y
    copied-becomes v =
        let a = put_as v in
        subst (Becomes unchanged x) (sym a.index)
        (copy-becomes e.pair (eqb-eq (bucket x e.pair) (new_bucket x) (and_left (moves x e) _ to-copy))
        (found-stands x (to_copy x) (old_bucket x) e k)
        (stands-none x e.pair (new_bucket x) not_there) a.spares a.pages a.numbers)

    copied-laid : {y : Index} → Putting x (new_bucket x) (moved_entry e.pair) (some y) → Laid y
    copied-laid v =
        let ok = found_ok (to_copy x) (chain x (old_bucket x)) e (w.laid.pages (old_bucket x)) k in
        put-laid x w.laid (new_bucket x) (new-range x w.laid) (moved_entry e.pair)
        (record { good = ok.good; fits = ok.fits }) (any-no (is e.pair) (entries_at x (new_bucket x)) not_there) v

  copied_all-becomes : find (to_copy x) (entries_at x (old_bucket x)) ≡ none → Becomes unchanged x (set_job x clearing)
  unfolding held_in
  copied_all-becomes k =
      becomes unchanged x y (λ p. subst (TurnedTo y p) (held_in-at x copying j p) (go p))
    where
      y : Index
      y = set_job x clearing

      go : (p : Pair)
          → TurnedTo y p (held_no copying (new_bucket x) (old_bucket x) (bucket x p) (unmoved_at x p) (moved_at x p))
      go p =
          copied_placed (new_bucket x) (old_bucket x) (bucket x p) (unmoved_at x p) (moved_at x p)
          (placed_at x copying w j p)
          (λ at z. stands-passed x p (old_bucket x) (to_copy x) k
          (λ e i. rw (moves-yes x p e at i, ← same-eq p e.pair i, none-stands x p (new_bucket x) z)))

-- ---- clearing

module _ (x : Index) (w : WF x) (j : x.job ≡ clearing) where
  cleared-becomes : (e : Entry) → find (moves x) (entries_at x (old_bucket x)) ≡ some e
      → Becomes unchanged x (cut e.pair (old_bucket x) x)
  unfolding held_in cut
  cleared-becomes e k = becomes unchanged x y (λ p. one p (same p q) refl)
    where
      n : ℕ
      n = new_bucket x

      o : ℕ
      o = old_bucket x

      q : Pair
      q = e.pair

      y : Index
      y = cut q o x

      fits : o < length x.chains
      fits = old-range x w.laid

      ne : bucket x q ≢ o
      ne d = old-new x w.laid (sym d ∙ eqb-eq (bucket x q) n (find-yes (moves x) (entries_at x o) e k).0)

      one : (p : Pair) (d : Bool) → same p q ≡ d → TurnedTo y p (held_in x p)
      one p false k =
          turned_same x.job n o (bucket x p) (unmoved_at x p) (moved_at x p) _ _ _
          (record { placed = w.placed p; number = refl })
          (cut-same x o fits q not p k) (cut-same x o fits q marked p k)
      one p true k =
          subst (λ (r : Pair). TurnedTo y r (held_in x r)) (sym (same-eq p q k))
          (turned-at n o (bucket x q) (unmoved_at x q) (moved_at x q) _ _ j
          (clear-placed n o (bucket x q) (old-new x w.laid) (unmoved_at x q) (moved_at x q) _ _
          (placed_at x clearing w j q)
          (cut-less x o fits q not) (cut-less x o fits q marked)
          (cut-there x o fits q not (bucket x q) ne) (cut-there x o fits q marked (bucket x q) ne)))

  cleared_all-becomes : find (moves x) (entries_at x (old_bucket x)) ≡ none → Becomes unchanged x (set_job x idle)
  unfolding held_in
  cleared_all-becomes k =
      becomes unchanged x y (λ p. subst (TurnedTo y p) (held_in-at x clearing j p) (go p))
    where
      y : Index
      y = set_job x idle

      go : (p : Pair) → TurnedTo y p (unmoved_at x p (bucket x p) + moved_at x p (bucket x p))
      go p =
          cleared-placed (new_bucket x) (old_bucket x) (bucket x p) (unmoved_at x p) (moved_at x p)
          (placed_at x clearing w j p)
          (λ at. stands-passed x p (old_bucket x) (moves x) k (λ e i. moves-yes x p e at i))

-- ---- any step

pub step_keeps : (x y : Index) → WF x → step x ≡ next y → Becomes unchanged x y
step_keeps x y w h = go (rw h at (step-view x))
  where
    go : {z : Index} → Stepping x (next z) → Becomes unchanged x z
    go (began j k v) = begin-becomes x w j v
    go (copied j e k v) = copied-becomes x w j e k v
    go (copied_all j k) = copied_all-becomes x w j k
    go (cleared j e k) = cleared-becomes x w j e k
    go (cleared_all j k) = cleared_all-becomes x w j k

pub step-wf : (x y : Index) → WF x → step x ≡ next y → WF y
step-wf x y w h = record { laid = go (rw h at (step-view x)); placed = (step_keeps x y w h).placed }
  where
    go : {z : Index} → Stepping x (next z) → Laid z
    go (began j k v) = begin-laid x w.laid v
    go (copied j e k v) = copied-laid x w j e k v
    go (copied_all j k) = job-laid x clearing w.laid
    go (cleared j e k) = cut-laid x w.laid (old_bucket x) (old-range x w.laid) e.pair
    go (cleared_all j k) = job-laid x idle w.laid

pub step-held : (x y : Index) → WF x → step x ≡ next y → (p : Pair) → held y p ≡ held x p
step-held x y w h p = held-is y (step-wf x y w h) p (held x p) ((step_keeps x y w h).number p ∙ held_in-held x w p)
