-- Each step of a squeeze keeps the index well-formed, every pair as held as it was, and a split's steps; with budget
-- enough no page too many is left.
use Rattle.std.specs.Prelude.{◌≡◌, Bool, false, not, ◌&&◌, ℕ, zero, suc, ◌*◌, ◌≤◌, ◌<◌, eqb, length}
use Rattle.std.proofs.Math.Path.{refl}
use Rattle.std.proofs.Common.{sym, ap, ◌∙◌, arith}
use Rattle.std.proofs.Math.Option.{Option, none, some}
use Rattle.std.proofs.Math.Decide.{dec_lt}
use Rattle.std.proofs.Math.ListN.{get_or-eq_default}
use Rattle.lists.specs.Lists.{any, tally}
use Rattle.lists.specs.ListsLaws.{tally-cong}
use Rattle.page.specs.declared.Pair.{Pair}
use Rattle.page.specs.declared.Entry.{Entry}
use Rattle.page.specs.Pair.{is}
use Rattle.model.specs.declared.Stop.{Stop}
use Rattle.model.specs.Index.{Index, no_chain, chain, entries_at, bucket, new_bucket, old_bucket}
use Rattle.model.specs.Held.{held, matches, count}
use Rattle.model.specs.Steps.{Step, next, stopped, moves, to_copy, Worked, iterate}
use Rattle.model.specs.Squeeze.{mover, squeezed, moved_to, squeeze_in, squeeze_step, squeeze, pages_for, pages_of}
use Rattle.model.specs.WellFormed.{unmoved_at, moved_at, ChainOk, Laid, WF}
use Rattle.model.specs.StepsLeft.{steps_left}
use Rattle.model.specs.Spare.{spare}
use Rattle.model.specs.HeldIn.{held_in}
use Rattle.model.specs.PlacedLaws.{turned_same}
use Rattle.model.specs.TallyLaws.{any-more}
use Rattle.model.specs.StandLaws.{having, marked, chain-here, number_same}
use Rattle.model.proofs.HeldLaws.{held_in-held, held-is}
use Rattle.model.proofs.LaidLaws.{less-laid}
use Rattle.model.specs.BecomesLaws.{unchanged, Becomes, becomes}
use Rattle.model.proofs.MatchesLaws.{matches-is}
use Rattle.model.proofs.CountLaws.{held_pairs, held_pairs-ascending, held_pairs-has, count-is}
use Rattle.model.proofs.StepsLeftLaws.{stands-once, steps_left-same}
use Rattle.model.proofs.WorkLaws.{iterate-keeps}
use Rattle.model.proofs.SqueezeLaws.{Moving, mover-is, squeezed-tally, squeezed-ok, squeezed-bits}
use Rattle.model.proofs.PackedLaws.{packed}
use Rattle.model.proofs.SpareLaws.{spare-le, spare-lt, squeezed-spare}

-- ---- the cases

pub data Squeezing (x : Index) (b : ℕ) : Step Index → Type 0 where
  full : mover (chain x b) ≡ none → Squeezing x b (stopped Stop.Idle)
  moved : (e : Entry) → mover (chain x b) ≡ some e → Squeezing x b (next (moved_to x b e))

pub squeeze-view : (x : Index) (b : ℕ) → Squeezing x b (squeeze_step b x)
unfolding squeeze_step
squeeze-view x b = go (mover (chain x b)) refl
  where
    go : (m : Option Entry) → mover (chain x b) ≡ m → Squeezing x b (squeeze_in m b x)
    go none k = full k
    go (some e) k = moved e k

-- a bucket with an entry to move has a chain
pub mover-range : (x : Index) (b : ℕ) (e : Entry) → mover (chain x b) ≡ some e → b < length x.chains
unfolding mover
mover-range x b e k = go (dec_lt b (length x.chains))
  where
    go : Dec (b < length x.chains) → b < length x.chains
    go (yes h) = h
    go (no h) =
        let d : chain x b ≡ no_chain =
        get_or-eq_default x.chains no_chain (let q : length x.chains ≤ b = omega arith in q) in
        let n : mover no_chain ≡ none = refl in
        let l : none ≡ some e = sym n ∙ ap mover (sym d) ∙ k in
        let z : ◌≡◌ {A = ℕ} 0 1 = cc in absurd (omega arith)

module _ (x : Index) (w : WF x) (b : ℕ) (e : Entry) (k : mover (chain x b) ≡ some e) where
  abbrev after : Index
  after = moved_to x b e

  fits : b < length x.chains
  fits = mover-range x b e k

  ok : ChainOk (chain x b)
  ok = w.laid.pages b

  once : tally (is e.pair) (entries_at x b) ≤ 1
  once = stands-once x w e.pair b

  moving : Moving (chain x b) e
  moving = mover-is (chain x b) e k

  -- every chain has the entries that it had
  moved-tally : (t : Entry → Bool) (d : ℕ) → tally t (entries_at after d) ≡ tally t (entries_at x d)
  moved-tally t =
      number_same x x.spares b (squeezed e (chain x b)) fits t (squeezed-tally (chain x b) e ok once moving t)

  moved-becomes : Becomes unchanged x after
  unfolding held_in
  moved-becomes =
      becomes unchanged x after
      (λ p. turned_same x.job (new_bucket x) (old_bucket x) (bucket x p) (unmoved_at x p) (moved_at x p) _ _ _
      (record { placed = w.placed p; number = refl })
      (moved-tally (having p not)) (moved-tally (having p marked)))

  moved-laid : Laid after
  moved-laid =
      less-laid x w.laid b fits (squeezed e (chain x b))
      (λ n. squeezed-bits (chain x b) e ok once moving (eqb n))
      (squeezed-ok (chain x b) e ok once moving)

  moved-any : (t : Entry → Bool) (d : ℕ) → any t (entries_at after d) ≡ any t (entries_at x d)
  moved-any t d = any-more t (entries_at x d) (entries_at after d) false (moved-tally t d ∙ omega arith)

  moved-steps : steps_left after ≡ steps_left x
  moved-steps =
      steps_left-same x after refl (moved-tally (moves x) (old_bucket x))
      (λ _. tally-cong (to_copy after) (to_copy x) (entries_at after (old_bucket x))
      (λ d. ap (λ (a : Bool). moves x d && not a) (moved-any (is d.pair) (new_bucket x)))
      ∙ moved-tally (to_copy x) (old_bucket x))

  moved-spare : spare (chain after b) < spare (chain x b)
  moved-spare =
      omega (
        arith,
        ap spare (chain-here x x.spares b (squeezed e (chain x b)) fits),
        squeezed-spare (chain x b) e moving,
      )

-- ---- a step

module _ (b : ℕ) (x y : Index) (w : WF x) (h : squeeze_step b x ≡ next y) where
  squeeze-keeps : Becomes unchanged x y
  squeeze-keeps = go (rw h at (squeeze-view x b))
    where
      go : {z : Index} → Squeezing x b (next z) → Becomes unchanged x z
      go (moved e k) = moved-becomes x w b e k

  pub squeeze-wf : WF y
  squeeze-wf = record { laid = go (rw h at (squeeze-view x b)); placed = squeeze-keeps.placed }
    where
      go : {z : Index} → Squeezing x b (next z) → Laid z
      go (moved e k) = moved-laid x w b e k

  pub squeeze-held : (p : Pair) → held y p ≡ held x p
  squeeze-held p = held-is y squeeze-wf p (held x p) (squeeze-keeps.number p ∙ held_in-held x w p)

  pub squeeze-count : count y ≡ count x
  squeeze-count =
      count-is y squeeze-wf (held_pairs x) (held_pairs-ascending x w)
      (λ p. held_pairs-has x w p ∙ sym (squeeze-held p))
      ∙ sym (count-is x w (held_pairs x) (held_pairs-ascending x w) (held_pairs-has x w))

  pub squeeze-matches : (hash : ℕ) → matches y hash ≡ matches x hash
  squeeze-matches n =
      matches-is y squeeze-wf n (held_pairs x) (held_pairs-ascending x w)
      (λ p. held_pairs-has x w p ∙ sym (squeeze-held p))
      ∙ sym (matches-is x w n (held_pairs x) (held_pairs-ascending x w) (held_pairs-has x w))

  -- a split has as many steps left as it had
  pub squeeze-steps_left : steps_left y ≡ steps_left x
  squeeze-steps_left = go (rw h at (squeeze-view x b))
    where
      go : {z : Index} → Squeezing x b (next z) → steps_left z ≡ steps_left x
      go (moved e k) = moved-steps x w b e k

  pub squeeze-spare : spare (chain y b) < spare (chain x b)
  squeeze-spare = go (rw h at (squeeze-view x b))
    where
      go : {z : Index} → Squeezing x b (next z) → spare (chain z b) < spare (chain x b)
      go (moved e k) = moved-spare x w b e k

-- ---- stops

pub squeeze-stops : (b : ℕ) (x : Index) (r : Stop) → squeeze_step b x ≡ stopped r
    → (r ≡ Stop.Idle) × (mover (chain x b) ≡ none)
squeeze-stops b x r h = go (rw h at (squeeze-view x b))
  where
    go : {s : Stop} → Squeezing x b (stopped s) → (s ≡ Stop.Idle) × (mover (chain x b) ≡ none)
    go (full k) = (refl, k)

-- "At stop 9 a chain of n entries has exactly n / 40 pages, rounded up, or one if n is 0."
pub squeeze-packed : (b : ℕ) (x : Index) → WF x → squeeze_step b x ≡ stopped Stop.Idle
    → pages_of (chain x b) ≡ pages_for (length (entries_at x b))
squeeze-packed b x w h = packed (chain x b) (w.laid.pages b) (squeeze-stops b x Stop.Idle h).1

-- ---- the call's steps

-- what every step keeps, a squeeze keeps, whatever its budget
pub squeeze-all : (b budget : ℕ) (x : Index) → WF x
    → let y = (squeeze b budget x).state in
    WF y × (count y ≡ count x) × ((p : Pair) → held y p ≡ held x p) × ((hash : ℕ) → matches y hash ≡ matches x hash)
unfolding squeeze
squeeze-all b n x w =
    iterate-keeps (squeeze_step b)
    (λ (y : Index). WF y × (count y ≡ count x) × ((p : Pair) → held y p ≡ held x p)
    × ((hash : ℕ) → matches y hash ≡ matches x hash))
    (λ y z h e. (
      squeeze-wf b y z h.0 e,
      squeeze-count b y z h.0 e ∙ h.1,
      λ p. squeeze-held b y z h.0 e p ∙ h.2 p,
      λ n. squeeze-matches b y z h.0 e n ∙ h.3 n,
    )) n x (w, refl, λ p. refl, λ n. refl)

-- the free places before the last page are at most forty for each overflow page
pub spare-bound : (b : ℕ) (x : Index) → spare (chain x b) ≤ 40 * length (chain x b).more
spare-bound b x = spare-le (chain x b)

-- with a budget of as many, whatever the stop, no earlier page has room
enough : (b budget : ℕ) (x : Index) → WF x → spare (chain x b) ≤ budget
    → mover (chain (squeeze b budget x).state b) ≡ none
unfolding squeeze
enough b zero x w l = go (squeeze_step b x) refl
  where
    go : (r : Step Index) → squeeze_step b x ≡ r → mover (chain x b) ≡ none
    go (next y) e = absurd (omega (arith, squeeze-spare b x y w e))
    go (stopped r) e = (squeeze-stops b x r e).1
enough b (suc n) x w l = go (squeeze_step b x) refl (enough b n)
  where
    go : (r : Step Index) → squeeze_step b x ≡ r
        → ((y : Index) → WF y → spare (chain y b) ≤ n → mover (chain (iterate (squeeze_step b) n y).state b) ≡ none)
        → mover (chain (iterate (squeeze_step b) (suc n) x).state b) ≡ none
    go (next y) e ih =
        rw (e, iterate) (ih y (squeeze-wf b x y w e) (omega (arith, squeeze-spare b x y w e)))
    go (stopped r) e ih = rw (e, iterate) (squeeze-stops b x r e).1

pub squeeze-enough : (b budget : ℕ) (x : Index) → WF x → spare (chain x b) ≤ budget
    → let y = (squeeze b budget x).state in
    (mover (chain y b) ≡ none) × (pages_of (chain y b) ≡ pages_for (length (entries_at y b)))
squeeze-enough b n x w l =
    let h = enough b n x w l in
    (h, packed (chain (squeeze b n x).state b) ((squeeze-all b n x w).0.laid.pages b) h)

-- with a budget of more it stops for that, and with no step more
pub record Packed (b budget : ℕ) (x : Index) (v : Worked Index) : Type 0 where
  pub few : v.steps ≤ spare (chain x b)
  pub stop : v.stop ≡ Stop.Idle
  pub pages : pages_of (chain v.state b) ≡ pages_for (length (entries_at v.state b))

ends : (b budget : ℕ) (x : Index) → WF x → spare (chain x b) < budget
    → ((squeeze b budget x).steps ≤ spare (chain x b)) × ((squeeze b budget x).stop ≡ Stop.Idle)
unfolding squeeze
ends b zero x w l = absurd (omega arith)
ends b (suc n) x w l = go (squeeze_step b x) refl (ends b n)
  where
    Ends : ℕ → Index → Type 0
    Ends n y =
        ((iterate (squeeze_step b) n y).steps ≤ spare (chain y b)) × ((iterate (squeeze_step b) n y).stop ≡ Stop.Idle)

    go : (r : Step Index) → squeeze_step b x ≡ r → ((y : Index) → WF y → spare (chain y b) < n → Ends n y)
        → Ends (suc n) x
    go (next y) e ih =
        let s = squeeze-spare b x y w e in
        let p = ih y (squeeze-wf b x y w e) (omega (arith, s)) in
        rw (e, iterate) (omega (arith, s, p.0), p.1)
    go (stopped r) e ih = rw (e, iterate) (omega arith, (squeeze-stops b x r e).0)

pub squeeze-ends : (b budget : ℕ) (x : Index) → WF x → spare (chain x b) < budget
    → Packed b budget x (squeeze b budget x)
squeeze-ends b n x w l =
    let v = ends b n x w l in
    record { few = v.0; stop = v.1; pages = (squeeze-enough b n x w (omega arith)).1 }

-- so forty for each overflow page do, if there are two or more; `SqueezeExamples` has one for which they do not
pub squeeze-forty : (b budget : ℕ) (x : Index) → WF x → 2 ≤ length (chain x b).more
    → 40 * length (chain x b).more ≤ budget → Packed b budget x (squeeze b budget x)
squeeze-forty b n x w two l =
    squeeze-ends b n x w (omega (arith, spare-lt (chain x b) (w.laid.pages b) two))
