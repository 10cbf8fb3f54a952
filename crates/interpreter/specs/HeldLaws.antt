-- The pending line of the struct: byte by byte, as feed's outcome has it, and as the machine has it.
use Rattle.std.specs.Prelude.{◌≡◌, ℕ, zero, suc, ◌+◌, ◌*◌, ◌<◌, ◌≤◌, min, Bool, true, false, cond, ltb, List, [], ◌∷◌, ◌++◌, length, take, ◌==◌, nat_le, nat_lt, slice_set, refl, drop, ◌≢◌, slice_index}
use Rattle.std.proofs.Common.{sym, ap, ◌∙◌, append-nil, add-one, arith, le-leb, lt-ltb, le-ltb, leb-true, ltb-true, ltb-false, length-set, length-take-le, take-suc-set, zero-add, add-zero, add_assoc, one-add, eq-eqb, ne_eqb, drop_of_length-le, drop-cons}
use Rattle.std.proofs.Math.Dec.{leb-suc-suc}
use Rattle.std.specs.List.{fold}
use Rattle.std.proofs.lemmas.List.Edits.{sets}
use Rattle.std.proofs.lemmas.List.Folds.{fold_stays}
use Rattle.std.proofs.Math.Seq.{set_out}
use Rattle.line.specs.Command.{max_line}
use Rattle.line.specs.Words.{span}
use Rattle.interpreter.specs.declared.ScriptState.{ScriptState}
use Rattle.interpreter.specs.Feed.{too_many, gathered}
use Rattle.interpreter.specs.Machine.{Pending, short, long, grow, State, Reached, end_line, keep_byte, on_bytes}
use Rattle.interpreter.specs.Machine.{pending_in, state_of}
use Rattle.interpreter.specs.Held.{with_line, kept}

-- ---- a byte more

module _ (c : ScriptState) (b : ℕ) where
  pub kept-room : c.seen < 80 → with_line c (c.seen + 1) (slice_set c.line c.seen b) ≡ kept c b
  kept-room h = rw (lt-ltb c.seen max_line h)

  pub kept_full : 80 ≤ c.seen → with_line c too_many c.line ≡ kept c b
  kept_full h = rw (le-ltb c.seen max_line h)

  pub kept_whole : length (kept c b).line ≡ length c.line
  kept_whole = go (nat_lt c.seen max_line)
    where
      go : (t : Bool)
          → length (cond t (with_line c (c.seen + 1) (slice_set c.line c.seen b)) (with_line c too_many c.line)).line
          ≡ length c.line
      go true = length-set c.line c.seen b
      go false = refl

  pub kept_seen : (kept c b).seen ≤ too_many
  kept_seen = go (nat_lt c.seen max_line) refl
    where
      go : (t : Bool) → nat_lt c.seen max_line ≡ t
          → (cond t (with_line c (c.seen + 1) (slice_set c.line c.seen b)) (with_line c too_many c.line)).seen
          ≤ too_many
      go true e = omega (arith, ltb-true c.seen max_line e)
      go false e = omega arith

  kept_more : min too_many (c.seen + 1) ≤ (kept c b).seen
  kept_more = go (nat_lt c.seen max_line)
    where
      go : (t : Bool)
          → min too_many (c.seen + 1)
          ≤ (cond t (with_line c (c.seen + 1) (slice_set c.line c.seen b)) (with_line c too_many c.line)).seen
      go true = omega arith
      go false = omega arith

module _ (c : ScriptState) (b : ℕ) (whole : length c.line ≡ 80) where
  grown-room : c.seen < 80 → pending_in (with_line c (c.seen + 1) (slice_set c.line c.seen b)) ≡ grow (pending_in c) b
  grown-room h =
      let few : length (take c.seen c.line) ≡ c.seen = length-take-le c.seen c.line (omega arith) in
      let room : ltb (length (take c.seen c.line)) max_line
      ≡ true = lt-ltb (length (take c.seen c.line)) max_line (omega arith) in
      rw (le-leb (c.seen + 1) max_line (omega arith), le-leb c.seen max_line (omega arith), room)
      (ap short (ap (λ (n : ℕ). take n (slice_set c.line c.seen b)) (add-one c.seen)
      ∙ take-suc-set c.line c.seen b (omega arith)))

  grown-full : 80 ≤ c.seen → pending_in (with_line c too_many c.line) ≡ grow (pending_in c) b
  grown-full h = go (nat_le c.seen max_line) refl
    where
      go : (t : Bool) → nat_le c.seen max_line ≡ t → long ≡ grow (cond t (short (take c.seen c.line)) long) b
      go true e =
          let few : length (take c.seen c.line) ≡ c.seen =
          length-take-le c.seen c.line (omega (arith, leb-true c.seen max_line e)) in
          let full : ltb (length (take c.seen c.line)) max_line
          ≡ false = le-ltb (length (take c.seen c.line)) max_line (omega arith) in
          rw full
      go false e = refl

  -- the machine keeps it likewise
  kept-state : (store : List ℕ) → (keep_byte (state_of c store) b).state ≡ state_of (kept c b) store
  kept-state store = go (nat_lt c.seen max_line) refl
    where
      held : Pending → State
      held p = record { pending = p; line = c.number; store = take (512 * c.blocks) store }

      go : (t : Bool) → nat_lt c.seen max_line ≡ t
          → held (grow (pending_in c) b)
          ≡ state_of
          (cond t (with_line c (c.seen + 1) (slice_set c.line c.seen b)) (with_line c too_many c.line)) store
      go true e = ap held (sym (grown-room (ltb-true c.seen max_line e)))
      go false e = ap held (sym (grown-full (ltb-false c.seen max_line e)))

-- ---- bytes more

-- no store past the end
sets-out : (l : List ℕ) (i : ℕ) (bs : List ℕ) → length l ≤ i → sets l i bs ≡ l
sets-out l i [] h = refl
sets-out l i (b ∷ bs) h =
    ap (λ (x : List ℕ). sets x (suc i) bs) (set_out l i b h) ∙ sets-out l (suc i) bs (omega arith)

gathered_none : (c : ScriptState) → c.seen ≤ too_many → gathered c [] ≡ c
gathered_none c h = ap (λ (n : ℕ). with_line c n c.line) (omega arith)

gathered-more : (c : ScriptState) (b : ℕ) (bs : List ℕ) → length c.line ≡ 80 → c.seen ≤ too_many
    → gathered (kept c b) bs ≡ gathered c (b ∷ bs)
gathered-more c b bs w h = go (nat_lt c.seen max_line) refl
  where
    go : (t : Bool) → nat_lt c.seen max_line ≡ t
        → gathered (cond t (with_line c (c.seen + 1) (slice_set c.line c.seen b)) (with_line c too_many c.line)) bs
        ≡ gathered c (b ∷ bs)
    go true e =
        ap (λ (n : ℕ). with_line c n (sets (slice_set c.line c.seen b) (c.seen + 1) bs)) (omega arith)
        ∙ ap (λ (n : ℕ). with_line c (min too_many (c.seen + suc (length bs))) (sets (slice_set c.line c.seen b) n bs))
        (add-one c.seen)
    go false e =
        let full = ltb-false c.seen max_line e in
        ap (λ (n : ℕ). with_line c n (sets c.line too_many bs)) (omega (arith, full))
        ∙ ap (with_line c (min too_many (c.seen + suc (length bs))))
        (sets-out c.line too_many bs (omega arith)
        ∙ sym (sets-out c.line c.seen (b ∷ bs) (omega (arith, full))))

-- byte by byte, as feed's outcome has it
pub kept-gathered : (c : ScriptState) (bs : List ℕ) → length c.line ≡ 80 → c.seen ≤ too_many
    → fold kept c bs ≡ gathered c bs
kept-gathered c [] w h = sym (gathered_none c h)
kept-gathered c (b ∷ bs) w h =
    kept-gathered (kept c b) bs (kept_whole c b ∙ w) (kept_seen c b) ∙ gathered-more c b bs w h

-- ---- the bytes past the first 81

kept-still : (c : ScriptState) (b : ℕ) → c.seen ≡ too_many → kept c b ≡ c
kept-still c b h =
    sym (kept_full c b (omega arith)) ∙ ap (λ (n : ℕ). with_line c n c.line) (sym h)

-- n bytes that fill the line, and one more
kept_first : (n : ℕ) (c : ScriptState) (bs : List ℕ) → max_line ≤ c.seen + n
    → fold kept c bs ≡ fold kept c (take (suc n) bs)
kept_first n c [] h = refl
kept_first zero c (b ∷ bs) h =
    let over : (kept c b).seen ≡ too_many = ap (λ (x : ScriptState). x.seen) (sym (kept_full c b (omega arith))) in
    fold_stays kept (kept c b) (λ x. kept-still (kept c b) x over) bs
kept_first (suc n) c (b ∷ bs) h = kept_first n (kept c b) bs (omega (arith, kept_more c b))

-- they change nothing, in whatever state the line is
pub kept-take : (c : ScriptState) (bs : List ℕ) → fold kept c bs ≡ fold kept c (take too_many bs)
kept-take c bs = kept_first max_line c bs (omega arith)

-- ---- the bytes up to an LF, read from i on

-- The state after the bytes up to an LF or the end, their number, with the LF, and whether it was an LF.
pub record Gathered : Type 0 where
  pub state : ScriptState
  pub used : ℕ
  pub ended : Bool

abbrev pub gather_in : ScriptState → List ℕ → Gathered
gather_in c [] = record { state = c; used = 0; ended = false }
gather_in c (b ∷ bs) =
    elim (b == 10) [
      | true ↦ record { state = c; used = 1; ended = true }
      | false ↦ let g = gather_in (kept c b) bs in
          record { state = g.state; used = suc g.used; ended = g.ended }
    ]

-- i bytes before those that are gathered
abbrev pub after : ℕ → Gathered → Gathered
after i g = record { state = g.state; used = i + g.used; ended = g.ended }

module _ (c : ScriptState) (l : List ℕ) (i : ℕ) where
  pub gather-end : length l ≤ i → after i (gather_in c (drop i l)) ≡ record { state = c; used = i; ended = false }
  gather-end h =
      ap (λ (x : List ℕ). after i (gather_in c x)) (drop_of_length-le l h)
      ∙ ap (λ (n : ℕ). record { state = c; used = n; ended = false }) (add-zero i)

  pub gather-hit : i < length l → slice_index l i ≡ 10 → gather_in c (drop i l)
      ≡ record { state = c; used = 1; ended = true }
  gather-hit h e = rw (drop-cons l i 0 h, gather_in, eq-eqb (slice_index l i) 10 e)

  pub gather-miss : i < length l → (slice_index l i ≢ 10)
      → gather_in c (drop i l) ≡ after 1 (gather_in (kept c (slice_index l i)) (drop (i + 1) l))
  gather-miss h e =
      let g = gather_in (kept c (slice_index l i)) (drop (suc i) l) in
      rw (add-one i, drop-cons l i 0 h, gather_in, ne_eqb (slice_index l i) 10 e)
      (ap (λ (n : ℕ). record { state = g.state; used = n; ended = g.ended }) (sym (one-add g.used)))

pub after_none : (g : Gathered) → g ≡ after 0 g
after_none g = ap (λ (n : ℕ). record { state = g.state; used = n; ended = g.ended }) (sym (zero-add g.used))

pub after_more : (i : ℕ) (g : Gathered) → after i (after 1 g) ≡ after (i + 1) g
after_more i g = ap (λ (n : ℕ). record { state = g.state; used = n; ended = g.ended })
    (sym (add_assoc i 1 g.used))

-- ---- as feed's outcome has it

-- the n bytes before an LF, and the LF if there is one
abbrev pub up_to : ScriptState → List ℕ → (n : ℕ) → Gathered
up_to c input n =
    record {
      state = gathered c (take n input);
      used = cond (nat_lt n (length input)) (suc n) n;
      ended = nat_lt n (length input);
    }

pub gather-is : (c : ScriptState) (input : List ℕ) → length c.line ≡ 80 → c.seen ≤ too_many
    → gather_in c input ≡ up_to c input (span 10 input)
gather-is c [] w h = ap (λ (x : ScriptState). record { state = x; used = 0; ended = false }) (sym (gathered_none c h))
gather-is c (b ∷ bs) w h = go (b == 10) (gather-is (kept c b) bs (kept_whole c b ∙ w) (kept_seen c b))
  where
    at : Bool → Gathered
    at t =
        elim t [
          | true ↦ record { state = c; used = 1; ended = true }
          | false ↦ let g = gather_in (kept c b) bs in
              record { state = g.state; used = suc g.used; ended = g.ended }
        ]

    shift : (u : Bool) (n : ℕ) (x : ScriptState)
        → ◌≡◌ {A = Gathered} (record { state = x; used = suc (cond u (suc n) n); ended = u })
        (record { state = x; used = cond u (suc (suc n)) (suc n); ended = u })
    shift true n x = refl
    shift false n x = refl

    go : (t : Bool) → gather_in (kept c b) bs ≡ up_to (kept c b) bs (span 10 bs)
        → at t ≡ up_to c (b ∷ bs) (elim t [ true ↦ 0 | false ↦ suc (span 10 bs) ])
    go true e =
        ap (λ (x : ScriptState). record { state = x; used = 1; ended = true }) (sym (gathered_none c h))
        ∙ ap (λ (u : Bool). record { state = gathered c []; used = cond u 1 0; ended = u })
        (sym (lt-ltb 0 (suc (length bs)) (omega arith)))
    go false e =
        let n = span 10 bs in
        ap (λ (g : Gathered). record { state = g.state; used = suc g.used; ended = g.ended }) e
        ∙ shift (nat_lt n (length bs)) n (gathered (kept c b) (take n bs))
        ∙ ap (λ (x : ScriptState).
        record { state = x; used = cond (nat_lt n (length bs)) (suc (suc n)) (suc n); ended = nat_lt n (length bs) })
        (gathered-more c b (take n bs) w h)
        ∙ ap (λ (u : Bool).
        record { state = gathered c (b ∷ take n bs); used = cond u (suc (suc n)) (suc n); ended = u })
        (sym (leb-suc-suc (suc n) (length bs)))

-- ---- as the machine has it

-- a line that ended, or one that has not
abbrev pub line_run : Bool → State → Reached
line_run t s = cond t (end_line s) (record { state = s; text = [] })

pub gather-run : (store : List ℕ) (c : ScriptState) (input : List ℕ) → length c.line ≡ 80
    → let g = gather_in c input in
    on_bytes (state_of c store) (take g.used input) ≡ line_run g.ended (state_of g.state store)
gather-run store c [] w = refl
gather-run store c (b ∷ bs) w = go (b == 10) refl (gather-run store (kept c b) bs (kept_whole c b ∙ w))
  where
    g : Gathered
    g = gather_in (kept c b) bs

    at : Bool → Gathered
    at t =
        elim t [
          | true ↦ record { state = c; used = 1; ended = true }
          | false ↦ record { state = g.state; used = suc g.used; ended = g.ended }
        ]

    step : Bool → Reached
    step u = cond u (end_line (state_of c store)) (keep_byte (state_of c store) b)

    run : State → Reached
    run s = on_bytes s (take g.used bs)

    go : (t : Bool) → (b == 10) ≡ t
        → run (state_of (kept c b) store) ≡ line_run g.ended (state_of g.state store)
        → on_bytes (state_of c store) (take (at t).used (b ∷ bs)) ≡ line_run (at t).ended (state_of (at t).state store)
    go true e ih =
        ap (λ (u : Bool). record { state = (step u).state; text = (step u).text ++ [] }) e
        ∙ ap (λ (x : List ℕ). record { state = (step true).state; text = x }) (append-nil (step true).text)
    go false e ih =
        ap
        (λ (u : Bool). let q = run (step u).state in record { state = q.state; text = (step u).text ++ q.text })
        e
        ∙ ap run (kept-state c b w store)
        ∙ ih
