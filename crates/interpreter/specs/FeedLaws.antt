-- What the private functions give is feed's and finish's outcome.
use Rattle.std.specs.Prelude.{◌≡◌, ℕ, suc, ◌+◌, ◌≤◌, Bool, true, false, cond, Some, None, List, length, take, ◌==◌, ◌≢◌, nat_le, nat_lt, refl}
use Rattle.std.proofs.Common.{sym, ap, ◌∙◌, subst, arith, add-one, one-add, ltb-false, take_all}
use Rattle.std.specs.List.{fold, position, position_or_len}
use Rattle.std.proofs.lemmas.List.Recursion.{is_position_or_len}
use Rattle.std.proofs.lemmas.Option.{cond_some}
use borrow.Author.Tests.{leb-true, le-leb, eq-eqb, ne_eqb}
use Rattle.lists.specs.ListsLaws.{and_left, and_right}
use Rattle.lists.specs.Block.{blocks}
use Rattle.line.specs.Words.{span}
use Rattle.line.specs.WordsLaws.{span-le}
use Rattle.text.specs.Text.{line_output}
use Rattle.text.specs.TextLaws.{wrote-start, wrote_count}
use Rattle.interpreter.specs.declared.ScriptState.{ScriptState}
use Rattle.interpreter.specs.declared.Fed.{Fed}
use Rattle.interpreter.specs.Feed.{too_many, gathered, store_bytes, ready, Feeding, fed_as, still}
use Rattle.interpreter.specs.Script.{script_blocks}
use Rattle.interpreter.specs.Feed.{next_line, line_turn, line_ends, feed_outcome, finish_outcome}
use Rattle.interpreter.specs.Runs.{Runs, Room}
use Rattle.interpreter.specs.Held.{kept}
use Rattle.interpreter.specs.HeldLaws.{kept-gathered, Gathered, gather_in, up_to, gather-is}

-- ---- room

module _ (c : ScriptState) (store out : List ℕ) where
  pub ready-seen : ready c store out ≡ true → c.seen ≤ too_many
  ready-seen e = leb-true c.seen too_many (and_left (nat_le c.seen too_many) _ e)

  pub ready-room : ready c store out ≡ true → Room c.blocks store out
  ready-room e =
      let fit = and_right (nat_le c.seen too_many) _ e in
      let slices = and_right (nat_le c.blocks script_blocks) _ fit in
      record {
        few = leb-true c.blocks script_blocks (and_left (nat_le c.blocks script_blocks) _ fit);
        store = leb-true store_bytes (length store) (and_left (nat_le store_bytes (length store)) _ slices);
        output = leb-true line_output (length out) (and_right (nat_le store_bytes (length store)) _ slices);
      }

  pub room-ready : c.seen ≤ too_many → Room c.blocks store out → ready c store out ≡ true
  room-ready h r =
      rw (
        le-leb c.seen too_many h,
        le-leb c.blocks script_blocks r.few,
        le-leb store_bytes (length store) r.store,
        le-leb line_output (length out) r.output,
      )

-- ---- the end of a line

-- a turn that was made in a lent store and output
pub line-ends : (n : ℕ) (c : ScriptState) (store new : List ℕ) (count : ℕ) (out after : List ℕ) (written m : ℕ)
    → m ≡ next_line c.number → Runs (line_turn c store) store new count out after written
    → line_ends n c store out
    ≡ fed_as
    (record {
      ready = true;
      state = record { number = m; seen = 0; line = c.line; blocks = count };
      used = n;
      written = written;
    })
    new after
unfolding blocks
line-ends n c store new count out after written m e r =
    let t = line_turn c store in
    let size = r.store.size in
    let number : blocks t.store ≡ count = omega (arith, size) in
    cc (e, number, r.store.bytes, wrote-start r.text, wrote_count r.text)

-- the state after it serves as well
pub ready-next : (n : ℕ) (c : ScriptState) (store out : List ℕ) (r : Fed) (new after : List ℕ)
    → ready c store out ≡ true → line_ends n c store out ≡ fed_as r new after → r.state.blocks ≤ script_blocks
    → length new ≡ length store → length after ≡ length out → r.ready ≡ ready r.state new after
ready-next n c store out r new after y e few l m =
    let room = ready-room c store out y in
    let seen : 0 ≡ r.state.seen = ap (λ (f : Feeding). f.fed.state.seen) e in
    sym (ap (λ (f : Feeding). f.fed.ready) e)
    ∙ sym
    (room-ready r.state new after (omega (arith, seen))
    (record { few = few; store = omega (arith, room.store); output = omega (arith, room.output) }))

-- ---- feed

-- where std's position finds the first LF
span-position : (input : List ℕ) → span 10 input ≡ position_or_len (λ b. b == 10) input
span-position input =
    is_position_or_len (span 10) (λ b. b == 10) refl
    (λ x xs. step (x == 10) (span 10 xs)) input
  where
    step : (t : Bool) (k : ℕ) → Path ℕ (elim t [ true ↦ 0 | false ↦ suc k ]) (cond t 0 (1 + k))
    step true k = refl
    step false k = sym (one-add k)

lf-at : (input : List ℕ) (n : ℕ) → position (λ b. b == 10) input ≡ Some n
    → (span 10 input ≡ n) × (nat_lt (span 10 input) (length input) ≡ true)
lf-at input n e =
    let found = cond_some (nat_lt (position_or_len (λ b. b == 10) input) (length input))
    (position_or_len (λ b. b == 10) input) n e in
    (span-position input ∙ found.1, ap (λ (k : ℕ). nat_lt k (length input)) (span-position input) ∙ found.0)

lf-none : (input : List ℕ) → position (λ b. b == 10) input ≡ None
    → (span 10 input ≡ length input) × (nat_lt (span 10 input) (length input) ≡ false)
lf-none input e =
    let past : nat_lt (span 10 input) (length input) ≡ false =
    ap (λ (k : ℕ). nat_lt k (length input)) (span-position input) ∙ go (nat_lt _ (length input)) e in
    (omega (arith, span-le 10 input, ltb-false (span 10 input) (length input) past), past)
  where
    go : (t : Bool) → cond t (Some (position_or_len (λ b. b == 10) input)) None ≡ None → t ≡ false
    go true q = cc
    go false q = refl

module _ (c : ScriptState) (store input out : List ℕ) where
  pub feed-unready : ready c store out ≡ false → feed_outcome c store input out ≡ still false 0 c store out
  unfolding feed_outcome
  feed-unready e = rw e

  pub feed-ready : ready c store out ≡ true
      → let n = span 10 input in
      let g = gathered c (take n input) in
      feed_outcome c store input out
      ≡ cond (nat_lt n (length input)) (line_ends (suc n) g store out) (still true n g store out)
  unfolding feed_outcome
  feed-ready e = rw e

  -- as gather_in has it
  module _ (g : Gathered) (e : g ≡ gather_in c input) (whole : length c.line ≡ 80)
      (y : ready c store out ≡ true) where
    to-lf : g ≡ up_to c input (span 10 input)
    to-lf = e ∙ gather-is c input whole (ready-seen c store out y)

    pub held-seen : g.state.seen ≤ too_many
    held-seen = let q = ap (λ (x : Gathered). x.state.seen) to-lf in omega (arith, q)

    pub held-blocks : g.state.blocks ≡ c.blocks
    held-blocks = ap (λ (x : Gathered). x.state.blocks) to-lf

    pub held-room : Room g.state.blocks store out
    held-room = subst (λ (m : ℕ). Room m store out) (sym held-blocks) (ready-room c store out y)

    abbrev by : Gathered → Feeding
    by x = cond x.ended (line_ends x.used x.state store out) (still true x.used x.state store out)

    pick : (u : Bool) (n : ℕ) (x : ScriptState)
        → cond u (line_ends (suc n) x store out) (still true n x store out)
        ≡ by (record { state = x; used = cond u (suc n) n; ended = u })
    pick true n x = refl
    pick false n x = refl

    pub feed-gathered : (t : Bool) → g.ended ≡ t
        → feed_outcome c store input out
        ≡ cond t (line_ends g.used g.state store out) (still true g.used g.state store out)
    feed-gathered t h =
        let n = span 10 input in
        feed-ready y ∙ pick (nat_lt n (length input)) n (gathered c (take n input)) ∙ ap by (sym to-lf)
        ∙ ap (λ (u : Bool).
        cond u (line_ends g.used g.state store out) (still true g.used g.state store out))
        h

  -- as kept has it, one byte after the other
  module _ (whole : length c.line ≡ 80) (y : ready c store out ≡ true) where
    folded : (bs : List ℕ) → fold kept c bs ≡ gathered c bs
    folded bs = kept-gathered c bs whole (ready-seen c store out y)

    pub folded-room : (bs : List ℕ) → Room (fold kept c bs).blocks store out
    folded-room bs =
        subst (λ (x : ScriptState). Room x.blocks store out) (sym (folded bs)) (ready-room c store out y)

    pub folded-ready : (bs : List ℕ) → ready (fold kept c bs) store out ≡ true
    folded-ready bs =
        let q = ap (λ (x : ScriptState). x.seen) (folded bs) in
        room-ready (fold kept c bs) store out (omega (arith, q)) (folded-room bs)

    abbrev cut_at : ℕ → Bool → Feeding
    cut_at n u =
        cond u (line_ends (suc n) (gathered c (take n input)) store out)
        (still true n (gathered c (take n input)) store out)

    -- the first LF stands at n
    pub feed-line : (n : ℕ) → position (λ b. b == 10) input ≡ Some n
        → feed_outcome c store input out ≡ line_ends (n + 1) (fold kept c (take n input)) store out
    feed-line n e =
        let at = lf-at input n e in
        feed-ready y ∙ ap (cut_at (span 10 input)) at.1 ∙ ap (λ (k : ℕ). cut_at k true) at.0
        ∙ ap (λ (x : ScriptState). line_ends (suc n) x store out) (sym (folded (take n input)))
        ∙ ap (λ (k : ℕ). line_ends k (fold kept c (take n input)) store out) (sym (add-one n))

    -- there is none
    pub feed-part : position (λ b. b == 10) input ≡ None
        → feed_outcome c store input out ≡ still true (length input) (fold kept c input) store out
    feed-part e =
        let at = lf-none input e in
        feed-ready y ∙ ap (cut_at (span 10 input)) at.1 ∙ ap (λ (k : ℕ). cut_at k false) at.0
        ∙ ap (λ (l : List ℕ). still true (length input) (gathered c l) store out)
        (take_all (length input) input (omega arith))
        ∙ ap (λ (x : ScriptState). still true (length input) x store out) (sym (folded input))

-- ---- finish

module _ (c : ScriptState) (store out : List ℕ) where
  pub finish-unready : ready c store out ≡ false → finish_outcome c store out ≡ still false 0 c store out
  unfolding finish_outcome
  finish-unready e = rw e

  pub finish-still : ready c store out ≡ true → c.seen ≡ 0 → finish_outcome c store out ≡ still true 0 c store out
  unfolding finish_outcome
  finish-still y h = rw (y, eq-eqb c.seen 0 h)

  pub finish-ended : ready c store out ≡ true → (c.seen ≢ 0)
      → finish_outcome c store out ≡ line_ends 0 c store out
  unfolding finish_outcome
  finish-ended y h = rw (y, ne_eqb c.seen 0 h)
