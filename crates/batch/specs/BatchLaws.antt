-- A list of calls splits anywhere: the rest goes on from what its first calls leave, and its moments likewise. Each
-- word stays as its call left it.
use Rattle.std.specs.Prelude.{◌≡◌, refl, List, [], ◌∷◌, ◌++◌, ℕ, zero, suc, ◌+◌, ◌*◌, ◌≤◌, ◌<◌, length, get_or}
use Rattle.std.proofs.Common.{sym, ap, ◌∙◌, append_assoc, arith}
use Rattle.std.proofs.Math.Option.{Option, none, some}
use Rattle.std.proofs.Math.ListN.{length-set}
use Rattle.std.proofs.Math.Seq.{get_or-set_same, get_or-set_other}
use Rattle.lists.specs.Lists.{Each}
use Rattle.model.specs.Machine.{Call, CallFits, accepted}
use Rattle.model.specs.Book.{effect}
use Rattle.model.specs.History.{Moment, within, after, history, last_of}
use Rattle.model.specs.HistoryLaws.{last-append}
use Rattle.outcomes.specs.Outcomes.{run_store, on_store}
use Rattle.cuts.specs.Journalled.{run_disk}
use Rattle.batch.specs.Batch.{word_of, Small, call_at, Kept, ran_at, runs, also, calls_in}
use Rattle.batch.specs.Batch.{moments_in, moment_after}
use Rattle.batch.specs.CallLaws.{MayFit, fits-call}

-- ---- the numbers fit

fits-also : (c : Option Call) (cs : List Call) → MayFit c → Each CallFits cs → Each CallFits (also c cs)
fits-also none cs f g = g
fits-also (some c) cs f g = (f, g)

module _ (ws : List ℕ) where
  pub fits-calls : Small ws → (n i : ℕ) (k : Kept) → Each CallFits (calls_in ws n i k)
  fits-calls h zero i k = tt
  fits-calls h (suc n) i k =
      fits-also (call_at ws i k.output) (calls_in ws n (suc i) (ran_at ws i k))
      (fits-call _ _ _ _ k.output (h (4 * i + 1)) (h (4 * i + 2)) (h (4 * i + 3)))
      (fits-calls h n (suc i) (ran_at ws i k))

  -- ---- the calls split

  pub runs-split : (m n i : ℕ) (k : Kept) → runs ws (m + n) i k ≡ runs ws n (i + m) (runs ws m i k)
  runs-split zero n i k =
      let e : 0 + n ≡ n = omega arith in
      let f : i ≡ i + 0 = omega arith in
      (λ j. runs ws (e j) (f j) k)
  runs-split (suc m) n i k =
      let e : suc m + n ≡ suc (m + n) = omega arith in
      let f : suc i + m ≡ i + suc m = omega arith in
      ap (λ (j : ℕ). runs ws j i k) e ∙ runs-split m n (suc i) (ran_at ws i k)
      ∙ ap (λ (j : ℕ). runs ws n j (runs ws (suc m) i k)) f

  -- the call after n calls
  pub runs-next : (n i : ℕ) (k : Kept) → runs ws (suc n) i k ≡ ran_at ws (i + n) (runs ws n i k)
  runs-next n i k = let e : suc n ≡ n + 1 = omega arith in ap (λ (j : ℕ). runs ws j i k) e ∙ runs-split n 1 i k

  also-append : (c : Option Call) (cs ds : List Call) → also c (cs ++ ds) ≡ also c cs ++ ds
  also-append none cs ds = refl
  also-append (some c) cs ds = refl

  pub calls-split : (m n i : ℕ) (k : Kept)
      → calls_in ws (m + n) i k ≡ calls_in ws m i k ++ calls_in ws n (i + m) (runs ws m i k)
  calls-split zero n i k =
      let e : 0 + n ≡ n = omega arith in
      let f : i ≡ i + 0 = omega arith in
      (λ j. calls_in ws (e j) (f j) k)
  calls-split (suc m) n i k =
      let e : suc m + n ≡ suc (m + n) = omega arith in
      let f : suc i + m ≡ i + suc m = omega arith in
      let c : Option Call = call_at ws i k.output in
      ap (λ (j : ℕ). calls_in ws j i k) e ∙ ap (also c) (calls-split m n (suc i) (ran_at ws i k))
      ∙ also-append c (calls_in ws m (suc i) (ran_at ws i k)) _
      ∙ ap (λ (j : ℕ). calls_in ws (suc m) i k ++ calls_in ws n j (runs ws (suc m) i k)) f

-- ---- the moments split

history-append : (cs ds : List Call) (t : Moment on_store)
    → history on_store (cs ++ ds) t
    ≡ history on_store cs t ++ history on_store ds (last_of on_store t (history on_store cs t))
history-append [] ds t = refl
history-append (c ∷ cs) ds t =
    let u : Moment on_store = after on_store c t in
    let us : List (Moment on_store) = within on_store (accepted (run_store c t.state).reply) (effect c) t in
    ap (λ (vs : List (Moment on_store)). us ++ u ∷ vs) (history-append cs ds u)
    ∙ sym (append_assoc us (u ∷ history on_store cs u) _)
    ∙ ap (λ (v : Moment on_store). (us ++ u ∷ history on_store cs u) ++ history on_store ds v)
    (sym (last-append on_store t us u (history on_store cs u)))

pub moments-split : (ws : List ℕ) (m n i : ℕ) (k : Kept) (t : Moment on_store)
    → moments_in ws (m + n) i k t
    ≡ moments_in ws m i k t ++ moments_in ws n (i + m) (runs ws m i k) (moment_after ws m i k t)
moments-split ws m n i k t =
    ap (λ (cs : List Call). history on_store cs t) (calls-split ws m n i k)
    ∙ history-append (calls_in ws m i k) (calls_in ws n (i + m) (runs ws m i k)) t

-- what holds of all moments holds of the last
pub last-each : (P : Moment on_store → Type 0) (t : Moment on_store) (us : List (Moment on_store)) → Each P (t ∷ us)
    → P (last_of on_store t us)
last-each P t [] h = h.0
last-each P t (u ∷ us) h = last-each P u us h.1

-- ---- the words

module _ (ws : List ℕ) where
  ran-length : (i : ℕ) (k : Kept) → length (ran_at ws i k).words ≡ length k.words
  unfolding ran_at
  ran-length i k = length-set k.words i _

  ran-word : (i : ℕ) (k : Kept) → i < length k.words
      → get_or (ran_at ws i k).words i 0 ≡ word_of run_disk (call_at ws i k.output) k.disk
  unfolding ran_at
  ran-word i k h = get_or-set_same k.words i _ 0 h

  ran-other : (i j : ℕ) (k : Kept) → j < i → get_or (ran_at ws i k).words j 0 ≡ get_or k.words j 0
  unfolding ran_at
  ran-other i j k h = get_or-set_other k.words i j _ 0 (λ e. omega arith)

  -- later calls leave a word alone
  runs_other : (n i j : ℕ) (k : Kept) → j < i → get_or (runs ws n i k).words j 0 ≡ get_or k.words j 0
  runs_other zero i j k h = refl
  runs_other (suc n) i j k h = runs_other n (suc i) j (ran_at ws i k) (omega arith) ∙ ran-other i j k h

  pub runs-word : (j n i : ℕ) (k : Kept) → j < n → i + n ≤ length k.words
      → get_or (runs ws n i k).words (i + j) 0
      ≡ word_of run_disk (call_at ws (i + j) (runs ws j i k).output) (runs ws j i k).disk
  runs-word j zero i k h f = absurd (omega arith)
  runs-word zero (suc n) i k h f =
      let z : i + 0 ≡ i = omega arith in
      rw z (runs_other n (suc i) i (ran_at ws i k) (omega arith) ∙ ran-word i k (omega arith))
  runs-word (suc j) (suc n) i k h f =
      let z : i + suc j ≡ suc i + j = omega arith in
      rw z (runs-word j n (suc i) (ran_at ws i k) (omega arith) (omega (arith, ran-length i k)))
