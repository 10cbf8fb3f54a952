-- Refusal 12 (docs/RULES.md 2.4) on any bytes: format's tests in their order, and what the call `in_use` says of a
-- format and of the book of demand 3.
use Rattle.std.specs.Prelude.{◌≡◌, Bool, true, false, cond, not, ◌&&◌, List, [], ◌∷◌, ℕ, Ok, Err}
use Rattle.std.proofs.Math.Path.{refl, ap}
use Rattle.std.proofs.Common.{sym, ◌∙◌, ⊎_elim, arith}
use Rattle.lists.specs.Block.{blocks}
use Rattle.model.specs.declared.Order.{Order}
use Rattle.model.specs.declared.Refusal.{Refusal}
use Rattle.model.specs.Answers.{Answer}
use Rattle.model.specs.Index.{Index}
use Rattle.model.specs.Calls.{order_of, format_ok, in_use, overwrites, done, format, format_in}
use Rattle.model.specs.Machine.{formatting, CallFits, plain}
use Rattle.model.specs.Book.{Book}
use Rattle.model.specs.History.{Moment, Always}
use Rattle.model.specs.HistoryLaws.{always-map}
use Rattle.model.proofs.MachineLaws.{never}
use Rattle.model.specs.Demand.{Holds}
use Rattle.image.specs.Decode.{decode}
use Rattle.image.specs.Rules.{length_ok, damaged, not_index, sound, verdict}
use Rattle.outcomes.specs.Outcomes.{in_use_on, store_in_use, in_use_outcome, refusing, changed}
use Rattle.outcomes.specs.Outcomes.{format_replacing, format_outcome, run_store, on_store}
use Rattle.outcomes.proofs.OutcomeLaws.{tested-verdict}
use Rattle.outcomes.proofs.Demand3Theorem.{demand3-stores}

-- ---- by the verdict, under the store's own number

module _ (s : List ℕ) (l : length_ok s ≡ true) where
  pub sound-in_use : (x : Index) → verdict s ≡ sound x → store_in_use s ≡ in_use x
  unfolding store_in_use
  sound-in_use x v = ap in_use_on (tested-verdict s l (sound x) v)

  -- a store that is damaged or no index is not in use, whatever it holds
  pub damaged-unused : (k : ℕ) → verdict s ≡ damaged k → store_in_use s ≡ false
  unfolding store_in_use
  damaged-unused k v = ap in_use_on (tested-verdict s l (damaged k) v)

  pub not_index-unused : (r : ℕ) → verdict s ≡ not_index r → store_in_use s ≡ false
  unfolding store_in_use
  not_index-unused r v = ap in_use_on (tested-verdict s l (not_index r) v)

-- ---- "Order for format: 1, 2, 12."

module _ (old new : List ℕ) (o : Order) where
  pub format-length : length_ok new ≡ false → format_replacing old new o ≡ refusing new Refusal.Length
  unfolding format_replacing
  format-length l = rw l refl

  pub format-number : length_ok new ≡ true → format_ok o ≡ false → format_replacing old new o ≡ refusing new Refusal.Number
  unfolding format_replacing
  format-number l f = rw (l, f) refl

  pub format-in_use : length_ok new ≡ true → format_ok o ≡ true → overwrites o ≡ false → store_in_use old ≡ true
      → format_replacing old new o ≡ refusing new Refusal.InUse
  unfolding format_replacing
  format-in_use l f w u = rw (l, f, w, u) refl

  -- it is not in use, or format is told to overwrite it
  pub format-accepted : length_ok new ≡ true → format_ok o ≡ true → (not (overwrites o) && store_in_use old) ≡ false
      → format_replacing old new o ≡ changed new (done (format (blocks new) o))
  unfolding format_replacing
  format-accepted l f p = rw (l, f, p) refl

-- ---- the call `in_use`

-- it answers 12 of a store in use alone
pub in-use-is : (s : List ℕ) → in_use_outcome s ≡ Err Refusal.InUse → store_in_use s ≡ true
unfolding in_use_outcome
in-use-is s e = go (length_ok s) (store_in_use s) e
  where
    go : (l u : Bool)
        → cond l (cond u (Err Refusal.InUse) (Ok (tt {0}))) (Err Refusal.Length) ≡ Err Refusal.InUse
        → u ≡ true
    go true true e = refl
    go true false e = never (cc)
    go false u e = never (cc)

-- it answers what a format with good numbers would that is not told to overwrite
pub in-use-format : (s : List ℕ) (o : Order) → format_ok o ≡ true → overwrites o ≡ false
    → (format_outcome s o).answer ≡ in_use_outcome s
unfolding format_replacing format_outcome in_use_outcome
in-use-format s o f w = rw (f, w) (go (length_ok s) (store_in_use s))
  where
    go : (l u : Bool) → (changed s (format_in l true u (format (blocks s) o))).answer
        ≡ cond l (cond u (Err Refusal.InUse) (Ok tt)) (Err Refusal.Length)
    go false u = refl
    go true true = refl
    go true false = refl

-- done of an empty book, and 12 of any other
abbrev pub book_answer : Book → Answer
book_answer [] = Ok tt
book_answer (p ∷ ps) = Err Refusal.InUse

-- at every moment of every list of calls
pub in-use-book : Always on_store (λ t. in_use_outcome t.state ≡ book_answer t.book)
unfolding run_store
in-use-book =
    always-map (Holds on_store decode) (λ (t : Moment on_store). in_use_outcome t.state ≡ book_answer t.book)
    (λ t h. said t h t.book refl) demand3-stores
  where
    said : (t : Moment on_store) → Holds on_store decode t → (bk : Book) → t.book ≡ bk
        → in_use_outcome t.state ≡ book_answer bk
    said t h bk e = sym (in-use-format t.state o refl refl) ∙ go bk e
      where
        o : Order
        o = order_of 1 0 0

        fits : CallFits (formatting (order_of 1 0 0))
        fits = (omega arith, omega arith, omega arith)

        given : (a b : Answer) → plain a ≡ plain b → a ≡ b
        given a b q = cc

        go : (bk : Book) → t.book ≡ bk → (format_outcome t.state (order_of 1 0 0)).answer ≡ book_answer bk
        go [] e =
            ⊎_elim (λ q. given _ _ q) (λ q. absurd (((h.0.formats (order_of 1 0 0) fits refl).0 q).1 e))
            (h.0.formatted (order_of 1 0 0) fits refl)
        go (p ∷ ps) e =
            given _ _ ((h.0.formats (order_of 1 0 0) fits refl).1 (refl, λ q. never (let z = sym e ∙ q in cc)))
