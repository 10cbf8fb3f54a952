-- A line's turn, made in a lent store and output.
use Rattle.std.specs.Prelude.{◌≡◌, ℕ, ◌*◌, ◌/◌, ◌%◌, ◌<◌, ◌≤◌, Bool, true, false, not, ◌&&◌, List, ◌++◌, length, take, drop, replicate, ◌==◌, nat_le}
use Rattle.std.specs.Prelude.{Ok, Err}
use Rattle.std.proofs.Math.Path.{refl, ap}
use Rattle.std.proofs.Common.{sym, ◌∙◌, subst, arith, leb-true, le-leb, length-append, length-drop, take-append-drop, length-take-le}
use Rattle.std.proofs.lemmas.Bool.{lt-leb}
use Rattle.std.proofs.lemmas.List.{length-replicate}
use Rattle.lists.specs.Block.{blocks}
use Rattle.text.specs.Text.{store_text, refused_text}
use Rattle.model.specs.declared.Order.{Order}
use Rattle.model.specs.declared.Refusal.{Refusal}
use Rattle.model.specs.Answers.{Answer, LookupAnswer, refusal_no}
use Rattle.model.specs.Index.{Index}
use Rattle.model.specs.Held.{matches}
use Rattle.model.specs.Calls.{Result, done, refused, size_ok, order_of, format_ok, overwrites, format, format_in, listed}
use Rattle.model.specs.Calls.{lookup}
use Rattle.model.proofs.FormatLaws.{fill-ok}
use Rattle.model.proofs.MachineLaws.{never}
use Rattle.image.specs.Rules.{length_ok}
use Rattle.outcomes.specs.Outcomes.{Tested, passed, failed, tested, store_in_use, in_use_outcome, Changed, refusing}
use Rattle.outcomes.specs.Outcomes.{changed, format_replacing, format_outcome, lookup_on, lookup_outcome}
use Rattle.outcomes.proofs.OutcomeSoundLaws.{legal-is}
use Rattle.outcomes.proofs.InUseLaws.{format-in_use, format-accepted, in-use-is}
use Rattle.interpreter.specs.Script.{Turn, format_turn, format_line}
use Rattle.interpreter.specs.Feed.{store_bytes, over}
use Rattle.interpreter.specs.Script.{script_blocks}
use Rattle.interpreter.specs.Runs.{Stands, Runs, Room, Roomy}

-- ---- the store that stands

pub part-size : {blocks : ℕ} {s out : List ℕ} → Room blocks s out → length (take (512 * blocks) s) ≡ 512 * blocks
part-size {blocks} {s} r = length-take-le (512 * blocks) s (omega (arith, r.few, r.store))

-- bytes over the first `n` are bytes over themselves
pub over-part : (t s : List ℕ) (n : ℕ) → length t ≡ n → t ++ drop n s ≡ over t s
over-part t s n e = ap (λ (k : ℕ). t ++ drop k s) (sym e)

pub over-own : (s : List ℕ) (n : ℕ) → length (take n s) ≡ n → s ≡ over (take n s) s
over-own s n e = sym (take-append-drop n s) ∙ over-part (take n s) s n e

pub stands-kept : {blocks : ℕ} {s out : List ℕ} → Room blocks s out → Stands (take (512 * blocks) s) s s blocks
stands-kept {blocks} {s} r =
    record { few = r.few; size = part-size r; bytes = over-own s (512 * blocks) (part-size r) }

-- the part of the lent store was replaced by t
pub stands-made : {blocks : ℕ} (s t part : List ℕ) → blocks ≤ script_blocks → length part ≡ 512 * blocks → part ≡ t
    → Stands t s (part ++ drop (512 * blocks) s) blocks
stands-made {blocks} s t part few l e =
    record {
      few = few;
      size = ap length (sym e) ∙ l;
      bytes = over-part part s (512 * blocks) l ∙ ap (λ (x : List ℕ). over x s) e;
    }

-- t was put over the first blocks, and the lent store kept its length
pub stands-over : {blocks : ℕ} (s t new : List ℕ) → blocks ≤ script_blocks → store_bytes ≤ length s
    → length new ≡ length s → new ≡ t ++ drop (512 * blocks) s → Stands t s new blocks
stands-over {blocks} s t new few room l e =
    let size : length t ≡ 512 * blocks =
    omega (arith, few, room, l, ap length e, length-append t (drop (512 * blocks) s), length-drop (512 * blocks) s) in
    record { few = few; size = size; bytes = e ∙ over-part t s (512 * blocks) size }

pub runs_as : {t u : Turn} {old new : List ℕ} {blocks : ℕ} {before after : List ℕ} {written : ℕ} → t ≡ u
    → Runs t old new blocks before after written → Runs u old new blocks before after written
runs_as {t} {u} {old} {new} {blocks} {before} {after} {written} e r =
    subst (λ (x : Turn). Runs x old new blocks before after written) e r

-- ---- lookup: at most 5,000 matches in 30,000 bytes

pub lookup-roomy : (s : List ℕ) (h : ℕ) (lent out : List ℕ) (r : LookupAnswer) → length lent ≡ 30000 → length out
    ≡ 30000
    → (lookup_outcome s h lent).answer ≡ r → Roomy r out
unfolding lookup_outcome lookup
lookup-roomy s h lent out r l m e = subst (λ (a : LookupAnswer). Roomy a out) e (go (tested true s))
  where
    room : (x : Index) (t : Bool) → nat_le (length (matches x h)) (length lent / 6) ≡ t
        → Roomy (listed t (matches x h) lent).answer out
    room x true q =
        let few : length (matches x h) ≤ length lent / 6 = leb-true (length (matches x h)) (length lent / 6) q in
        (omega arith, omega arith)
    room x false q = tt

    go : (t : Tested) → Roomy (lookup_on t h lent).answer out
    go (failed q) = tt
    go (passed x) = room x (nat_le (length (matches x h)) (length lent / 6)) refl

-- ---- line f

-- Up to the script's N line f is format of N new blocks in the place of the store that stands. Above it line f is
-- refusal 1, whatever stands and whatever its other numbers are.
pub line-is-format : (line n : ℕ) (o : Order) (old : List ℕ)
    → let c = format_replacing old (replicate (512 * n) 0) o in
    (n ≤ script_blocks
    → format_line (nat_le n script_blocks) n o line old ≡ format_turn line n o.fill c.answer old c.store)
    × (script_blocks < n
    → format_line (nat_le n script_blocks) n o line old ≡ record { text = refused_text line 1; store = old })
line-is-format line n o old = (
  λ few. ap (λ (b : Bool). format_line b n o line old) (le-leb n script_blocks few),
  λ large. ap (λ (b : Bool). format_line b n o line old) (lt-leb n script_blocks large),
)

-- ---- format: what it makes goes by the length of the new store alone

module _ (old new : List ℕ) (line n : ℕ) (o : Order) where
  abbrev d : Changed
  d = format_replacing old new o

  -- the turn of an f whose new store is any bytes
  abbrev turn : List ℕ → Turn
  turn t = let c = format_replacing old t o in format_turn line n o.fill c.answer old c.store

  turn-alike : (t : List ℕ) → length new ≡ length t → turn new ≡ turn t
  unfolding format_replacing length_ok blocks
  turn-alike t e =
      both (length_ok new) (format_ok o) (not (overwrites o) && store_in_use old) (format (blocks new) o)
      ∙ ap (λ (k : ℕ). made (k % 512 == 0 && size_ok (k / 512)) (format_ok o) (not (overwrites o) && store_in_use old) t
      (format (k / 512) o)) e
    where
      made : (l f p : Bool) → List ℕ → Index → Turn
      made l f p t y = let c = changed t (format_in l f p y) in format_turn line n o.fill c.answer old c.store

      both : (l f p : Bool) (y : Index) → made l f p new y ≡ made l f p t y
      both false f p y = refl
      both true false p y = refl
      both true true true y = refl
      both true true false y = refl

  module _ (size : length new ≡ 512 * n) (few : n ≤ script_blocks) where
    same : turn new ≡ format_line (nat_le n script_blocks) n o line old
    same =
        turn-alike (replicate (512 * n) 0) (size ∙ sym (length-replicate (512 * n) 0))
        ∙ sym ((line-is-format line n o old).0 few)

    pub format-done : d.answer ≡ Ok tt
        → record { text = store_text n o.fill; store = d.store } ≡ format_line (nat_le n script_blocks) n o line old
    format-done e = sym (ap (λ (a : Answer). format_turn line n o.fill a old d.store) e) ∙ same

    pub format-refused : (r : Refusal) → d.answer ≡ Err r
        → record { text = refused_text line (refusal_no r); store = old } ≡ format_line (nat_le n script_blocks) n o line old
    format-refused r e = sym (ap (λ (a : Answer). format_turn line n o.fill a old d.store) e) ∙ same

  -- a refused one changes nothing
  pub format-kept : (r : Refusal) → d.answer ≡ Err r → d.store ≡ new
  unfolding format_replacing
  format-kept r e =
      go (format_in (length_ok new) (format_ok o) (not (overwrites o) && store_in_use old) (format (blocks new) o)) e
    where
      go : (q : Result) → (changed new q).answer ≡ Err r → (changed new q).store ≡ new
      go (done y) e = never (cc)
      go (refused q) e = refl

-- in the first k bytes of a lent store
pub refused-part : (old s : List ℕ) (k : ℕ) (o : Order) (r : Refusal)
    → format_replacing old (take k s) o ≡ refusing (take k s) r
    → (Err r ≡ (format_replacing old (take k s) o).answer)
    × (s ≡ (format_replacing old (take k s) o).store ++ drop k s)
refused-part old s k o r e = (
  sym (ap (λ (c : Changed). c.answer) e),
  sym (ap (λ (c : Changed). c.store ++ drop k s) e ∙ take-append-drop k s),
)

-- a store that passed the tests of a format is formatted with an order that overwrites
pub format-overwriting : (old new : List ℕ) (o : Order) → length_ok new ≡ true → format_ok o ≡ true
    → (not (overwrites o) && store_in_use old) ≡ false
    → format_outcome new (order_of o.fill o.number 1) ≡ format_replacing old new o
unfolding format_outcome format
format-overwriting old new o l f p =
    format-accepted new new (order_of o.fill o.number 1) l (ap (λ (b : Bool). b && true) (fill-ok o f)) refl
    ∙ sym (format-accepted old new o l f p)

-- ---- refusal 12: "the store tested is the one that stands, with its own N"

-- of a line f with legal numbers that is not told to overwrite
pub line-in-use : (line n : ℕ) (o : Order) (old : List ℕ) → size_ok n ≡ true → n ≤ script_blocks → format_ok o ≡ true
    → overwrites o ≡ false → in_use_outcome old ≡ Err Refusal.InUse
    → format_line (nat_le n script_blocks) n o line old ≡ record { text = refused_text line 12; store = old }
line-in-use line n o old size few f w u =
    let new : List ℕ = replicate (512 * n) 0 in
    let long : length new ≡ 512 * n = length-replicate (512 * n) 0 in
    sym (format-refused old new line n o long few Refusal.InUse
    (ap (λ (c : Changed). c.answer)
    (format-in_use old new o (legal-is new n long ∙ size) f w (in-use-is old u))))
