use Rattle.std.proofs.Common.{◌≡◌, ℕ, ◌+◌, ◌<◌, eqb, Option, Some, None, List, length, drop, get_or, sym, ap, ◌∙◌, subst, refl, arith, rules, tests}
use Rattle.std.specs.List.{slice_split}
use Rattle.std.proofs.lemmas.List.{at_drop_all, length_push}
use Rattle.std.proofs.lemmas.Iterator.Consumers.{YieldsList-turn, YieldsList-end}
use Rattle.std.proofs.lemmas.Iterator.Splits.{YieldsList-from_slice_split}
use Rattle.line.specs.declared.Fields.{Fields}
use Rattle.line.specs.Words.{words, number_of}
use Rattle.line.specs.WordsLaws.{parts-split}
use Rattle.line.specs.Command.{add_number, fields_from}
use Rattle.line.specs.CommandLaws.{fields-turn}
use Rattle.line.proofs.words.read_fields.Goals as goal

abbrev split : List ℕ → List (List ℕ)
split line = slice_split (λ b. eqb b 32) line

-- the word that an iteration has
module _ (f : Fields) (line w : List ℕ) (i : ℕ) (t : (i < length (split line)) × (w ≡ get_or (split line) i w)) where
  turn : fields_from f (drop i (words line))
      ≡ elim (add_number f (number_of w)) [ Some g ↦ fields_from g (drop (i + 1) (words line)) | None ↦ None ]
  turn =
      subst
      (λ (ws : List (List ℕ)). fields_from f (drop i ws)
      ≡ elim (add_number f (number_of w)) [ Some g ↦ fields_from g (drop (i + 1) ws) | None ↦ None ])
      (parts-split 32 line) (fields-turn f (split line) i w t.0 t.1)

  -- it is no number, or one too many, or the line goes on
  read : (n : Option ℕ) (g : Option Fields) → number_of w ≡ n → add_number f n ≡ g
      → fields_from f (drop i (words line)) ≡ elim g [ Some h ↦ fields_from h (drop (i + 1) (words line)) | None ↦ None ]
  read n g e p =
      turn
      ∙ ap (λ (r : Option Fields). elim r [ Some h ↦ fields_from h (drop (i + 1) (words line)) | None ↦ None ])
      (ap (add_number f) e ∙ p)

-- no word is left
ended : (f : Fields) (line : List ℕ) (i : ℕ) → i ≡ length (split line) → fields_from f (drop i (words line)) ≡ Some f
ended f line i e =
    subst (λ (ws : List (List ℕ)). fields_from f (drop i ws) ≡ Some f) (parts-split 32 line)
    (at_drop_all (fields_from f) (split line) i (omega arith))

pub returns-in_err-read_number : goal.returns-in_err-read_number
returns-in_err-read_number c =
    let line = c.args.line.now in
    let l = c.loop-word in
    let road = YieldsList-from_slice_split _ (λ (b : ℕ). eqb b 32) line (cc) (cc) (cc) (λ x b q k. search (rules, tests)) in
    let t = YieldsList-turn road l.yielded _ l.yielded_by _ _ c.in-Some.word c.in-Some.is c.next.ensures.steps in
    let e = sym c.read_number.ensures ∙ c.in_err-read_number.was in
    c.from_residual.ensures ∙ sym (l.invariant ∙ read l.fields line c.in-Some.word.now (length l.yielded) t None None e refl)

pub returns-in_err-fields : goal.returns-in_err-fields
returns-in_err-fields c =
    let line = c.args.line.now in
    let l = c.loop-word in
    let road = YieldsList-from_slice_split _ (λ (b : ℕ). eqb b 32) line (cc) (cc) (cc) (λ x b q k. search (rules, tests)) in
    let t = YieldsList-turn road l.yielded _ l.yielded_by _ _ c.in-Some.word c.in-Some.is c.next.ensures.steps in
    let e = sym c.read_number.ensures ∙ c.in_ok-read_number.was in
    let p = sym c.add_value.ensures ∙ c.in_err-fields.was in
    c.from_residual-in_err-fields.ensures ∙ sym (l.invariant ∙ read l.fields line c.in-Some.word.now (length l.yielded) t _ None e p)

pub loop-word-preserved : goal.loop-word-preserved
loop-word-preserved c =
    let line = c.args.line.now in
    let l = c.loop-word in
    let road = YieldsList-from_slice_split _ (λ (b : ℕ). eqb b 32) line (cc) (cc) (cc) (λ x b q k. search (rules, tests)) in
    let t = YieldsList-turn road l.yielded _ l.yielded_by _ _ c.in-Some.word c.in-Some.is c.next.ensures.steps in
    let e = sym c.read_number.ensures ∙ c.in_ok-read_number.was in
    let p = sym c.add_value.ensures ∙ c.in_ok-fields.was in
    l.invariant ∙ read l.fields line c.in-Some.word.now (length l.yielded) t _ _ e p
    ∙ ap (λ (k : ℕ). fields_from c.in_ok-fields.fields (drop k (words line))) (sym (length_push l.yielded c.in-Some.word))

pub returns : goal.returns
returns c =
    let line = c.args.line.now in
    let l = c.loop-word in
    let road = YieldsList-from_slice_split _ (λ (b : ℕ). eqb b 32) line (cc) (cc) (cc) (λ x b q k. search (rules, tests)) in
    let t = YieldsList-end road l.yielded _ l.yielded_by _ _ c.in-None.is c.next.ensures.steps in
    sym (l.invariant ∙ ended l.fields line (length l.yielded) t.1)
