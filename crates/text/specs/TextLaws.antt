-- Text written piece after piece.
use Rattle.std.specs.Prelude.{◌≡◌, List, [], ◌∷◌, ◌++◌, ℕ, zero, suc, ◌+◌, ◌^◌, ◌≤◌, ◌<◌, length, drop}
use Rattle.std.proofs.Common.{ap, ◌∙◌, subst, append-nil, zero-add, add-one, arith, length-append}
use Rattle.std.proofs.lemmas.List.Edits.{sets, sets-eq}
use Rattle.std.proofs.Math.Seq.{length-sets}
use Rattle.lists.specs.Lists.{bind, up_from}
use Rattle.lists.specs.ListsLaws.{bind-append}
use Rattle.lists.specs.BytesLaws.{sets-append}
use Rattle.text.specs.Digits.{digits}
use Rattle.text.specs.DigitsLaws.{digits-few}
use Rattle.text.specs.Wrote.{Wrote}

pub wrote-length : {x y : List ℕ} {i j : ℕ} {t : List ℕ} → Wrote x i t y j → length y ≡ length x
wrote-length {x} {y} {i} {j} {t} w = ap length w.bytes ∙ length-sets x i t

module _ {x y z : List ℕ} {i j k : ℕ} {t u : List ℕ} where
  pub then-wrote : Wrote x i t y j → Wrote y j u z k → Wrote x i (t ++ u) z k
  then-wrote a b =
      record {
        bytes =
            b.bytes ∙ ap (λ (n : ℕ). sets y n u) a.ends ∙ ap (λ (l : List ℕ). sets l (i + length t) u) a.bytes
            ∙ sets-append t u x i;
        ends = omega (arith, a.ends, b.ends, length-append t u);
        fits = omega (arith, b.fits, wrote-length a);
      }

pub wrote_as : {x y : List ℕ} {i j : ℕ} {t u : List ℕ} → t ≡ u → Wrote x i t y j → Wrote x i u y j
wrote_as {x} {y} {i} {j} e w = subst (λ (v : List ℕ). Wrote x i v y j) e w

-- text written from the start on
module _ {x y : List ℕ} {j : ℕ} {t : List ℕ} (w : Wrote x 0 t y j) where
  pub wrote_count : j ≡ length t
  wrote_count = omega (arith, w.ends)

  pub wrote-start : y ≡ t ++ drop (length t) x
  wrote-start =
      w.bytes ∙ sets-eq t x 0 (omega (arith, w.ends, w.fits)) ∙ ap (λ (n : ℕ). t ++ drop n x) (zero-add (length t))

-- ---- digits of numbers of 16, 32 and 64 bits

pub digits-16 : (n : ℕ) → n < 2 ^ 16 → length (digits n) ≤ 5
digits-16 n h = digits-few 4 n (omega arith)

pub digits-32 : (n : ℕ) → n < 2 ^ 32 → length (digits n) ≤ 10
digits-32 n h = digits-few 9 n (omega arith)

pub digits-64 : (n : ℕ) → n < 2 ^ 64 → length (digits n) ≤ 20
digits-64 n h = digits-few 19 n (omega arith)

-- ---- one list more

run_more : (i n : ℕ) → up_from i (suc n) ≡ up_from i n ++ ((i + n) ∷ [])
run_more i zero = ap (λ (k : ℕ). k ∷ []) (omega arith)
run_more i (suc n) =
    ap (λ (l : List ℕ). i ∷ l) (run_more (suc i) n ∙ ap (λ (k : ℕ). up_from (suc i) n ++ (k ∷ [])) (omega arith))

pub bind-more : (f : ℕ → List ℕ) (n : ℕ) → bind (up_from 0 (n + 1)) f ≡ bind (up_from 0 n) f ++ f n
bind-more f n =
    ap (λ (k : ℕ). bind (up_from 0 k) f) (add-one n) ∙ ap (λ (l : List ℕ). bind l f) (run_more 0 n)
    ∙ bind-append f (up_from 0 n) ((0 + n) ∷ [])
    ∙ ap (λ (l : List ℕ). bind (up_from 0 n) f ++ l) (append-nil (f (0 + n)) ∙ ap f (zero-add n))
