-- A change that leaves every block but some as it was alters no more blocks than these.
use Rattle.std.specs.Prelude.{◌≡◌, refl, Bool, true, cond, ◌&&◌, List, [], ◌∷◌, ℕ, zero, suc, ◌+◌, ◌≤◌, ◌<◌, eqb, length}
use Rattle.std.proofs.Math.Path.{sym, ap}
use Rattle.std.proofs.Common.{ap₂, ◌∙◌}
use Rattle.std.proofs.Math.Bool.{false, not}
use Rattle.std.proofs.Math.Decide.{ℕ_discrete}
use native.Mathlib.Omega.{arith}
use Rattle.lists.specs.Lists.{b2n, tally, keep, up_from}
use Rattle.lists.specs.ListsLaws.{and-false, and_left, eqb_yes, eqb_no, tally-le, length-keep}
use Rattle.lists.specs.Block.{blocks, block}
use Rattle.store.specs.Store.{covered, sealed}
use Rattle.model.specs.Index.{Index}
use Rattle.model.specs.Calls.{Result, done, refused}
use Rattle.model.specs.Machine.{settled}
use Rattle.model.specs.WellFormed.{Laid}
use Rattle.model.specs.TallyLaws.{tally-parts}
use Rattle.model.proofs.FrameLaws.{Framed, SameStore}
use Rattle.image.specs.Layout.{encode_block, sealed_block, encode}
use Rattle.image.proofs.EncodeLaws.{blocks-encode, block-encode, covered-encode}
use Rattle.frame.specs.Frame.{Apart}
use Rattle.journal.specs.Journal.{equal}
use Rattle.journal.proofs.ValidLaws.{equal-eq, equal-yes}
use Rattle.journal.specs.Altered.{altered}

-- ---- numbers of a run that are all among some others are no more than these

none : (t : ℕ → Bool) (i n : ℕ) → ((k : ℕ) → i ≤ k → k < i + n → t k ≡ false) → tally t (up_from i n) ≡ 0
none t i zero h = refl
none t i (suc n) h =
    omega (
      arith,
      ap b2n (h i (omega arith) (omega arith)),
      none t (suc i) n (λ k a b. h k (omega arith) (omega arith)),
    )

once : (j i n : ℕ) → tally (λ k. eqb k j) (up_from i n) ≤ 1
once j i zero = omega arith
once j i (suc n) = go (ℕ_discrete i j) (once j (suc i) n)
  where
    go : Dec (i ≡ j) → tally (λ k. eqb k j) (up_from (suc i) n) ≤ 1
        → b2n (eqb i j) + tally (λ k. eqb k j) (up_from (suc i) n) ≤ 1
    go (yes e) ih =
        omega (
          arith,
          ap b2n (eqb_yes i j e),
          none (λ k. eqb k j) (suc i) n (λ k a b. eqb_no k j (λ q. absurd (omega arith))),
        )
    go (no e) ih = omega (arith, ap b2n (eqb_no i j e))

pub among : (js : List ℕ) (t : ℕ → Bool) (i n : ℕ)
    → ((k : ℕ) → i ≤ k → k < i + n → Apart k js → t k ≡ false) → tally t (up_from i n) ≤ length js
among [] t i n h = omega (arith, none t i n (λ k a b. h k a b tt))
among (j ∷ js) t i n h =
    omega (
      arith,
      tally-parts (λ k. eqb k j) t (up_from i n),
      tally-le (λ k. eqb k j && t k) (λ k. eqb k j) (up_from i n) (λ k. and_left (eqb k j) (t k)),
      once j i n,
      among js (λ k. not (eqb k j) && t k) i n (λ k a b f. go k a b f (ℕ_discrete k j)),
    )
  where
    go : (k : ℕ) → i ≤ k → k < i + n → Apart k js → Dec (k ≡ j) → not (eqb k j) && t k ≡ false
    go k a b f (yes e) = ap (λ (c : Bool). not c && t k) (eqb_yes k j e)
    go k a b f (no e) = ap (λ (c : Bool). not (eqb k j) && c) (h k a b (e, f)) ∙ and-false (not (eqb k j))

-- ---- tests that agree

keep_run : (t u : ℕ → Bool) (i n : ℕ) → ((k : ℕ) → i ≤ k → k < i + n → t k ≡ u k)
    → keep t (up_from i n) ≡ keep u (up_from i n)
keep_run t u i zero h = refl
keep_run t u i (suc n) h =
    ap₂ (λ (c : Bool) (ks : List ℕ). cond c (i ∷ ks) ks) (h i (omega arith) (omega arith))
    (keep_run t u (suc i) n (λ k a b. h k (omega arith) (omega arith)))

equal-same : (a b c d : List ℕ) → (a ≡ b → c ≡ d) → (c ≡ d → a ≡ b) → equal a b ≡ equal c d
equal-same a b c d f g = go (equal a b) (equal c d) refl refl
  where
    go : (m n : Bool) → equal a b ≡ m → equal c d ≡ n → m ≡ n
    go true n p q = sym (equal-yes c d (f (equal-eq a b p))) ∙ q
    go false true p q = sym p ∙ equal-yes a b (g (equal-eq c d q))
    go false false p q = refl

-- ---- of an index

pub framed-store : (x y : Index) → Framed x y → SameStore x y
framed-store x y f = record { size = f.size; number = f.number }

module _ (x y : Index) (lx : Laid x) (ly : Laid y) (same : SameStore x y) where
  -- a body that stays leaves the block, since the store number stays
  pub block-stays : (k : ℕ) → k < x.size → encode_block y k ≡ encode_block x k → block (encode x) k ≡ block (encode y) k
  unfolding sealed_block
  block-stays k h e =
      block-encode x lx k h
      ∙ (λ i. sealed (sym same.number i) k (sym e i))
      ∙ sym (block-encode y ly k (omega (arith, same.size)))

  -- the blocks outside a list of at most n stay, so at most n are altered
  pub touches : (n : ℕ) (js : List ℕ) → length js ≤ n → ((k : ℕ) → Apart k js → encode_block y k ≡ encode_block x k)
      → length (altered (encode x) (encode y)) ≤ n
  unfolding altered
  touches n js few frame =
      omega (
        arith,
        length-keep (λ k. not (equal (block (encode x) k) (block (encode y) k))) (up_from 0 (blocks (encode x))),
        among js (λ k. not (equal (block (encode x) k) (block (encode y) k))) 0 (blocks (encode x)) stays,
      )
    where
      stays : (k : ℕ) → 0 ≤ k → k < 0 + blocks (encode x) → Apart k js
          → not (equal (block (encode x) k) (block (encode y) k)) ≡ false
      stays k a b f =
          ap not
          (equal-yes (block (encode x) k) (block (encode y) k)
          (block-stays k (omega (arith, blocks-encode x lx)) (frame k f)))

  -- the check follows from the body: the blocks altered are those whose bodies differ
  pub altered-bodies : altered (encode x) (encode y)
      ≡ keep (λ k. not (equal (encode_block x k) (encode_block y k))) (up_from 0 x.size)
  unfolding altered
  altered-bodies =
      ap (λ (n : ℕ). keep (λ k. not (equal (block (encode x) k) (block (encode y) k))) (up_from 0 n))
      (blocks-encode x lx)
      ∙ keep_run (λ k. not (equal (block (encode x) k) (block (encode y) k)))
      (λ k. not (equal (encode_block x k) (encode_block y k))) 0 x.size
      (λ k a b. ap not (bodies k (omega (arith, b))))
    where
      bodies : (k : ℕ) → k < x.size
          → equal (block (encode x) k) (block (encode y) k) ≡ equal (encode_block x k) (encode_block y k)
      bodies k h =
          equal-same (block (encode x) k) (block (encode y) k) (encode_block x k) (encode_block y k)
          (λ e.
          sym (covered-encode x lx k h) ∙ ap covered e ∙ covered-encode y ly k (omega (arith, same.size)))
          (λ e. block-stays k h (sym e))

-- a refused change alters none
pub settled-few : (x : Index) → Laid x → (n : ℕ) (a : Result)
    → ((y : Index) → a ≡ done y → length (altered (encode x) (encode y)) ≤ n)
    → length (altered (encode x) (encode (settled x a).state)) ≤ n
settled-few x l n (done y) h = h y refl
settled-few x l n (refused r) h =
    touches x x l l (record { size = refl; number = refl }) n [] (omega arith) (λ k a. refl)
