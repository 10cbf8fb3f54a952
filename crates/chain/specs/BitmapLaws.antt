-- The search for the lowest free bit and the test for ones, a bit or a byte at a time, and what is found.
use Rattle.std.proofs.Math.Path.{◌≡◌, refl, ap}
use Rattle.std.proofs.Common.{sym, ◌∙◌, add-one, arith}
use Rattle.std.specs.Prelude.{◌≢◌, Bool, true, false, ◌&&◌, ℕ, zero, suc, ◌+◌, ◌*◌, ◌-◌, ◌/◌, ◌%◌, ◌^◌, ◌≤◌, ◌<◌, get_or, Option, Some, None}
use mathlib.Core.List.{List, ◌∷◌}
use Rattle.std.proofs.Math.Option as maybe
use Rattle.std.proofs.Math.Option.{Option as Maybe, none, some}
use borrow.Author.Tests.{eq-eqb, ne_eqb, eqb-true, eqb-false}
use Rattle.std.proofs.Math.Dec.{eqb}
use Rattle.lists.specs.Lists.{all, find, up_from}
use Rattle.lists.specs.RunLaws.{all-get, find-run}
use Rattle.image.specs.Decode.{bit_of}
use Rattle.frame.specs.ListsLaws.{find-hit, find-pass}
use Rattle.image.specs.Rules.{map_at, bit_at}
use Rattle.chain.specs.Bitmap.{free_as, lowest_free, ones_from, Full, free_or}
use Rattle.chain.specs.FindLaws.{run-lower, run_none}

-- bit j of byte i
pub bit_of-byte : (l : List ℕ) (i j : ℕ) → j < 8 → bit_of l (8 * i + j) ≡ get_or l i 0 / 2 ^ j % 2
bit_of-byte l i j h =
    let q : (8 * i + j) / 8 ≡ i = omega arith in
    let r : (8 * i + j) % 8 ≡ j = omega arith in
    λ t. get_or l (q t) 0 / 2 ^ (r t) % 2

-- each bit of the byte 255 is 1
full-bit : (j : ℕ) → j < 8 → 255 / 2 ^ j % 2 ≡ 1
full-bit j h = eqb-true _ 1 (all-get (λ j. eqb (255 / 2 ^ j % 2) 1) 0 8 refl j (omega arith) h)

-- what stays the same past a bit that is 1 stays the same past any bits of a byte of ones
module _ (l : List ℕ) {A : Type 0} (f : ℕ → A) (turn : (n : ℕ) → n < 2048 → bit_of l n ≢ 0 → f n ≡ f (n + 1))
    (i : ℕ) (more : i < 256) (full : get_or l i 0 ≡ 255) where
  byte-passed : (j n : ℕ) → 8 * i ≤ n → n + j ≤ 8 * i + 8 → f n ≡ f (n + j)
  byte-passed zero n h g = let e : n ≡ n + 0 = omega arith in ap f e
  byte-passed (suc j) n h g =
      let q : n / 8 ≡ i = omega arith in
      let byte : get_or l (n / 8) 0 ≡ 255 = ap (λ (k : ℕ). get_or l k 0) q ∙ full in
      let one : bit_of l n ≡ 1 = ap (λ (x : ℕ). x / 2 ^ (n % 8) % 2) byte ∙ full-bit (n % 8) (omega arith) in
      let e : n + 1 + j ≡ n + suc j = omega arith in
      turn n (omega arith) (λ z. omega (arith, one, z)) ∙ byte-passed j (n + 1) (omega arith) (omega arith) ∙ ap f e

module _ (l : List ℕ) where
  abbrev is_free : ℕ → Bool
  is_free n = eqb (bit_of l n) 0

  -- the lowest bit from k on that is 0
  unfoldable pub free_from : ℕ → Option ℕ
  free_from k = free_as (find is_free (up_from k (2048 - k)))

  pub free-start : lowest_free l ≡ free_from 0
  unfolding lowest_free free_from
  free-start = refl

  module _ (k : ℕ) (more : k < 2048) where
    left : up_from k (2048 - k) ≡ k ∷ up_from (k + 1) (2048 - (k + 1))
    left =
        let e : 2048 - k ≡ suc (2048 - (k + 1)) = omega arith in
        ap (up_from k) e ∙ ap (λ (j : ℕ). k ∷ up_from j (2048 - (k + 1))) (sym (add-one k))

    pub free-here : bit_of l k ≡ 0 → free_from k ≡ Some k
    unfolding free_from
    free-here e =
        ap (λ (ns : List ℕ). free_as (find is_free ns)) left
        ∙ ap free_as (find-hit is_free k (up_from (k + 1) (2048 - (k + 1))) (eq-eqb (bit_of l k) 0 e))

    pub free-later : bit_of l k ≢ 0 → free_from k ≡ free_from (k + 1)
    unfolding free_from
    free-later e =
        ap (λ (ns : List ℕ). free_as (find is_free ns)) left
        ∙ ap free_as (find-pass is_free k (up_from (k + 1) (2048 - (k + 1))) (ne_eqb (bit_of l k) 0 e))

  pub free-byte : (i : ℕ) → i < 256 → get_or l i 0 ≡ 255 → free_from (8 * i) ≡ free_from (8 * i + 8)
  free-byte i more full = byte-passed l free_from free-later i more full 8 (8 * i) (omega arith) (omega arith)

  pub free-none : free_from 2048 ≡ None
  unfolding free_from
  free-none = refl

  -- ---- ones

  module _ (k : ℕ) (more : k < 2048) where
    ones-turn : ones_from l k ≡ eqb (bit_of l k) 1 && ones_from l (k + 1)
    unfolding ones_from
    ones-turn = ap (all (λ n. eqb (bit_of l n) 1)) (left k more)

    pub ones-broken : bit_of l k ≡ 0 → ones_from l k ≡ false
    ones-broken e = ones-turn ∙ ap (λ (x : ℕ). eqb x 1 && ones_from l (k + 1)) e

    pub ones-later : bit_of l k ≢ 0 → ones_from l k ≡ ones_from l (k + 1)
    ones-later e =
        let one : bit_of l k ≡ 1 = omega arith in
        ones-turn ∙ ap (λ (x : ℕ). eqb x 1 && ones_from l (k + 1)) one

  pub ones-byte : (k : ℕ) → k < 2048 → get_or l (k / 8) 0 ≡ 255 → ones_from l k ≡ ones_from l (k / 8 * 8 + 8)
  ones-byte k more full =
      let e : k + (8 - k % 8) ≡ k / 8 * 8 + 8 = omega arith in
      byte-passed l (ones_from l) ones-later (k / 8) (omega arith) full (8 - k % 8) k (omega arith) (omega arith)
      ∙ ap (ones_from l) e

  pub ones-end : ones_from l 2048 ≡ true
  unfolding ones_from
  ones-end = refl

  -- ---- bytes of ones to the end

  passed-full : {A : Type 0} (f : ℕ → A) → ((n : ℕ) → n < 2048 → bit_of l n ≢ 0 → f n ≡ f (n + 1))
      → (d at : ℕ) → at + d ≡ 256 → Full l at → f (8 * at) ≡ f 2048
  passed-full f turn zero at e full = let z : 8 * at ≡ 2048 = omega arith in ap f z
  passed-full f turn (suc d) at e full =
      let g : 8 * at + 8 ≡ 8 * (at + 1) = omega arith in
      byte-passed l f turn at (omega arith) (full at (omega arith) (omega arith)) 8 (8 * at) (omega arith) (omega arith)
      ∙ ap f g
      ∙ passed-full f turn d (at + 1) (omega arith) (λ i h k. full i (omega arith) k)

  pub ones-full : (at : ℕ) → at ≤ 256 → Full l at → ones_from l (8 * at) ≡ true
  ones-full at h full = passed-full (ones_from l) ones-later (256 - at) at (omega arith) full ∙ ones-end

  pub free-full : Full l 0 → lowest_free l ≡ None
  free-full full = free-start ∙ passed-full free_from free-later 256 0 refl full ∙ free-none

  -- ---- what is found

  -- the bit is 0, and no lower one is
  pub record LowestBit (n : ℕ) : Type 0 where
    pub free : bit_of l n ≡ 0
    pub inside : n < 2048
    pub lowest : (m : ℕ) → m < n → bit_of l m ≢ 0

  pub lowest_free-bit : (n : ℕ) → lowest_free l ≡ Some n → LowestBit n
  unfolding lowest_free
  lowest_free-bit n h = go (find is_free (up_from 0 2048)) refl h
    where
      go : (o : Maybe ℕ) → find is_free (up_from 0 2048) ≡ o → free_as o ≡ Some n → LowestBit n
      go none e q = let z : ◌≡◌ {A = ℕ} 0 1 = cc in absurd (omega arith)
      go (some y) e q =
          let same : y ≡ n = cc in
          let found : find is_free (up_from 0 2048) ≡ some n = e ∙ ap some same in
          let in-run = find-run is_free 0 2048 n found in
          record {
            free = eqb-true (bit_of l n) 0 in-run.passes;
            inside = in-run.upto;
            lowest = λ m lt. eqb-false (bit_of l m) 0 (run-lower is_free 0 2048 n found m (omega arith) lt);
          }

  pub lowest_free-none : lowest_free l ≡ None → (m : ℕ) → m < 2048 → bit_of l m ≢ 0
  unfolding lowest_free
  lowest_free-none h m lt = go (find is_free (up_from 0 2048)) refl h
    where
      go : (o : Maybe ℕ) → find is_free (up_from 0 2048) ≡ o → free_as o ≡ None → bit_of l m ≢ 0
      go none e q = eqb-false (bit_of l m) 0 (run_none is_free 0 2048 e m (omega arith) lt)
      go (some y) e q = let z : ◌≡◌ {A = ℕ} 0 1 = cc in absurd (omega arith)

-- ---- rule 6: what it looks for, and what first free is to be

pub lowest_free-rule : (s : List ℕ) → lowest_free (map_at s) ≡ free_as (find (λ n. eqb (bit_at s n) 0) (up_from 0 2048))
unfolding lowest_free
lowest_free-rule s = refl

pub free_or-rule : (s : List ℕ) (top : ℕ)
    → maybe.get_or (find (λ n. eqb (bit_at s n) 0) (up_from 0 2048)) top ≡ free_or top (lowest_free (map_at s))
free_or-rule s top = sym (go (find (λ n. eqb (bit_at s n) 0) (up_from 0 2048)) (lowest_free-rule s))
  where
    go : (o : Maybe ℕ) → lowest_free (map_at s) ≡ free_as o → free_or top (lowest_free (map_at s)) ≡ maybe.get_or o top
    go none e = ap (free_or top) e
    go (some n) e = ap (free_or top) e
