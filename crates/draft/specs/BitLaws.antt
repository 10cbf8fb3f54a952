-- A bit that was put is read back, and every other bit is as it was.
use Rattle.std.specs.Prelude.{◌≡◌, refl, ◌≢◌, Bool, true, false, ℕ, zero, suc, ◌+◌, ◌*◌, ◌-◌, ◌/◌, ◌%◌, ◌^◌, ◌<◌, min, max, eqb, get_or, take, replicate}
use Rattle.std.proofs.Math.Path.{sym, ap}
use Rattle.std.proofs.Common.{◌∙◌, arith, get_or-set_same, get_or-set_other, drop-set-lt, take_at}
use mathlib.Core.List.{List, [], ◌∷◌, ◌++◌}
use Rattle.std.proofs.Math.Nat.{min-eq_left, min-eq_right, max-eq_left, max-eq_right}
use Rattle.std.proofs.Math.Decide.{ℕ_discrete}
use Rattle.std.specs.Int.Bits.{bit_and, bit_or, and_step, or_step}
use Rattle.std.proofs.lemmas.Nat.{and_shr, or_shr, or_lt, and_le_l}
use Rattle.std.proofs.Math.ListN.{length, set, length-append, length-set, get_or-append}
use Rattle.std.proofs.Math.Seq.{set-append_left}
use Rattle.lists.specs.Lists.{b2n, all, up_from}
use Rattle.lists.specs.ListsLaws.{eqb_yes, eqb_no, eqb-eq}
use Rattle.lists.specs.RunLaws.{all-get}
use Rattle.lists.specs.Bytes.{Bytes, part, all_zero}
use Rattle.lists.specs.BytesLaws.{Bytes-append, Bytes-replicate}
use Rattle.image.specs.Layout.{map_front}
use Rattle.image.specs.Decode.{bit_of}
use Rattle.image.specs.BitmapLaws.{length-map_front, zeros-map_front, Bytes-map_front, bit_of-map_front, map_front-bit_of}
use Rattle.draft.specs.Bits.{with_bit, put_bit}

-- ---- the eight bits of a byte

-- what passes for all pairs of numbers below 8
table : (t : ℕ → ℕ → Bool) → all (λ i. all (t i) (up_from 0 8)) (up_from 0 8) ≡ true
    → (i j : ℕ) → i < 8 → j < 8 → t i j ≡ true
table t h i j hi hj =
    all-get (t i) 0 8 (all-get (λ k. all (t k) (up_from 0 8)) 0 8 h i (omega arith) hi) j (omega arith) hj

abbrev digit : ℕ → ℕ → ℕ
digit x m = x / 2 ^ m % 2

one-digit : (j m : ℕ) → j < 8 → m < 8 → digit (2 ^ j) m ≡ b2n (eqb m j)
one-digit j m hj hm = eqb-eq _ _ (table (λ i k. eqb (digit (2 ^ i) k) (b2n (eqb k i))) refl j m hj hm)

mask-digit : (j m : ℕ) → j < 8 → m < 8 → digit (255 - 2 ^ j) m ≡ 1 - b2n (eqb m j)
mask-digit j m hj hm = eqb-eq _ _ (table (λ i k. eqb (digit (255 - 2 ^ i) k) (1 - b2n (eqb k i))) refl j m hj hm)

pub one_byte : (j : ℕ) → j < 8 → 1 * 2 ^ j % 256 ≡ 2 ^ j
one_byte j h = eqb-eq _ _ (table (λ i k. eqb (1 * 2 ^ i % 256) (2 ^ i)) refl j j h h)

low : (q r : ℕ) → r < 2 → (q * 2 + r) % 2 ≡ r
low q r h = omega arith

or-digit : (a b m : ℕ) → digit (bit_or a b) m ≡ max (digit a m) (digit b m)
or-digit a b m =
    ap (λ (x : ℕ). x % 2) (or_shr a b m ∙ or_step (a / 2 ^ m) (b / 2 ^ m))
    ∙ low (bit_or (a / 2 ^ m / 2) (b / 2 ^ m / 2)) (max (digit a m) (digit b m)) (omega arith)

and-digit : (a b m : ℕ) → digit (bit_and a b) m ≡ min (digit a m) (digit b m)
and-digit a b m =
    ap (λ (x : ℕ). x % 2) (and_shr a b m ∙ and_step (a / 2 ^ m) (b / 2 ^ m))
    ∙ low (bit_and (a / 2 ^ m / 2) (b / 2 ^ m / 2)) (min (digit a m) (digit b m)) (omega arith)

digit-same : (x j : ℕ) (v : Bool) → j < 8 → digit (with_bit x j v) j ≡ b2n v
digit-same x j true h =
    or-digit x (2 ^ j) j
    ∙ ap (max (digit x j)) (one-digit j j h h ∙ ap b2n (eqb_yes j j refl))
    ∙ max-eq_right (omega arith)
digit-same x j false h =
    and-digit x (255 - 2 ^ j) j
    ∙ ap (min (digit x j)) (mask-digit j j h h ∙ ap (λ (e : Bool). 1 - b2n e) (eqb_yes j j refl))
    ∙ min-eq_right (omega arith)

digit-other : (x j m : ℕ) (v : Bool) → j < 8 → m < 8 → m ≢ j → digit (with_bit x j v) m ≡ digit x m
digit-other x j m true h l ne =
    or-digit x (2 ^ j) m
    ∙ ap (max (digit x m)) (one-digit j m h l ∙ ap b2n (eqb_no m j ne))
    ∙ max-eq_left (omega arith)
digit-other x j m false h l ne =
    and-digit x (255 - 2 ^ j) m
    ∙ ap (min (digit x m)) (mask-digit j m h l ∙ ap (λ (e : Bool). 1 - b2n e) (eqb_no m j ne))
    ∙ min-eq_left (omega arith)

with_bit-lt : (x j : ℕ) (v : Bool) → x < 256 → j < 8 → with_bit x j v < 256
with_bit-lt x j true h l = or_lt 8 x (2 ^ j) h (omega (arith, one_byte j l))
with_bit-lt x j false h l = omega (arith, and_le_l x (255 - 2 ^ j))

-- ---- the bits of a block

module _ (b : List ℕ) (n : ℕ) (v : Bool) (inside : n / 8 < length b) where
  abbrev new : ℕ
  new = with_bit (get_or b (n / 8) 0) (n % 8) v

  pub bit_of-same : bit_of (put_bit b n v) n ≡ b2n v
  unfolding put_bit
  bit_of-same =
      ap (λ (y : ℕ). digit y (n % 8)) (get_or-set_same b (n / 8) new 0 inside)
      ∙ digit-same (get_or b (n / 8) 0) (n % 8) v (omega arith)

  pub bit_of-other : (m : ℕ) → m ≢ n → bit_of (put_bit b n v) m ≡ bit_of b m
  unfolding put_bit
  bit_of-other m ne = go (ℕ_discrete (m / 8) (n / 8))
    where
      go : Dec (m / 8 ≡ n / 8) → digit (get_or (set b (n / 8) new) (m / 8) 0) (m % 8) ≡ bit_of b m
      go (yes e) =
          let apart : m % 8 ≢ n % 8 = λ r. ne (omega arith) in
          ap (λ (i : ℕ). digit (get_or (set b (n / 8) new) i 0) (m % 8)) e
          ∙ ap (λ (y : ℕ). digit y (m % 8)) (get_or-set_same b (n / 8) new 0 inside)
          ∙ digit-other (get_or b (n / 8) 0) (n % 8) (m % 8) v (omega arith) (omega arith) apart
          ∙ ap (λ (i : ℕ). digit (get_or b i 0) (m % 8)) (sym e)
      go (no e) = ap (λ (y : ℕ). digit y (m % 8)) (get_or-set_other b (n / 8) (m / 8) new 0 e)

  pub length-put_bit : length (put_bit b n v) ≡ length b
  unfolding put_bit
  length-put_bit = length-set b (n / 8) new

  -- what follows the block's front part stays
  pub put_bit-front : (tail : List ℕ) → put_bit (b ++ tail) n v ≡ put_bit b n v ++ tail
  unfolding put_bit
  put_bit-front tail =
      ap (λ (y : ℕ). set (b ++ tail) (n / 8) (with_bit y (n % 8) v)) (get_or-append b tail 0 (n / 8) inside)
      ∙ set-append_left b tail (n / 8) new inside

-- ---- the bitmap as it is laid out

Bytes-set : (l : List ℕ) (i x : ℕ) → Bytes l → x < 256 → Bytes (set l i x)
Bytes-set [] i x h lt k = h k
Bytes-set (y ∷ l) zero x h lt zero = lt
Bytes-set (y ∷ l) zero x h lt (suc k) = h (suc k)
Bytes-set (y ∷ l) (suc i) x h lt zero = h 0
Bytes-set (y ∷ l) (suc i) x h lt (suc k) = Bytes-set l i x (λ j. h (suc j)) lt k

-- bit n is put, and every other is as before
module _ (bit bit' : ℕ → ℕ) (two : (m : ℕ) → bit m < 2) (n : ℕ) (v : Bool) (small : n < 2048) (here : bit' n ≡ b2n v)
    (else : (m : ℕ) → m < 2048 → m ≢ n → bit' m ≡ bit m) where
  abbrev zeros : List ℕ
  zeros = replicate 20 0

  long : List ℕ
  long = map_front bit ++ zeros

  length-long : length long ≡ 512
  unfolding long
  length-long = length-append (map_front bit) zeros ∙ omega (arith, length-map_front bit)

  bits : (m : ℕ) → m < 2048 → bit_of (put_bit long n v) m ≡ bit' m
  unfolding long
  bits m h = go (ℕ_discrete m n)
    where
      go : Dec (m ≡ n) → bit_of (put_bit long n v) m ≡ bit' m
      go (yes e) =
          ap (bit_of (put_bit long n v)) e
          ∙ bit_of-same long n v (omega (arith, length-long))
          ∙ sym here
          ∙ ap bit' (sym e)
      go (no ne) =
          bit_of-other long n v (omega (arith, length-long)) m ne
          ∙ bit_of-map_front bit two zeros m h
          ∙ sym (else m h ne)

  clear : all_zero (part 256 492 (put_bit long n v)) ≡ true
  unfolding long put_bit part
  clear =
      ap (λ (l : List ℕ). all_zero (take 236 l))
      (drop-set-lt 256 long (n / 8) (with_bit (get_or long (n / 8) 0) (n % 8) v) (omega arith))
      ∙ zeros-map_front bit zeros

  byte : Bytes (put_bit long n v)
  unfolding long put_bit
  byte =
      let h : Bytes long = Bytes-append (map_front bit) zeros (Bytes-map_front bit two) (Bytes-replicate 20) in
      Bytes-set long (n / 8) (with_bit (get_or long (n / 8) 0) (n % 8) v) h
      (with_bit-lt (get_or long (n / 8) 0) (n % 8) v (h (n / 8)) (omega arith))

  pub put_bit-map_front : (tail : List ℕ) → put_bit (map_front bit ++ tail) n v ≡ map_front bit' ++ tail
  unfolding long
  put_bit-map_front tail =
      let in' : n / 8 < length (map_front bit) = omega (arith, length-map_front bit) in
      let l : length (put_bit (map_front bit) n v) ≡ 492 = length-put_bit (map_front bit) n v in' ∙ length-map_front bit in
      put_bit-front (map_front bit) n v in' tail
      ∙ ap (λ (x : List ℕ). x ++ tail)
      (sym (take_at (put_bit (map_front bit) n v) zeros 492 l)
      ∙ ap (take 492) (sym (put_bit-front (map_front bit) n v in' zeros))
      ∙ map_front-bit_of (put_bit long n v) bit' byte
      (length-put_bit long n v (omega (arith, length-long)) ∙ length-long) bits clear)
