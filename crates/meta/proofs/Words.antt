-- Words, a turn at a time.
use mathlib.Core.Path.{◌≡◌, sym, ap, ap₂, ◌∙◌}
use mathlib.Core.List.{List, [], ◌∷◌, ◌++◌}
use Prim.Native.Nat.{ℕ, zero, suc, ◌+◌, ◌*◌, ◌≤◌, ◌<◌}
use native.Mathlib.Numerals.{add-one}
use native.Mathlib.Omega.{arith}
use lib.ListN.{length, get_or, take, drop, set, drop_of_length-le}
use lib.Seq.{sets, take-suc-set, drop-cons}
use Rattle.lists.specs.Lists.{bind}
use Rattle.lists.specs.BytesLaws.{sets-append}
use Rattle.endian.specs.Endian.{le32, u32_at}
use Rattle.image.specs.Decode.{words_at}

-- ---- words that are read

words_more : (l : List ℕ) (i n : ℕ) → words_at l i (suc n) ≡ words_at l i n ++ (u32_at l (i + 4 * n) ∷ [])
unfolding words_at
words_more l i zero = let e : i ≡ i + 4 * 0 = omega arith in ap (λ (k : ℕ). u32_at l k ∷ []) e
words_more l i (suc n) =
    let e : i + 4 + 4 * n ≡ i + 4 * suc n = omega arith in
    ap (λ (ws : List ℕ). u32_at l i ∷ ws) (words_more l (i + 4) n)
    ∙ ap (λ (k : ℕ). u32_at l i ∷ (words_at l (i + 4) n ++ (u32_at l k ∷ []))) e

pub read-turn : (l ws : List ℕ) (at i w : ℕ) → i < length ws → w ≡ u32_at l (at + 4 * i) → take i ws ≡ words_at l at i
    → take (i + 1) (set ws i w) ≡ words_at l at (i + 1)
read-turn l ws at i w h e p =
    rw add-one
    (take-suc-set ws i w h ∙ ap₂ (λ (us : List ℕ) (v : ℕ). us ++ (v ∷ [])) p e ∙ sym (words_more l at i))

-- ---- words that are written

pub words-turn : (l ws : List ℕ) (at i : ℕ) → i < length ws
    → sets l (at + 4 * i) (bind (drop i ws) le32)
    ≡ sets (sets l (at + 4 * i) (le32 (get_or ws i 0))) (at + 4 * (i + 1)) (bind (drop (i + 1) ws) le32)
unfolding le32
words-turn l ws at i h =
    let e : at + 4 * i + 4 ≡ at + 4 * (i + 1) = omega arith in
    let w : List ℕ = le32 (get_or ws i 0) in
    ap (λ (us : List ℕ). sets l (at + 4 * i) (bind us le32)) (drop-cons ws i 0 h)
    ∙ sym (sets-append w (bind (drop (suc i) ws) le32) l (at + 4 * i))
    ∙ ap₂ (λ (k j : ℕ). sets (sets l (at + 4 * i) w) k (bind (drop j ws) le32)) e (sym (add-one i))

pub words-end : (l ws : List ℕ) (k i : ℕ) → length ws ≤ i → sets l k (bind (drop i ws) le32) ≡ l
words-end l ws k i h = ap (λ (us : List ℕ). sets l k (bind us le32)) (drop_of_length-le ws h)
