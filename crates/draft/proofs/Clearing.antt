-- A block made unused, and a page made anew.
use mathlib.Core.Path.{◌≡◌, sym, ap, ◌∙◌}
use mathlib.Core.List.{List, [], ◌++◌, append_assoc}
use Prim.Native.Nat.{ℕ, ◌+◌, ◌≤◌}
use native.Mathlib.Omega.{arith}
use lib.ListN.{length, take, drop, replicate, length-append, length-drop, length-replicate}
use lib.Seq.{sets, sets-eq, take_at, drop-drop, drop-append-add, length-take-le}
use Rattle.lists.specs.ZeroLaws.{zeros-front}
use Rattle.endian.specs.Endian.{le16}
use Rattle.page.specs.Entries.{encode_page}
use Rattle.page.specs.PageLaws.{length-encode_page}

-- a block whose bytes before the check are zero
pub clear-bytes : (l : List ℕ) → length l ≡ 512 → sets l 0 (replicate 508 0) ≡ replicate 508 0 ++ drop 508 l
clear-bytes l h = zeros-front l 508 (omega arith)

-- sixteen bytes after 492 zeros
pub empty-page : (l t : List ℕ) → length l ≡ 512 → length t ≡ 16
    → sets (sets l 0 (replicate 492 0)) 492 t ≡ encode_page [] (t ++ drop 508 l)
unfolding encode_page le16
empty-page l t h e =
    let z : List ℕ = replicate 492 0 in
    let lz : length z ≡ 492 = length-replicate {A = ℕ} 492 0 in
    let n : 492 + length t ≡ length z + 16 = omega arith in
    ap (λ (x : List ℕ). sets x 492 t) (zeros-front l 492 (omega arith))
    ∙ sets-eq t (z ++ drop 492 l) 492 (omega (arith, length-append z (drop 492 l), length-drop 492 l))
    ∙ ap (λ (x : List ℕ). x ++ t ++ drop (492 + length t) (z ++ drop 492 l)) (take_at z (drop 492 l) 492 lz)
    ∙ ap (λ (m : ℕ). z ++ t ++ drop m (z ++ drop 492 l)) n
    ∙ ap (λ (x : List ℕ). z ++ t ++ x) (drop-append-add z (drop 492 l) 16 ∙ drop-drop 16 492 l)
    ∙ append_assoc z t (drop 508 l)

pub length-empty : (b t : List ℕ) → length b ≡ 512 → length t ≡ 16 → length (encode_page [] (t ++ drop 508 b)) ≡ 512
length-empty b t h e =
    length-encode_page [] (t ++ drop 508 b) (omega arith)
    ∙ omega (arith, length-append t (drop 508 b), length-drop 508 b)

-- the first n bytes are filled with zeros
pub filled-front : (l z : List ℕ) (n : ℕ) → n ≤ length l → z ≡ replicate (length (take n l)) 0
    → z ++ drop n l ≡ replicate n 0 ++ drop n l
filled-front l z n h e =
    ap (λ (x : List ℕ). x ++ drop n l) (e ∙ ap (λ (k : ℕ). replicate k 0) (length-take-le n l h))
