-- What a part of a slice makes of the whole, and a number's bytes as the library gives them.
use Rattle.std.specs.Prelude.{◌≡◌, refl, Bool, ◌&&◌, List, [], ◌∷◌, ◌++◌, ℕ, ◌+◌, ◌≤◌, length, take, drop, replicate}
use Rattle.std.proofs.Common.{sym, ap, ◌∙◌, append_assoc, arith, drop-drop, length-drop, length-take-le}
use Rattle.std.specs.Int.{to_le_bytes, w16, w32}
use Rattle.std.specs.List.{list_all}
use Rattle.std.proofs.lemmas.List.{length-replicate}
use Rattle.std.proofs.lemmas.List.Edits.{sets, sets-eq}
use borrow.Rule.Slice.PartMut.{put_mid}
use Rattle.lists.specs.Lists.{all}
use Rattle.endian.specs.Endian.{le16, le32}

-- a part of k bytes from place a on that now holds `vs`
pub put_mid-sets : (l vs : List ℕ) (a k : ℕ) → k ≡ length vs → a + length vs ≤ length l → put_mid a k l vs ≡ sets l a vs
put_mid-sets l vs a k e h =
    ap (λ (d : List ℕ). take a l ++ (vs ++ d)) (drop-drop k a l ∙ ap (λ (n : ℕ). drop (a + n) l) e)
    ∙ sym (append_assoc (take a l) vs (drop (a + length vs) l))
    ∙ sym (sets-eq vs l a h)

-- a part of k bytes from place a on that was filled with zeros
pub put_mid-zeros : (l ys : List ℕ) (a k : ℕ) → a + k ≤ length l → ys ≡ replicate (length (take k (drop a l))) 0
    → put_mid a k l ys ≡ sets l a (replicate k 0)
put_mid-zeros l ys a k h e =
    let zeros : ys ≡ replicate k 0 =
    e ∙ ap (λ (n : ℕ). replicate n 0) (length-take-le k (drop a l) (omega (arith, length-drop a l))) in
    let long : k ≡ length (replicate {A = ℕ} k 0) = sym (length-replicate k 0) in
    ap (put_mid a k l) zeros ∙ put_mid-sets l (replicate k 0) a k long (omega arith)

pub to_le_bytes-le16 : (v : ℕ) → to_le_bytes w16 v ≡ le16 v
unfolding le16
to_le_bytes-le16 v = refl

pub to_le_bytes-le32 : (v : ℕ) → to_le_bytes w32 v ≡ le32 v
unfolding le32
to_le_bytes-le32 v = refl

-- the library's test of every element
pub list_all-all : {A : Type 0} (t : A → Bool) (xs : List A) → list_all t xs ≡ all t xs
list_all-all t [] = refl
list_all-all t (x ∷ xs) = ap (λ b. t x && b) (list_all-all t xs)
