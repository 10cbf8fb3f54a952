-- Bytes 0..491 of a meta block as words and zeros.
use mathlib.Core.Path.{◌≡◌, sym, ap, ap₂, ◌∙◌}
use mathlib.Core.List.{List, [], ◌∷◌, ◌++◌}
use Prim.Native.Nat.{ℕ, ◌+◌, ◌/◌, ◌%◌, ◌^◌, ◌<◌}
use native.Mathlib.Omega.{arith}
use lib.ListN.{length, drop, replicate, length-append, length-replicate}
use lib.Seq.{sets, sets-eq}
use Rattle.lists.specs.Lists.{bind}
use Rattle.lists.specs.BytesLaws.{sets-append}
use Rattle.endian.specs.Endian.{le16, le32}
use Rattle.endian.proofs.EndianLaws.{le32-split}
use Rattle.image.specs.declared.Meta.{Meta}
use Rattle.image.specs.Layout.{meta_front}
use Rattle.image.proofs.MetaLaws.{length-meta_front}

le32-half : (v : ℕ) → v < 2 ^ 16 → le32 v ≡ le16 v ++ le16 0
le32-half v h =
    let low : v % 65536 ≡ v = omega arith in
    let high : v / 65536 ≡ 0 = omega arith in
    le32-split v ∙ ap₂ (λ (a b : ℕ). le16 a ++ le16 b) low high

-- the words before the spares
abbrev pub heads : Meta → List ℕ
heads m =
    0x06440640 ∷ 512 ∷ m.count ∷ m.fill ∷ m.max ∷ m.high ∷ m.low ∷ m.point ∷ m.free ∷ m.size ∷ []

module _ (m : Meta) (narrow : m.fill < 2 ^ 16) where
  tail : List ℕ
  tail = bind m.spares le32 ++ (le32 m.number ++ replicate 384 0)

  front-words : meta_front m ≡ bind (heads m) le32 ++ tail
  unfolding meta_front tail le16 le32
  front-words =
      ap (λ (x : List ℕ).
      le32 0x06440640 ++ (le32 512 ++ (le32 m.count ++ (x ++ (le32 m.max ++ (le32 m.high ++ (le32 m.low
      ++ (le32 m.point ++ (le32 m.free ++ (le32 m.size ++ tail)))))))))) (sym (le32-half m.fill narrow))

  pub front-sets : (l : List ℕ) → length l ≡ 512 → length m.spares ≡ 16
      → sets (sets (sets (sets l 0 (bind (heads m) le32)) 40 (bind m.spares le32)) 104 (le32 m.number))
      108 (replicate 384 0) ≡ meta_front m ++ drop 492 l
  unfolding tail le32
  front-sets l full sixteen =
      let hs : List ℕ = bind (heads m) le32 in
      let ws : List ℕ = bind m.spares le32 in
      let zs : List ℕ = le32 m.number ++ replicate 384 0 in
      let whole : length (meta_front m) ≡ 492 = length-meta_front m sixteen in
      let sum = ap length front-words ∙ length-append hs (ws ++ zs) in
      let mid : length ws ≡ 64 = omega (arith, sum, length-append ws zs, length-replicate {A = ℕ} 384 0) in
      let at : 104 ≡ 40 + length ws = omega arith in
      let end : 0 + length (hs ++ (ws ++ zs)) ≡ 492 = omega (arith, ap length front-words) in
      sets-append (le32 m.number) (replicate 384 0) (sets (sets l 0 hs) 40 ws) 104
      ∙ ap (λ (k : ℕ). sets (sets (sets l 0 hs) 40 ws) k zs) at
      ∙ sets-append ws zs (sets l 0 hs) 40
      ∙ sets-append hs (ws ++ zs) l 0
      ∙ sets-eq (hs ++ (ws ++ zs)) l 0 (omega arith)
      ∙ ap₂ (λ (x : List ℕ) (k : ℕ). x ++ drop k l) (sym front-words) end
