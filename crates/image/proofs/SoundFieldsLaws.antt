-- The fields of a sound store's meta block: rules 1 and 2.
use Rattle.std.specs.Prelude.{◌≡◌, eqb, drop}
use Rattle.std.proofs.Math.Path.{sym, ap}
use Rattle.std.proofs.Common.{◌∙◌, arith, take-append-drop, length-take-le}
use Rattle.std.proofs.Math.Bool.{Bool, true}
use mathlib.Core.List.{List, ◌++◌}
use Prim.Native.Nat.{ℕ, zero, suc, ◌-◌, ◌*◌, ◌%◌, ◌≤◌, ◌<◌}
use Rattle.std.proofs.Math.Dec.{leb}
use Rattle.std.proofs.Math.ListN.{length, get_or, take, replicate, length-drop}
use borrow.Author.Tests.{leb-true, eqb-true}
use Rattle.lists.specs.Lists.{all, up_from}
use Rattle.lists.specs.ListsLaws.{and_left, and_right}
use Rattle.lists.specs.RunLaws.{all-get}
use Rattle.lists.specs.Bytes.{Bytes, all_zero}
use Rattle.lists.specs.BytesLaws.{all_zero-replicate}
use Rattle.lists.specs.Block.{blocks, block}
use Rattle.address.specs.Limits.{max_blocks}
use Rattle.address.specs.Address.{high_mask, low_mask, point, made}
use Rattle.address.specs.Role.{SparesOk}
use Rattle.address.specs.LimitLaws.{point-under}
use Rattle.address.specs.BlockLaws.{point-pos}
use Rattle.address.specs.AgreeLaws.{made-same, spares-front}
use Rattle.model.specs.Calls.{size_ok, fill_ok}
use Rattle.image.specs.declared.Meta.{Meta}
use Rattle.image.specs.Layout.{padded}
use Rattle.image.specs.Decode.{read_meta, meta_at, max_at, point_at, spares_at}
use Rattle.image.specs.Rules.{spares_ok, meta_ok, rule2, length_ok}
use Rattle.image.proofs.MetaLaws.{length-words_at}
use Rattle.image.specs.VerdictLaws.{Passes}

-- bytes of legal length that pass every check and rule
pub record SoundBytes (s : List ℕ) : Type 0 where
  pub bytes : Bytes s
  pub whole : length s ≡ 512 * blocks s
  pub small : blocks s ≤ max_blocks
  pub passes : Passes s

pub sound-bytes : (s : List ℕ) → Bytes s → length_ok s ≡ true → Passes s → SoundBytes s
unfolding length_ok blocks
sound-bytes s b h p =
    let m : length s % 512 ≡ 0 = eqb-true _ _ (and_left (eqb (length s % 512) 0) _ h) in
    let z : size_ok (blocks s) ≡ true = and_right (eqb (length s % 512) 0) _ h in
    record {
      bytes = b;
      whole = omega arith;
      small = leb-true (blocks s) max_blocks (and_right (leb 4 (blocks s)) _ z);
      passes = p;
    }

-- ---- spares

-- the 16 spares that pass rule 2 at overflow point s
module _ (sp : List ℕ) (s n : ℕ) (sixteen : length sp ≡ 16) (ok : spares_ok s sp ≡ true) (room : made sp s ≤ n)
    (small : n ≤ max_blocks) (pos : 1 ≤ s) where
  low : s ≤ 15
  low = omega (arith, point-under sp s n room small)

  length_taken : length (take (suc s) sp) ≡ suc s
  length_taken = length-take-le (suc s) sp (omega (arith, low))

  spares-take : SparesOk (take (suc s) sp) s n
  unfolding spares_ok
  spares-take =
      let h₁ = and_right (eqb (get_or sp 0 0) 0) _ ok in
      let h₂ = and_right (leb 1 (get_or sp 1 0)) _ h₁ in
      let zero : get_or sp 0 0 ≡ 0 = eqb-true _ _ (and_left (eqb (get_or sp 0 0) 0) _ ok) in
      let rise : ℕ → Bool = λ i. leb (get_or sp i 0) (get_or sp (suc i) 0) in
      let all-rise : all rise (up_from 1 (s - 1)) ≡ true = and_left (all rise (up_from 1 (s - 1))) _ h₂ in
      record {
        points = length_taken;
        zeroth = here 0 (omega arith) ∙ zero;
        rising = λ i h. omega (arith, here i (omega arith), here (suc i) (omega arith), step zero all-rise i h);
        bitmap = omega (arith, here 1 pos, leb-true 1 (get_or sp 1 0) (and_left (leb 1 (get_or sp 1 0)) _ h₁));
        room = omega (arith, made-same (take (suc s) sp) sp s here, room);
      }
    where
      here : (i : ℕ) → i ≤ s → get_or (take (suc s) sp) i 0 ≡ get_or sp i 0
      here = spares-front sp s

      step : get_or sp 0 0 ≡ 0 → all (λ i. leb (get_or sp i 0) (get_or sp (suc i) 0)) (up_from 1 (s - 1)) ≡ true
          → (i : ℕ) → i < s → get_or sp i 0 ≤ get_or sp (suc i) 0
      step z a zero h = omega arith
      step z a (suc i) h =
          leb-true _ _
          (all-get (λ i. leb (get_or sp i 0) (get_or sp (suc i) 0)) 1 (s - 1) a (suc i) (omega arith) (omega arith))

  spares-padded : sp ≡ padded (take (suc s) sp)
  unfolding spares_ok padded
  spares-padded =
      let h₁ = and_right (eqb (get_or sp 0 0) 0) _ ok in
      let h₂ = and_right (leb 1 (get_or sp 1 0)) _ h₁ in
      let z : all_zero (drop (suc s) sp) ≡ true =
      and_right (all (λ i. leb (get_or sp i 0) (get_or sp (suc i) 0)) (up_from 1 (s - 1))) _ h₂ in
      let n : length (drop (suc s) sp) ≡ 16 - length (take (suc s) sp) =
      omega (arith, length-drop (suc s) sp, length_taken) in
      sym (take-append-drop (suc s) sp)
      ∙ ap (λ (r : List ℕ). take (suc s) sp ++ r)
      (all_zero-replicate (drop (suc s) sp) z ∙ ap (λ (k : ℕ). replicate k 0) n)

-- ---- the fields

pub record Fields (s : List ℕ) : Type 0 where
  pub fill_low : 1 ≤ (meta_at s).fill
  pub fill_high : (meta_at s).fill ≤ 40
  pub two : 1 ≤ max_at s
  pub high : (meta_at s).high ≡ high_mask (max_at s)
  pub low : (meta_at s).low ≡ low_mask (max_at s)
  pub point : (meta_at s).point ≡ point_at s
  pub spares : SparesOk (spares_at s) (point_at s) (blocks s)
  pub padding : (meta_at s).spares ≡ padded (spares_at s)

pub fields : (s : List ℕ) → SoundBytes s → Fields s
unfolding rule2 meta_ok read_meta
fields s g =
    let m : Meta = meta_at s in
    let r₀ = g.passes.two in
    let r₁ = and_right (fill_ok m.fill) _ r₀ in
    let r₂ = and_right (leb 1 m.max) _ r₁ in
    let r₃ = and_right (eqb m.high (high_mask m.max)) _ r₂ in
    let r₄ = and_right (eqb m.low (low_mask m.max)) _ r₃ in
    let r₅ = and_right (eqb m.point (point m.max)) _ r₄ in
    let f : fill_ok m.fill ≡ true = and_left (fill_ok m.fill) _ r₀ in
    let ok : spares_ok (point_at s) m.spares ≡ true = and_left (spares_ok (point_at s) m.spares) _ r₅ in
    let room : made m.spares (point_at s) ≤ blocks s =
    leb-true _ _ (and_right (spares_ok (point_at s) m.spares) _ r₅) in
    let n = length-words_at (block s 0) 40 16 in
    record {
      fill_low = leb-true 1 m.fill (and_left (leb 1 m.fill) _ f);
      fill_high = leb-true m.fill 40 (and_right (leb 1 m.fill) _ f);
      two = leb-true 1 m.max (and_left (leb 1 m.max) _ r₁);
      high = eqb-true _ _ (and_left (eqb m.high (high_mask m.max)) _ r₂);
      low = eqb-true _ _ (and_left (eqb m.low (low_mask m.max)) _ r₃);
      point = eqb-true _ _ (and_left (eqb m.point (point m.max)) _ r₄);
      spares = spares-take m.spares (point_at s) (blocks s) n ok room g.small (point-pos (max_at s));
      padding = spares-padded m.spares (point_at s) (blocks s) n ok room g.small (point-pos (max_at s));
    }
