-- On a sound store: the searches may go along a bucket's walk, and the lowest 0 bit is the index's free bit.
use Rattle.std.specs.Prelude.{◌≡◌, Bool, not, List, ℕ, ◌≤◌, ◌<◌, ltb, take, Option, Some, None}
use Rattle.std.proofs.Math.Path.{refl, sym, ap}
use Rattle.std.proofs.Common.{◌∙◌, arith}
use Rattle.std.proofs.Math.Bool.{true, false}
use Rattle.std.proofs.Math.Option.{Option as Maybe, none, some, get_or}
use borrow.Author.Tests.{eqb-true, ltb-true}
use Rattle.lists.specs.Lists.{b2n, all, Each, up_from}
use Rattle.lists.specs.ListsLaws.{and_left, and_right}
use Rattle.lists.specs.RunLaws.{all-get}
use Rattle.lists.specs.Bytes.{part, all_zero}
use Rattle.lists.specs.Block.{blocks, block}
use Rattle.page.specs.SublistLaws.{each_map, each_all}
use Rattle.page.specs.Rule.{page_ok}
use Rattle.model.specs.Index.{top_bit}
use Rattle.model.specs.Pages.{free_bit, first_free}
use Rattle.model.proofs.LaidLaws.{free-bit}
use Rattle.image.specs.Decode.{meta_at, max_at, block_of, decode}
use Rattle.image.specs.Rules.{map_at, bit_at, top_at, free_at, bit_ok, rule6}
use Rattle.image.proofs.SoundFieldsLaws.{SoundBytes}
use Rattle.image.proofs.SoundChainsLaws.{PageRead, chain-read}
use Rattle.image.proofs.SoundBitsLaws.{free-read}
use Rattle.chain.specs.Walk.{walk, Sized, Walked}
use Rattle.chain.specs.Within.{PagesOk, Within}
use Rattle.chain.specs.WithinLaws.{walked-within}
use Rattle.chain.specs.Bitmap.{free_as, lowest_free, free_or}
use Rattle.chain.specs.BitmapLaws.{lowest_free-bit, free_or-rule}

module _ (s : List ℕ) (g : SoundBytes s) where
  pub sound-sized : Sized s
  sound-sized = record { whole = g.whole; few = g.small }

  -- ---- a bucket's walk

  module _ (b : ℕ) (made : b ≤ max_at s) where
    read : Each (PageRead s g) (walk s (block_of s b))
    unfolding walk
    read = let c = chain-read s g b made in (c.first, c.pages)

    pub sound-inside : Each (λ k. k < blocks s) (walk s (block_of s b))
    unfolding blocks
    sound-inside =
        each_map (PageRead s g) (λ k. k < blocks s) (λ k r. omega (arith, r.place.place)) (walk s (block_of s b)) read

    pub sound-pages : PagesOk s (walk s (block_of s b))
    sound-pages =
        each_all (λ k. page_ok (block s k)) (walk s (block_of s b))
        (each_map (PageRead s g) (λ k. page_ok (block s k) ≡ true) (λ k r. r.rule) (walk s (block_of s b)) read)

    pub sound-within : {bs : List ℕ} {n : ℕ} → Walked s (block_of s b) bs n → Within s (take n bs)
    sound-within held = walked-within held sound-sized sound-inside

    pub sound-walked : {bs : List ℕ} {n : ℕ} → Walked s (block_of s b) bs n → PagesOk s (take n bs)
    sound-walked held = rw held.blocks sound-pages

  -- ---- the lowest 0 bit

  -- a 0 bit is below spares[s]
  zero-made : (n : ℕ) → n < 2048 → bit_at s n ≡ 0 → n < top_at s
  unfolding rule6
  zero-made n h z =
      let bits = and_left (all (bit_ok s) (up_from 0 2048)) _ g.passes.six in
      let bit = eqb-true (bit_at s n) _ (all-get (bit_ok s) 0 2048 bits n (omega arith) h) in
      let free = zero-not (free_at s n) (sym bit ∙ z) in
      ltb-true n (top_at s) (and_left (ltb n (top_at s)) _ (and_right (ltb 0 n) _ free))
    where
      zero-not : (b : Bool) → b2n (not b) ≡ 0 → b ≡ true
      zero-not true e = refl
      zero-not false e = absurd (omega arith)

  -- first free by the bits is first free by the index
  first-same : free_or (top_at s) (lowest_free (map_at s)) ≡ first_free (decode s)
  unfolding rule6
  first-same =
      let rest = and_right (all (bit_ok s) (up_from 0 2048)) _ g.passes.six in
      let first = eqb-true (meta_at s).free _ (and_right (all_zero (part 256 492 (map_at s))) _ rest) in
      sym (free_or-rule s (top_at s)) ∙ sym first ∙ free-read s g

  as_read : (f : Option ℕ) (o : Maybe ℕ) → lowest_free (map_at s) ≡ f → free_bit (decode s) ≡ o
      → free_or (top_at s) f ≡ get_or o (top_bit (decode s))
  unfolding first_free
  as_read f o e q =
      ap (free_or (top_at s)) (sym e) ∙ first-same ∙ ap (λ (r : Maybe ℕ). get_or r (top_bit (decode s))) q

  pub sound-free : lowest_free (map_at s) ≡ free_as (free_bit (decode s))
  unfolding decode
  sound-free = go (lowest_free (map_at s)) (free_bit (decode s)) refl refl
    where
      go : (f : Option ℕ) (o : Maybe ℕ) → lowest_free (map_at s) ≡ f → free_bit (decode s) ≡ o → f ≡ free_as o
      go (Some n) (some m) e q = ap Some (as_read (Some n) (some m) e q)
      go (Some n) none e q =
          let h : n ≡ top_at s = as_read (Some n) none e q in
          let b = lowest_free-bit (map_at s) n e in
          absurd (omega (arith, zero-made n b.inside b.free))
      go None (some m) e q =
          let h : top_at s ≡ m = as_read None (some m) e q in
          absurd (omega (arith, (free-bit (decode s) m q).2))
      go None none e q = refl
