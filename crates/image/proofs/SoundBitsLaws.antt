-- The overflow bits of a sound store: each stands in one chain exactly if its block is an overflow page (rule 4),
-- and the bitmap and first free are theirs (rule 6).
use Rattle.std.specs.Prelude.{◌≡◌, refl, not, List, [], ◌∷◌, map, take}
use Rattle.std.proofs.Math.Path.{sym, ap}
use Rattle.std.proofs.Common.{◌∙◌}
use Rattle.std.proofs.Math.Bool.{Bool}
use Prim.Native.Nat.{ℕ, zero, suc, ◌+◌, ◌≤◌, ◌<◌}
use Rattle.std.proofs.Math.Decide.{ℕ_discrete, dec_le}
use native.Mathlib.Omega.{arith}
use Rattle.std.proofs.Math.Dec.{eqb}
use borrow.Author.Tests.{eqb-true, eq-eqb, ne_eqb}
use Rattle.lists.specs.Lists.{b2n, all, tally, bind, up_from}
use Rattle.lists.specs.ListsLaws.{and_left, and_right, tally-append}
use Rattle.lists.specs.RunLaws.{all-get}
use Rattle.lists.specs.Bytes.{part, all_zero}
use Rattle.lists.specs.Block.{blocks, block}
use Rattle.address.specs.Address.{made, bit_block}
use Rattle.address.specs.Role.{Role}
use Rattle.address.specs.BlockLaws.{point-pos, bit-apart}
use Rattle.address.specs.SparesLaws.{top_pos}
use Rattle.model.specs.Index.{Page, top_bit}
use Rattle.model.specs.Pages.{bits_of, first_free, is_free}
use Rattle.model.specs.WellFormed.{uses}
use Rattle.model.specs.TallyLaws.{b2n-le}
use Rattle.image.specs.Layout.{map_bit, map_front}
use Rattle.image.specs.Decode.{bit_from, meta_at, max_at, point_at, spares_at, role_at, block_of, trail, read_page}
use Rattle.image.specs.Decode.{read_chain, decode}
use Rattle.image.specs.Rules.{buckets, is_overflow, linked, rule4, map_at, bit_at, top_at, free_at, bit_ok, rule6}
use Rattle.image.specs.BitmapLaws.{map_front-bit_of}
use Rattle.image.specs.FreeLaws.{free-same, first-zero}
use Rattle.image.proofs.SoundFieldsLaws.{SoundBytes, fields}
use Rattle.image.proofs.SoundBlocksLaws.{block-ok, bit-inside, Overflow}
use Rattle.image.proofs.SoundChainsLaws.{Links, chain-read}

module _ (s : List ℕ) (g : SoundBytes s) where
  abbrev sp : List ℕ
  sp = spares_at s

  abbrev t : ℕ
  t = point_at s

  abbrev bit_on : ℕ → List ℕ → ℕ
  bit_on n js = tally (eqb n) (map (λ (p : Page). p.bit) (map (read_page s) js))

  -- ---- the bits of chains are those of their blocks

  same_test : (m k : ℕ) → m < top_at s → k < top_at s → eqb m k ≡ eqb (bit_block sp t m) (bit_block sp t k)
  same_test m k h l = go (ℕ_discrete m k)
    where
      go : Dec (m ≡ k) → eqb m k ≡ eqb (bit_block sp t m) (bit_block sp t k)
      go (yes e) = eq-eqb m k e ∙ sym (eq-eqb _ _ (ap (bit_block sp t) e))
      go (no e) =
          ne_eqb m k e
          ∙ sym (ne_eqb _ _ (bit-apart sp t (blocks s) (fields s g).spares (point-pos (max_at s)) m k h l e))

  tally-bits : (n : ℕ) → n < top_at s → (b k : ℕ) (js : List ℕ) → Links s g b k js
      → bit_on n js ≡ tally (eqb (bit_block sp t n)) js
  tally-bits n h b k [] l = refl
  tally-bits n h b k (j ∷ js) l =
      let o = l.0.over in
      let e : eqb n (bit_from (role_at s j)) ≡ eqb (bit_block sp t n) j =
      ap (λ (r : Role). eqb n (bit_from r)) o.role
      ∙ same_test n (suc o.bit) h o.made
      ∙ ap (eqb (bit_block sp t n)) o.at in
      omega (arith, ap b2n e, tally-bits n h b j js l.1)

  tally-all : (n : ℕ) → n < top_at s → (i m : ℕ) → i + m ≤ suc (max_at s)
      → tally (eqb n) (bind (map (read_chain s) (up_from i m)) bits_of)
      ≡ tally (eqb (bit_block sp t n)) (bind (up_from i m) (trail s))
  tally-all n h i zero l = refl
  tally-all n h i (suc m) l =
      simp tally-append
      (omega (
        arith,
        tally-bits n h i (block_of s i) (trail s i) (chain-read s g i (omega arith)).links,
        tally-all n h (suc i) m (omega arith),
      ))

  abbrev Made : ℕ → Type 0
  Made n = (1 ≤ n) × (n < top_at s)

  made_bits : (n b k : ℕ) (js : List ℕ) → Links s g b k js → 1 ≤ bit_on n js → Made n
  made_bits n b k [] l h = absurd (omega arith)
  made_bits n b k (j ∷ js) l h = go (ℕ_discrete n (suc o.bit)) (made_bits n b j js l.1)
    where
      o : Overflow s g j
      o = l.0.over

      e : eqb n (bit_from (role_at s j)) ≡ eqb n (suc o.bit)
      e = ap (λ (r : Role). eqb n (bit_from r)) o.role

      go : Dec (n ≡ suc o.bit) → (1 ≤ bit_on n js → Made n) → Made n
      go (yes q) ih = (omega arith, omega (arith, o.made))
      go (no q) ih = ih (omega (arith, ap b2n (e ∙ ne_eqb n (suc o.bit) q)))

  made_all : (n i m : ℕ) → i + m ≤ suc (max_at s) → 1 ≤ tally (eqb n) (bind (map (read_chain s) (up_from i m)) bits_of)
      → Made n
  made_all n i zero l h = absurd (omega arith)
  made_all n i (suc m) l h = go (dec_le 1 (tally (eqb n) (bits_of (read_chain s i)))) (made_all n (suc i) m (omega arith))
    where
      rest : ℕ
      rest = tally (eqb n) (bind (map (read_chain s) (up_from (suc i) m)) bits_of)

      parts : tally (eqb n) (bits_of (read_chain s i)) + rest
          ≡ tally (eqb n) (bind (map (read_chain s) (up_from i (suc m))) bits_of)
      parts = sym (tally-append (eqb n) (bits_of (read_chain s i)) _)

      go : Dec (1 ≤ tally (eqb n) (bits_of (read_chain s i))) → (1 ≤ rest → Made n) → Made n
      go (yes q) ih = made_bits n i (block_of s i) (trail s i) (chain-read s g i (omega arith)).links q
      go (no q) ih = ih (omega (arith, parts))

  -- ---- each overflow page stands in one chain

  counted : (k : ℕ) → k < blocks s → tally (eqb k) (bind (buckets s) (trail s)) ≡ b2n (is_overflow s k)
  unfolding rule4
  counted k h =
      let f : ℕ → Bool = λ k. eqb (tally (eqb k) (bind (buckets s) (trail s))) (b2n (is_overflow s k)) in
      let r = and_right (all (λ b. linked s b (block_of s b) (trail s b)) (buckets s)) _ g.passes.four in
      eqb-true _ _ (all-get f 0 (blocks s) r k (omega arith) (omega arith))

  pub uses-overflow : (n : ℕ) → n < top_at s
      → uses n (decode s) ≡ b2n (is_overflow s (bit_block (spares_at s) (point_at s) n))
  unfolding decode
  uses-overflow n h =
      tally-all n h 0 (suc (max_at s)) (omega arith) ∙ counted (bit_block sp t n) (bit-inside s g n h)

  pub uses-made : (n : ℕ) → 1 ≤ uses n (decode s) → (1 ≤ n) × (n < top_bit (decode s))
  unfolding decode
  uses-made n h = made_all n 0 (suc (max_at s)) (omega arith) h

  pub uses-once : (n : ℕ) → uses n (decode s) ≤ 1
  unfolding decode
  uses-once n = go (dec_le 1 (uses n (decode s)))
    where
      go : Dec (1 ≤ uses n (decode s)) → uses n (decode s) ≤ 1
      go (yes h) = omega (arith, uses-overflow n (uses-made n h).1, b2n-le (is_overflow s (bit_block sp t n)))
      go (no h) = omega arith

  -- ---- the bitmap

  free-decode : (n : ℕ) → free_at s n ≡ is_free (decode s) n
  unfolding decode
  free-decode n =
      free-same (decode s) n (is_overflow s (bit_block sp t n)) (λ h. sym (uses-overflow n h))

  bit-decode : (n : ℕ) → n < 2048 → bit_at s n ≡ map_bit (decode s) n
  unfolding rule6
  bit-decode n h =
      let r = and_left (all (bit_ok s) (up_from 0 2048)) _ g.passes.six in
      eqb-true _ _ (all-get (bit_ok s) 0 2048 r n (omega arith) h)
      ∙ ap (λ (c : Bool). b2n (not c)) (free-decode n)

  pub map_read : take 492 (block s (bit_block (spares_at s) (point_at s) 0)) ≡ map_front (map_bit (decode s))
  unfolding rule6
  map_read =
      let one : 0 < top_at s = top_pos sp t (blocks s) (fields s g).spares (point-pos (max_at s)) in
      let w = block-ok s g (bit_block sp t 0) (bit-inside s g 0 one) in
      let r = and_right (all (bit_ok s) (up_from 0 2048)) _ g.passes.six in
      map_front-bit_of (map_at s) (map_bit (decode s)) w.bytes w.full bit-decode
      (and_left (all_zero (part 256 492 (map_at s))) _ r)

  pub free-read : (meta_at s).free ≡ first_free (decode s)
  unfolding rule6 decode made
  free-read =
      let r = and_right (all (bit_ok s) (up_from 0 2048)) _ g.passes.six in
      eqb-true _ _ (and_right (all_zero (part 256 492 (map_at s))) _ r)
      ∙ first-zero (decode s) (bit_at s) (omega (arith, (fields s g).spares.room, g.small)) bit-decode
