-- The bitmap of a well-formed index passes rule 6.
use Rattle.std.specs.Prelude.{◌≡◌, Bool, true, not, ℕ, ◌<◌, get_or, drop}
use Rattle.std.proofs.Math.Path.{sym, ap, ap₂}
use Rattle.std.proofs.Common.{◌∙◌, arith}
use mathlib.Core.List.{List, ◌++◌}
use Rattle.std.proofs.Math.Option
use Rattle.std.proofs.Math.Dec.{eqb}
use borrow.Author.Tests.{eq-eqb}
use Rattle.lists.specs.Lists.{b2n, find, up_from}
use Rattle.lists.specs.ListsLaws.{and_both}
use Rattle.lists.specs.RunLaws.{all-put}
use Rattle.lists.specs.Bytes.{part, all_zero}
use Rattle.lists.specs.Block.{block}
use Rattle.address.specs.Address.{point, bit_block}
use Rattle.address.specs.Role.{Role, bit_page}
use Rattle.address.specs.BlockLaws.{point-pos}
use Rattle.address.specs.SparesLaws.{top_pos}
use Rattle.store.specs.Store.{trailer}
use Rattle.model.specs.Index.{Index, top_bit}
use Rattle.model.specs.WellFormed.{uses, Laid, WF}
use Rattle.image.specs.declared.Meta.{Meta}
use Rattle.image.specs.Layout.{meta_of, map_front, map_bit, image, encode}
use Rattle.store.specs.Flags.{no_link}
use Rattle.model.specs.Pages.{free_of, is_free}
use Rattle.image.specs.Decode.{bit_of, bit_from, point_at, spares_at}
use Rattle.image.specs.Rules.{is_overflow, map_at, bit_at, top_at, free_at, bit_ok, rule6}
use Rattle.image.specs.PagedLaws.{paged-parts}
use Rattle.image.specs.BitmapLaws.{length-map_front, zeros-map_front, bit_of-map_front}
use Rattle.image.proofs.BoundLaws.{top_small}
use Rattle.image.specs.FreeLaws.{free-same, first-zero}
use Rattle.image.proofs.EncodeLaws.{map_bit-lt, bit-inside}
use Rattle.image.proofs.EncodePagesLaws.{meta-encode, point-encode, spares-encode, image-at, role-of-bit}
use Rattle.image.proofs.EncodeChainsLaws.{overflow-uses}

module _ (x : Index) (w : WF x) where
  abbrev l : Laid x
  l = w.laid

  abbrev sp : List ℕ
  sp = x.spares

  abbrev s : ℕ
  s = point x.max_bucket

  abbrev e : List ℕ
  e = encode x

  tail : List ℕ
  tail = trailer no_link no_link no_link 4 ++ drop 508 (block e (bit_block sp s 0))

  map-encode : map_at e ≡ map_front (map_bit x) ++ tail
  unfolding image tail
  map-encode =
      let one : 0 < top_bit x = top_pos sp s x.size l.spares (point-pos x.max_bucket) in
      ap₂ (λ (q : List ℕ) (n : ℕ). block e (bit_block q n 0)) (spares-encode x w) (point-encode x w)
      ∙ paged-parts (map_front (map_bit x)) (length-map_front (map_bit x)) no_link no_link no_link 4
      (block e (bit_block sp s 0))
      (image-at x w (bit_block sp s 0) (bit_page 0) (bit-inside x l 0 one) (role-of-bit x w 0 one))

  pub bit-encode : (n : ℕ) → n < 2048 → bit_at (encode x) n ≡ map_bit x n
  bit-encode n h = ap (λ (t : List ℕ). bit_of t n) map-encode ∙ bit_of-map_front (map_bit x) (map_bit-lt x) tail n h

  top-encode : top_at e ≡ top_bit x
  top-encode = ap₂ (λ (q : List ℕ) (n : ℕ). get_or q n 0) (spares-encode x w) (point-encode x w)

  free-encode : (n : ℕ) → free_at e n ≡ is_free x n
  free-encode n =
      let at : bit_block (spares_at e) (point_at e) n ≡ bit_block sp s n =
      ap₂ (λ (q : List ℕ) (m : ℕ). bit_block q m n) (spares-encode x w) (point-encode x w) in
      ap₂ (λ (t k : ℕ). free_of t (is_overflow e k) n) top-encode at
      ∙ free-same x n (is_overflow e (bit_block sp s n))
      (λ h.
      overflow-uses x w (bit_block sp s n) (bit-inside x l n h)
      ∙ ap (λ (r : Role). uses (bit_from r) x) (role-of-bit x w n h))

  pub rule6-encode : rule6 (encode x) ≡ true
  unfolding rule6 meta_of
  rule6-encode =
      let first = first-zero x (bit_at e) (omega (arith, top_small x l)) bit-encode in
      let top = ap (Option.get_or (find (λ n. eqb (bit_at e n) 0) (up_from 0 2048))) top-encode in
      and_both _ _
      (all-put (bit_ok e) 0 2048 (λ n a h.
      eq-eqb _ _ (bit-encode n h ∙ ap (λ (c : Bool). b2n (not c)) (sym (free-encode n)))))
      (and_both _ _
      (ap (λ (t : List ℕ). all_zero (part 256 492 t)) map-encode ∙ zeros-map_front (map_bit x) tail)
      (eq-eqb _ _ (ap (λ (m : Meta). m.free) (meta-encode x w) ∙ sym (top ∙ first))))
