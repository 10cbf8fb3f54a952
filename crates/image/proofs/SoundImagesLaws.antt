-- Every block of a sound store is the image of its role in the index that the store is read as.
use Rattle.std.specs.Prelude.{◌≡◌, Bool, eqb}
use Rattle.std.proofs.Math.Path.{refl, sym, ap}
use Rattle.std.proofs.Common.{◌∙◌, subst, arith}
use Rattle.std.proofs.Math.Bool.{true, false, cond}
use mathlib.Core.List.{List, []}
use Rattle.std.proofs.Math.Option.{Option, none, some}
use Prim.Native.Nat.{ℕ, zero, suc, ◌≤◌, ◌<◌}
use Rattle.std.proofs.Math.Dec.{leb}
use Rattle.std.proofs.Math.ListN.{take}
use borrow.Author.Tests.{leb-true, eqb-true}
use Rattle.lists.specs.Lists.{b2n, all, find}
use Rattle.lists.specs.ListsLaws.{and_left, and_right, each-find, find-no, find-yes}
use Rattle.lists.specs.RunLaws.{all-get}
use Rattle.lists.specs.Block.{blocks, block}
use Rattle.address.specs.Address.{last_split, bit_block}
use Rattle.address.specs.Role.{Role, meta, bucket_page, bit_page, unmade, RoleIs}
use Rattle.page.specs.Entries.{encode_page}
use Rattle.store.specs.Store.{prev_at, next_at, bucket_at, flags_at, id_at, covered, number_at}
use Rattle.store.proofs.CheckLaws.{sealed-body, block-checked}
use Rattle.model.specs.Index.{Chain, Index, chain}
use Rattle.model.specs.Held.{count}
use Rattle.model.specs.WellFormed.{uses}
use Rattle.model.specs.TallyLaws.{b2n-eq}
use Rattle.image.specs.Layout.{
  paged,
  blank,
  meta_front,
  meta_of,
  map_front,
  map_bit,
  LinkedPage,
  next_of,
  linked_pages,
  bucket_image,
  overflow_image,
  image,
  encode_block,
  sealed_block,
}
use Rattle.store.specs.Flags.{no_link}
use Rattle.image.specs.Decode.{read_meta, meta_at, max_at, point_at, spares_at, role_at, block_of, trail, decode}
use Rattle.image.specs.Rules.{unused, unlinked, fits, overflow_as, buckets, is_overflow, rule1, rule8}
use Rattle.image.specs.PagedLaws.{paged-read, blank-read}
use Rattle.image.proofs.MetaLaws.{size-front_ok, meta_front-read_meta}
use Rattle.lists.specs.TestLaws.{cond_no}
use Rattle.image.specs.LinkedLaws.{has_bit, linked-uses}
use Rattle.image.proofs.SoundFieldsLaws.{SoundBytes, fields}
use Rattle.image.proofs.SoundBlocksLaws.{role-at, BlockOk, block-ok, bucket-inside, bucket-ok}
use Rattle.image.proofs.SoundChainsLaws.{chain-read, chain-decode, front_read, next-links, Shown, shown-all}
use Rattle.image.proofs.SoundBitsLaws.{uses-overflow, map_read, free-read}

module _ (s : List ℕ) (g : SoundBytes s) where
  abbrev x : Index
  x = decode s

  abbrev sp : List ℕ
  sp = spares_at s

  abbrev t : ℕ
  t = point_at s

  -- ---- the meta block

  zero_ok : BlockOk s g 0
  zero_ok = block-ok s g 0 (omega (arith, bucket-inside s g 0 (omega arith)))

  abbrev prev_rule : ℕ → Bool
  prev_rule b = eqb (prev_at (block s (block_of s b))) (last_split (max_at s) b)

  pub count-read : (meta_at s).count ≡ count (decode s)
  unfolding rule8
  count-read = eqb-true _ _ (and_right (all prev_rule (buckets s)) _ g.passes.eight)

  pub meta-decode : meta_of (decode s) ≡ meta_at s
  unfolding meta_of decode read_meta rule1
  meta-decode =
      let f = fields s g in
      let size : (meta_at s).size ≡ blocks s =
      size-front_ok (block s 0) zero_ok.bytes zero_ok.full (blocks s) g.passes.one in
      λ i. record {
        count = sym count-read i;
        fill = (meta_at s).fill;
        max = max_at s;
        high = sym f.high i;
        low = sym f.low i;
        point = sym f.point i;
        free = sym (free-read s g) i;
        size = sym size i;
        spares = sym f.padding i;
        number = (meta_at s).number;
      }

  meta-read : take 492 (block s 0) ≡ meta_front (meta_of x)
  unfolding rule1
  meta-read =
      meta_front-read_meta (block s 0) zero_ok.bytes zero_ok.full (blocks s) g.passes.one
      ∙ ap meta_front (sym meta-decode)

  -- ---- blocks by the tests of rule 3

  blank-at : (k : ℕ) → BlockOk s g k → unused (block s k) ≡ true → covered (block s k) ≡ blank
  blank-at k w h = blank-read s k g.bytes w.place h

  unlinked-at : (k flags : ℕ) (front : List ℕ) → BlockOk s g k → take 492 (block s k) ≡ front
      → unlinked flags (block s k) ≡ true
      → covered (block s k) ≡ paged front no_link no_link no_link flags
  unlinked-at k flags front w e h =
      let l : List ℕ = block s k in
      let h₁ = and_right (eqb (flags_at l) flags) _ h in
      let h₂ = and_right (eqb (id_at l) 0xFF80) _ h₁ in
      let h₃ = and_right (eqb (prev_at l) no_link) _ h₂ in
      let f : flags_at l ≡ flags = eqb-true _ _ (and_left (eqb (flags_at l) flags) _ h) in
      let id : id_at l ≡ 0xFF80 = eqb-true _ _ (and_left (eqb (id_at l) 0xFF80) _ h₁) in
      let p : prev_at l ≡ no_link = eqb-true _ _ (and_left (eqb (prev_at l) no_link) _ h₂) in
      let n : next_at l ≡ no_link = eqb-true _ _ (and_left (eqb (next_at l) no_link) _ h₃) in
      let b : bucket_at l ≡ no_link = eqb-true _ _ (and_right (eqb (next_at l) no_link) _ h₃) in
      paged-read s k g.bytes w.place id ∙ (λ i. paged (e i) (p i) (n i) (b i) (f i))

  bucket-at : (b : ℕ) → b ≤ max_at s → covered (block s (block_of s b)) ≡ bucket_image x b
  unfolding bucket_image rule8 decode
  bucket-at b h =
      let c = chain-read s g b h in
      let o = bucket-ok s g b h in
      let w = c.first.place in
      let ch = chain-decode s g b h in
      let prev : prev_at (block s (block_of s b)) ≡ last_split (max_at s) b =
      eqb-true _ _
      (all-get prev_rule 0 (suc (max_at s)) (and_left (all prev_rule (buckets s)) _ g.passes.eight) b (omega arith)
      (omega arith)) in
      let next : next_at (block s (block_of s b)) ≡ next_of sp t (chain x b).more =
      next-links s g b (block_of s b) (trail s b) c.links ∙ ap (λ (c : Chain). next_of sp t c.more) (sym ch) in
      let front : take 492 (block s (block_of s b)) ≡ encode_page (chain x b).first [] =
      front_read s g (block_of s b) c.first ∙ ap (λ (c : Chain). encode_page c.first []) (sym ch) in
      paged-read s (block_of s b) g.bytes w.place o.id
      ∙ (λ i. paged (front i) (prev i) (next i) (o.bucket i) (o.flags i))

  -- a made overflow block, but for the bitmap
  bit_at : (k n : ℕ) → BlockOk s g k → RoleIs sp t k (bit_page (suc n)) → role_at s k ≡ bit_page (suc n)
      → covered (block s k) ≡ overflow_image (find (has_bit (suc n)) (linked_pages x))
  unfolding Shown fits overflow_as decode
  bit_at k n w i q = go (find (has_bit (suc n)) (linked_pages x)) refl
    where
      l : List ℕ
      l = block s k

      free : eqb (flags_at l) 1 ≡ false → covered l ≡ blank
      free e =
          blank-at k w
          (cond_no (eqb (flags_at l) 1) _ (unused l) e (subst (λ (r : Role). fits (max_at s) r l ≡ true) q w.fit))

      go : (o : Option LinkedPage) → find (has_bit (suc n)) (linked_pages x) ≡ o → covered l ≡ overflow_image o
      go (some h) e =
          let b : suc n ≡ h.bit = eqb-true _ _ (find-yes (has_bit (suc n)) (linked_pages x) h e).0 in
          let here : covered (block s (bit_block sp t h.bit)) ≡ overflow_image (some h) =
          each-find (Shown s g) (has_bit (suc n)) (linked_pages x) h (shown-all s g) e in
          ap (λ (j : ℕ). covered (block s j)) (sym i.1 ∙ ap (bit_block sp t) b) ∙ here
      go none e =
          let u : uses (suc n) x ≡ 0 = sym (linked-uses x (suc n)) ∙ find-no (has_bit (suc n)) (linked_pages x) e in
          let v : b2n (is_overflow s k) ≡ 0 =
          ap (λ (j : ℕ). b2n (is_overflow s j)) (sym i.1) ∙ sym (uses-overflow s g (suc n) i.0) ∙ u in
          let y : is_overflow s k ≡ eqb (flags_at l) 1 = ap (λ (r : Role). overflow_as r l) q in
          free (sym y ∙ b2n-eq (is_overflow s k) false v)

  -- ---- every block

  image-at : (k : ℕ) → BlockOk s g k → (r : Role) → RoleIs sp t k r → role_at s k ≡ r → covered (block s k) ≡ image x r
  unfolding image fits decode
  image-at k w r i q = go r i q (subst (λ (r : Role). fits (max_at s) r (block s k) ≡ true) q w.fit)
    where
      go : (r : Role) → RoleIs sp t k r → role_at s k ≡ r → fits (max_at s) r (block s k) ≡ true
          → covered (block s k) ≡ image x r
      go meta i q f = unlinked-at k 8 (meta_front (meta_of x)) w (ap (λ (j : ℕ). take 492 (block s j)) i ∙ meta-read) f
      go (bucket_page b) i q f = page (leb b (max_at s)) refl
        where
          page : (c : Bool) → leb b (max_at s) ≡ c → covered (block s k) ≡ cond c (bucket_image x b) blank
          page true e = ap (λ (j : ℕ). covered (block s j)) (sym i.1) ∙ bucket-at b (leb-true _ _ e)
          page false e = blank-at k w (cond_no (leb b (max_at s)) _ (unused (block s k)) e f)
      go (bit_page zero) i q f =
          unlinked-at k 4 (map_front (map_bit x)) w (ap (λ (j : ℕ). take 492 (block s j)) (sym i.1) ∙ map_read s g) f
      go (bit_page (suc n)) i q f = bit_at k n w i q
      go unmade i q f = blank-at k w f

  covered-decode : (k : ℕ) → k < blocks s → covered (block s k) ≡ encode_block (decode s) k
  unfolding encode_block decode
  covered-decode k h = image-at k (block-ok s g k h) (role_at s k) (role-at s g k) refl

  pub block-decode : (k : ℕ) → k < blocks s → block s k ≡ sealed_block (decode s) k
  unfolding sealed_block decode number_at read_meta
  block-decode k h =
      let w = block-ok s g k h in
      block-checked s k g.bytes w.place w.check
      ∙ sealed-body (number_at s) k (block s k) (encode_block (decode s) k) (covered-decode k h)
