-- The blocks of a sound store by their roles: rule 3.
use Rattle.std.specs.Prelude.{◌≡◌, Bool, ◌&&◌, List, length}
use Rattle.std.proofs.Math.Path.{refl, subst}
use Rattle.std.proofs.Common.{ap, arith}
use Rattle.std.proofs.Math.Bool.{true}
use Rattle.std.specs.Bool.{beq}
use Prim.Native.Nat.{ℕ, zero, suc, ◌+◌, ◌*◌, ◌≤◌, ◌<◌}
use Rattle.std.proofs.Math.Dec.{leb, eqb}
use borrow.Author.Tests.{eqb-true, le-leb}
use Rattle.lists.specs.Lists.{all, up_from}
use Rattle.lists.specs.ListsLaws.{and_left, and_right}
use Rattle.lists.specs.RunLaws.{all-get}
use Rattle.lists.specs.Bytes.{Bytes}
use Rattle.lists.specs.Block.{blocks, block}
use Rattle.lists.specs.BlockLaws.{length-block, Bytes-block}
use Rattle.address.specs.Address.{buckets_at, split_from, bit_block}
use Rattle.address.specs.Role.{Role, meta, bucket_page, bit_page, unmade, RoleIs}
use Rattle.address.specs.RoleLaws.{role-is, role-bucket}
use Rattle.address.specs.BlockLaws.{point-pos, point-is, bit-made, bucket-made}
use Rattle.address.specs.MaskLaws.{split-lt}
use Rattle.page.specs.PairLaws.{no_way}
use Rattle.store.specs.Store.{bucket_at, flags_at, id_at, checked}
use Rattle.image.specs.Layout.{flags_of}
use Rattle.image.specs.Decode.{max_at, point_at, spares_at, role_at, block_of, new_flags, old_flags, decode}
use Rattle.image.specs.Rules.{unused, bucket_flags_ok, fits, overflow_as, is_overflow, rule3, top_at}
use Rattle.image.proofs.SoundFieldsLaws.{SoundBytes, fields}
use Rattle.image.specs.FlagLaws.{flags-job}
use Rattle.lists.specs.TestLaws.{cond_yes}

module _ (s : List ℕ) (g : SoundBytes s) where
  abbrev sp : List ℕ
  sp = spares_at s

  abbrev t : ℕ
  t = point_at s

  pub max-inside : max_at s < buckets_at (point_at s)
  max-inside = (point-is (max_at s)).over

  pub role-at : (k : ℕ) → RoleIs (spares_at s) (point_at s) k (role_at s k)
  role-at = role-is sp t (blocks s) (fields s g).spares (point-pos (max_at s))

  -- ---- a block of the store

  pub record BlockOk (k : ℕ) : Type 0 where
    pub place : 512 * k + 512 ≤ length s
    pub bytes : Bytes (block s k)
    pub full : length (block s k) ≡ 512
    pub check : checked s k ≡ true
    pub fit : fits (max_at s) (role_at s k) (block s k) ≡ true

  abbrev fits_rule : ℕ → Bool
  fits_rule k = fits (max_at s) (role_at s k) (block s k)

  fits_all : all fits_rule (up_from 0 (blocks s)) ≡ true
  unfolding rule3
  fits_all = and_left (all fits_rule (up_from 0 (blocks s))) _ g.passes.three

  pub block-ok : (k : ℕ) → k < blocks s → BlockOk k
  block-ok k h =
      let p : 512 * k + 512 ≤ length s = omega (arith, g.whole) in
      record {
        place = p;
        bytes = Bytes-block s k g.bytes;
        full = length-block s k p;
        check = g.passes.checks k h;
        fit = all-get fits_rule 0 (blocks s) fits_all k (omega arith) (omega arith);
      }

  pub bucket-inside : (b : ℕ) → b ≤ max_at s → block_of s b < blocks s
  bucket-inside b h =
      omega (
        arith,
        bucket-made sp t (blocks s) (fields s g).spares (point-pos (max_at s)) b (omega (arith, max-inside)),
        (fields s g).spares.room,
      )

  pub bit-inside : (n : ℕ) → n < top_at s → bit_block (spares_at s) (point_at s) n < blocks s
  bit-inside n h =
      omega (arith, bit-made sp t (blocks s) (fields s g).spares (point-pos (max_at s)) n h, (fields s g).spares.room)

  -- ---- bucket pages

  abbrev l : ℕ → List ℕ
  l b = block s (block_of s b)

  bucket-fit : (b : ℕ) → b ≤ max_at s
      → bucket_flags_ok (max_at s) b (flags_at (l b)) && (eqb (id_at (l b)) 0xFF80 && eqb (bucket_at (l b)) b) ≡ true
  unfolding fits
  bucket-fit b h =
      let r = role-bucket sp t (blocks s) (fields s g).spares (point-pos (max_at s)) b (omega (arith, max-inside)) in
      let f =
      subst (λ (r : Role). fits (max_at s) r (l b) ≡ true) r (block-ok (block_of s b) (bucket-inside b h)).fit in
      cond_yes (leb b (max_at s)) _ (unused (l b)) (le-leb b (max_at s) h) f

  flags-fit : (b : ℕ) → b ≤ max_at s → bucket_flags_ok (max_at s) b (flags_at (l b)) ≡ true
  flags-fit b h = and_left (bucket_flags_ok (max_at s) b (flags_at (l b))) _ (bucket-fit b h)

  flags-both : beq (eqb (new_flags s) 18) (eqb (old_flags s) 34) ≡ true
  unfolding rule3
  flags-both = and_right (all fits_rule (up_from 0 (blocks s))) _ g.passes.three

  pub record BucketOk (b : ℕ) : Type 0 where
    pub flags : flags_at (block s (block_of s b)) ≡ flags_of (decode s) b
    pub id : id_at (block s (block_of s b)) ≡ 0xFF80
    pub bucket : bucket_at (block s (block_of s b)) ≡ b

  pub bucket-ok : (b : ℕ) → b ≤ max_at s → BucketOk b
  unfolding flags_of decode
  bucket-ok b h =
      let m : ℕ = max_at s in
      let lt : split_from m < m = split-lt m (fields s g).two in
      let q = and_right (bucket_flags_ok m b (flags_at (l b))) _ (bucket-fit b h) in
      record {
        flags =
            flags-job m (new_flags s) (old_flags s) (λ e. omega (arith, e))
            (flags-fit m (omega arith)) (flags-fit (split_from m) (omega arith)) flags-both
            b (flags_at (l b)) (flags-fit b h) (ap (λ (k : ℕ). flags_at (l k))) (ap (λ (k : ℕ). flags_at (l k)));
        id = eqb-true _ _ (and_left (eqb (id_at (l b)) 0xFF80) _ q);
        bucket = eqb-true _ _ (and_right (eqb (id_at (l b)) 0xFF80) _ q);
      }

  -- ---- overflow pages

  pub record Overflow (j : ℕ) : Type 0 where
    pub bit : ℕ
    pub role : role_at s j ≡ bit_page (suc bit)
    pub made : suc bit < top_at s
    pub at : bit_block (spares_at s) (point_at s) (suc bit) ≡ j
    pub flags : flags_at (block s j) ≡ 1
    pub id : id_at (block s j) ≡ 0xFF80
    pub there : BlockOk j

  pub overflow-is : (j : ℕ) → is_overflow s j ≡ true → Overflow j
  unfolding overflow_as fits
  overflow-is j h = go (role_at s j) refl (role-at j) h
    where
      page : (n : ℕ) → role_at s j ≡ bit_page (suc n) → RoleIs sp t j (bit_page (suc n))
          → eqb (flags_at (block s j)) 1 ≡ true → BlockOk j → Overflow j
      page n e r f w =
          let fit : fits (max_at s) (bit_page (suc n)) (block s j) ≡ true =
          subst (λ (r : Role). fits (max_at s) r (block s j) ≡ true) e w.fit in
          let both : eqb (id_at (block s j)) 0xFF80 && leb (bucket_at (block s j)) (max_at s) ≡ true =
          cond_yes (eqb (flags_at (block s j)) 1) _ (unused (block s j)) f fit in
          record {
            bit = n;
            role = e;
            made = r.0;
            at = r.1;
            flags = eqb-true _ _ f;
            id = eqb-true _ _ (and_left (eqb (id_at (block s j)) 0xFF80) _ both);
            there = w;
          }

      go : (r : Role) → role_at s j ≡ r → RoleIs sp t j r → overflow_as r (block s j) ≡ true → Overflow j
      go meta e i f = no_way f refl
      go (bucket_page b) e i f = no_way f refl
      go (bit_page zero) e i f = no_way f refl
      go (bit_page (suc n)) e i f =
          page n e i f (block-ok j (subst (λ (k : ℕ). k < blocks s) i.1 (bit-inside (suc n) i.0)))
      go unmade e i f = no_way f refl
