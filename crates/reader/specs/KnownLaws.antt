-- What rule 2 gives: where buckets and overflow bits stand, inside the store, as the meta fields m have it.
use Rattle.std.specs.Prelude.{◌≡◌, List, ℕ, suc, ◌+◌, ◌*◌, ◌≤◌, ◌<◌, length, get_or, take}
use Rattle.std.proofs.Common.{sym, ap, subst, ◌∙◌, arith}
use Rattle.lists.specs.Block.{blocks, block}
use Rattle.lists.specs.BlockLaws.{length-block}
use Rattle.address.specs.Address.{buckets_at, bucket_block, bit_block, made}
use Rattle.address.specs.Role.{SparesOk, role_of, RoleIs}
use Rattle.address.specs.BlockLaws.{point-pos}
use Rattle.address.specs.SparesLaws.{top_pos}
use Rattle.address.specs.AgreeLaws.{bucket-same, bit-same, role_same, spares-front}
use Rattle.address.specs.Limits.{max_blocks}
use Rattle.image.specs.declared.Meta.{Meta}
use Rattle.image.specs.Decode.{read_meta, meta_at, max_at, point_at, spares_at, role_at, block_of}
use Rattle.image.specs.Rules.{map_at, top_at, rule2}
use Rattle.image.proofs.MetaLaws.{length-words_at}
use Rattle.chain.specs.Walk.{Sized}
use Rattle.chain.specs.WalkLaws.{length_ok-sized}
use Rattle.meta.specs.Addressed.{Addressed, addressed, addressed-wider, home-inside}
use Rattle.reader.specs.Known.{Known2}
use Rattle.address.specs.BlockLaws as laws
use Rattle.address.specs.RoleLaws as roles
use Rattle.meta.specs.Addressed as fields

module _ {s : List ℕ} {m : Meta} (k : Known2 s m) where
  pub sized : Sized s
  sized = length_ok-sized s k.whole

  pub block-whole : (j : ℕ) → j < blocks s → 512 * j + 512 ≤ length s
  block-whole j h = omega (arith, sized.whole)

  pub block-full : (j : ℕ) → j < blocks s → length (block s j) ≡ 512
  block-full j h = length-block s j (block-whole j h)

  -- ---- the fields

  stored : Addressed (blocks s) (meta_at s)
  unfolding rule2 read_meta
  stored = addressed (blocks s) (meta_at s) (length-words_at (block s 0) 40 16) k.holds

  known : Addressed (blocks s) m
  known = subst (Addressed (blocks s)) (sym k.meta) stored

  pub known-addressed : Addressed max_blocks m
  known-addressed = addressed-wider (blocks s) max_blocks m sized.few known

  pub max-is : m.max ≡ max_at s
  max-is = ap (λ (x : Meta). x.max) k.meta

  pub max-pos : 1 ≤ max_at s
  max-pos = stored.two

  pub point-is : m.point ≡ point_at s
  point-is = ap (λ (x : Meta). x.point) k.meta ∙ stored.point

  pub spares-ok : SparesOk (spares_at s) (point_at s) (blocks s)
  spares-ok =
      subst (λ (i : ℕ). SparesOk (take (suc i) (meta_at s).spares) i (blocks s)) stored.point stored.spares

  pub spare-is : (i : ℕ) → i ≤ point_at s → get_or m.spares i 0 ≡ get_or (spares_at s) i 0
  spare-is i h =
      ap (λ (x : Meta). get_or x.spares i 0) k.meta ∙ sym (spares-front (meta_at s).spares (point_at s) i h)

  -- spares[s]: the overflow bits that are made
  pub top-is : get_or m.spares m.point 0 ≡ top_at s
  top-is = ap (λ (i : ℕ). get_or m.spares i 0) point-is ∙ spare-is (point_at s) (omega arith)

  pub max-under : max_at s < buckets_at (point_at s)
  max-under = (laws.point-is (max_at s)).over

  made_inside : buckets_at (point_at s) + top_at s + 1 ≤ blocks s
  unfolding made
  made_inside = spares-ok.room

  pub max-small : max_at s < max_blocks
  max-small = omega (arith, max-under, made_inside, sized.few)

  pub top-some : 1 ≤ top_at s
  top-some = top_pos (spares_at s) (point_at s) (blocks s) spares-ok (point-pos (max_at s))

  pub top_small : top_at s < max_blocks
  top_small = omega (arith, made_inside, sized.few)

  -- ---- blocks, as the code finds them by m

  pub bucket-is : (b : ℕ) → b ≤ max_at s → bucket_block m.spares b ≡ block_of s b
  bucket-is b h = bucket-same m.spares (spares_at s) (point_at s) spare-is b (omega (arith, max-under))

  pub bucket-inside : (b : ℕ) → b ≤ max_at s → block_of s b < blocks s
  bucket-inside b h =
      subst (λ (j : ℕ). j < blocks s) (bucket-is b h) (home-inside (blocks s) m known b (omega (arith, max-is)))

  -- the page of bucket b
  pub bucket-full : (b : ℕ) → b ≤ m.max → length (block s (block_of s b)) ≡ 512
  bucket-full b h = block-full (block_of s b) (bucket-inside b (omega (arith, max-is)))

  pub bit_is : (n : ℕ) → bit_block m.spares m.point n ≡ bit_block (spares_at s) (point_at s) n
  bit_is n =
      ap (λ (i : ℕ). bit_block m.spares i n) point-is ∙ bit-same m.spares (spares_at s) (point_at s) spare-is n

  pub bit-inside : (n : ℕ) → n < top_at s → bit_block (spares_at s) (point_at s) n < blocks s
  bit-inside n h =
      subst (λ (j : ℕ). j < blocks s) (bit_is n) (fields.bit-inside (blocks s) m known n (omega (arith, top-is)))

  -- the bitmap's page is a whole block
  pub map-full : (l : List ℕ) → l ≡ map_at s → length l ≡ 512
  map-full l e = ap length e ∙ block-full _ (bit-inside 0 (omega (arith, top-some)))

  pub role-is : (j : ℕ) → role_of m.spares m.point j ≡ role_at s j
  role-is j = ap (λ (i : ℕ). role_of m.spares i j) point-is ∙ role_same m.spares (spares_at s) (point_at s) spare-is j

  pub role-at : (j : ℕ) → RoleIs (spares_at s) (point_at s) j (role_at s j)
  role-at = roles.role-is (spares_at s) (point_at s) (blocks s) spares-ok (point-pos (max_at s))
