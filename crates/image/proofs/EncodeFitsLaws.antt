-- The blocks of a well-formed index fit their roles: rule 3.
use Rattle.std.specs.Prelude.{◌≡◌, Bool, false, ◌&&◌, ◌||◌, List, leb, eqb, length}
use Rattle.std.proofs.Math.Path.{refl, ap, ap₂}
use Rattle.std.proofs.Common.{sym, ◌∙◌, arith}
use Rattle.std.proofs.Math.Bool.{true, cond, beq}
use Rattle.std.proofs.Math.Option.{Option, none, some}
use Prim.Native.Nat.{ℕ, zero, suc, ◌^◌, ◌≤◌, ◌<◌}
use borrow.Author.Tests.{leb-true, eqb-true, eq-eqb, ne_eqb, le-leb}
use Rattle.lists.specs.Lists.{b2n, find}
use Rattle.lists.specs.ListsLaws.{and_both, each-find, find-no, find-yes}
use Rattle.lists.specs.RunLaws.{all-put}
use Rattle.lists.specs.Block.{blocks, block}
use Rattle.address.specs.Address.{split_from, point, bucket_block, bit_block}
use Rattle.address.specs.Role.{Role, meta, bucket_page, bit_page, unmade, role_of, RoleIs}
use Rattle.address.specs.RoleLaws.{role-is}
use Rattle.address.specs.BlockLaws.{point-pos}
use Rattle.address.specs.MaskLaws.{split-lt}
use Rattle.store.specs.Store.{prev_at, next_at, bucket_at, flags_at, id_at, covered}
use Rattle.model.specs.Index.{Job, idle, copying, clearing, Index, top_bit}
use Rattle.model.specs.WellFormed.{uses, Laid, WF}
use Rattle.image.specs.Layout.{
  paged,
  blank,
  meta_front,
  meta_of,
  map_front,
  map_bit,
  flags_in,
  flags_of,
  LinkedPage,
  linked_pages,
  bucket_image,
  overflow_image,
  image,
  encode,
}
use Rattle.store.specs.Flags.{no_link}
use Rattle.image.specs.Decode.{max_at, role_at}
use Rattle.image.specs.Rules.{unlinked, bucket_flags_ok, fits, rule3}
use Rattle.lists.specs.TestLaws.{cond-put}
use Rattle.image.specs.PagedLaws.{
  prev-paged,
  next-paged,
  bucket-paged,
  flags-paged,
  id-paged,
  unused-blank,
  flags-blank,
}
use Rattle.image.specs.BitmapLaws.{length-map_front}
use Rattle.image.specs.LinkedLaws.{has_bit, linked-uses}
use Rattle.image.proofs.BoundLaws.{length-meta}
use Rattle.image.proofs.EncodeLaws.{blocks-encode}
use Rattle.image.proofs.EncodePagesLaws.{max-encode, role-encode, image-at, LinkedIs, linked-is, chain-is}
use Rattle.image.proofs.EncodeDecodeLaws.{new_flags-encode, old_flags-encode}

-- ---- the tests of one block

unlinked-paged : (l front : List ℕ) (flags : ℕ) → length front ≡ 492 → flags < 2 ^ 16
    → covered l ≡ paged front no_link no_link no_link flags → unlinked flags l ≡ true
unlinked-paged l front flags h f q =
    let none : no_link < 2 ^ 32 = omega arith in
    and_both (eqb (flags_at l) flags) _ (eq-eqb _ _ (flags-paged front h no_link no_link no_link flags l q f))
    (and_both (eqb (id_at l) 0xFF80) _ (eq-eqb _ _ (id-paged front h no_link no_link no_link flags l q))
    (and_both (eqb (prev_at l) no_link) _ (eq-eqb _ _ (prev-paged front h no_link no_link no_link flags l q none))
    (and_both (eqb (next_at l) no_link) (eqb (bucket_at l) no_link)
    (eq-eqb _ _ (next-paged front h no_link no_link no_link flags l q none))
    (eq-eqb _ _ (bucket-paged front h no_link no_link no_link flags l q none)))))

pub blank-flags : (l : List ℕ) → covered l ≡ blank → eqb (flags_at l) 1 ≡ false
blank-flags l q = ap (λ (k : ℕ). eqb k 1) (flags-blank l q)

-- ---- flags of the job

flags-ok : (x : Index) (b : ℕ) → bucket_flags_ok x.max_bucket b (flags_of x b) ≡ true
unfolding flags_of
flags-ok x b = go x.job
  where
    ok : (f : ℕ) (new old : Bool) → Bool
    ok f new old = eqb f 2 || ((new && eqb f 18) || (old && (eqb f 34 || eqb f 66)))

    both : (new old : Bool) → ok (cond new 18 (cond old 34 2)) new old ≡ true
    both true old = refl
    both false true = refl
    both false false = refl

    rest : (new old : Bool) → ok (cond old 66 2) new old ≡ true
    rest true true = refl
    rest false true = refl
    rest new false = refl

    go : (j : Job) → bucket_flags_ok x.max_bucket b (flags_in j x.max_bucket (split_from x.max_bucket) b) ≡ true
    go idle = refl
    go copying = both (eqb b x.max_bucket) (eqb b (split_from x.max_bucket))
    go clearing = rest (eqb b x.max_bucket) (eqb b (split_from x.max_bucket))

-- "split exactly with it"
flags-both : (x : Index) → 1 ≤ x.max_bucket
    → beq (eqb (flags_of x x.max_bucket) 18) (eqb (flags_of x (split_from x.max_bucket)) 34) ≡ true
unfolding flags_of
flags-both x two = go x.job
  where
    new : ℕ
    new = x.max_bucket

    old : ℕ
    old = split_from x.max_bucket

    ne : eqb old new ≡ false
    ne = ne_eqb old new (λ e. omega (arith, e, split-lt x.max_bucket two))

    go : (j : Job) → beq (eqb (flags_in j new old new) 18) (eqb (flags_in j new old old) 34) ≡ true
    go idle = refl
    go copying = rw (eq-eqb new new refl, ne, eq-eqb old old refl)
    go clearing = at (eqb new old) (eqb old old)
      where
        at : (c d : Bool) → beq (eqb (cond c 66 2) 18) (eqb (cond d 66 2) 34) ≡ true
        at true true = refl
        at true false = refl
        at false true = refl
        at false false = refl

module _ (x : Index) (w : WF x) where
  abbrev l : Laid x
  l = w.laid

  abbrev sp : List ℕ
  sp = x.spares

  abbrev s : ℕ
  s = point x.max_bucket

  abbrev e : List ℕ
  e = encode x

  -- an overflow bit's block: a page of a chain, or unused
  pub data BitBlock (k n : ℕ) : Type 0 where
    in_chain : (g : LinkedPage) → g.bit ≡ n → uses n x ≡ 1 → LinkedIs x w g
        → block (encode x) k ≡ block (encode x) (bit_block x.spares (point x.max_bucket) g.bit) → BitBlock k n
    in_none : uses n x ≡ 0 → covered (block (encode x) k) ≡ blank → BitBlock k n

  pub bit-block : (k n : ℕ) → k < x.size
      → (suc n < top_bit x) × (bit_block x.spares (point x.max_bucket) (suc n) ≡ k)
      → role_of x.spares (point x.max_bucket) k ≡ bit_page (suc n) → BitBlock k (suc n)
  unfolding image
  bit-block k n h i q = go (find (has_bit (suc n)) (linked_pages x)) refl
    where
      go : (o : Option LinkedPage) → find (has_bit (suc n)) (linked_pages x) ≡ o → BitBlock k (suc n)
      go none f =
          in_none (sym (linked-uses x (suc n)) ∙ find-no (has_bit (suc n)) (linked_pages x) f)
          (image-at x w k (bit_page (suc n)) h q ∙ ap overflow_image f)
      go (some g) f =
          let y = find-yes (has_bit (suc n)) (linked_pages x) g f in
          let b : suc n ≡ g.bit = eqb-true _ _ y.0 in
          in_chain g (sym b)
          (omega (arith, l.once (suc n), linked-uses x (suc n), y.1 (has_bit (suc n)), ap b2n y.0))
          (each-find (LinkedIs x w) (has_bit (suc n)) (linked_pages x) g (linked-is x w) f)
          (ap (block e) (sym i.1 ∙ ap (bit_block sp s) b))

  fits-encode : (k : ℕ) → k < x.size → (r : Role) → RoleIs sp s k r → role_of sp s k ≡ r
      → fits x.max_bucket r (block e k) ≡ true
  unfolding fits image
  fits-encode k h meta i q =
      unlinked-paged (block e k) (meta_front (meta_of x)) 8 (length-meta x l) (omega arith) (image-at x w k meta h q)
  fits-encode k h (bucket_page b) i q =
      cond-put (leb b x.max_bucket) _ _
      (λ c.
      let p = (chain-is x w b (leb-true b x.max_bucket c)).first in
      let z : block e k ≡ block e (bucket_block sp b) = ap (block e) (sym i.1) in
      and_both _ _ (ap (bucket_flags_ok x.max_bucket b) (ap flags_at z ∙ p.flags) ∙ flags-ok x b)
      (and_both _ _ (eq-eqb _ _ (ap id_at z ∙ p.id)) (eq-eqb _ _ (ap bucket_at z ∙ p.bucket))))
      (λ c.
      unused-blank (block e k)
      (image-at x w k (bucket_page b) h q ∙ ap (λ (d : Bool). cond d (bucket_image x b) blank) c))
  fits-encode k h (bit_page zero) i q =
      unlinked-paged (block e k) (map_front (map_bit x)) 4 (length-map_front (map_bit x)) (omega arith)
      (image-at x w k (bit_page zero) h q)
  fits-encode k h (bit_page (suc n)) i q = go (bit-block k n h i q)
    where
      go : BitBlock k (suc n) → fits x.max_bucket (bit_page (suc n)) (block e k) ≡ true
      go (in_chain g b u p z) =
          rw (eq-eqb _ _ (ap flags_at z ∙ p.page.flags))
          (and_both _ _ (eq-eqb _ _ (ap id_at z ∙ p.page.id))
          (le-leb (bucket_at (block e k)) x.max_bucket
          (omega (arith, ap bucket_at z ∙ p.page.bucket, p.ok.bucket))))
      go (in_none u z) = rw (blank-flags (block e k) z) (unused-blank (block e k) z)
  fits-encode k h unmade i q = unused-blank (block e k) (image-at x w k unmade h q)

  pub rule3-encode : rule3 (encode x) ≡ true
  unfolding rule3
  rule3-encode =
      and_both _ _
      (all-put (λ k. fits (max_at e) (role_at e k) (block e k)) 0 (blocks e) (λ k a h.
      ap₂ (λ (m : ℕ) (r : Role). fits m r (block e k)) (max-encode x w) (role-encode x w k)
      ∙ fits-encode k (omega (arith, blocks-encode x l)) (role_of sp s k)
      (role-is sp s x.size l.spares (point-pos x.max_bucket) k) refl))
      (ap₂ (λ (n o : ℕ). beq (eqb n 18) (eqb o 34)) (new_flags-encode x w) (old_flags-encode x w)
      ∙ flags-both x l.two)
