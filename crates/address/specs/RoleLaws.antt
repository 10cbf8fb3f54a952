-- Every made block has exactly one role: the meta block, one bucket's page, or one overflow bit's block.
use Rattle.std.specs.Prelude.{◌≡◌, Bool, List}
use Rattle.std.proofs.Math.Path.{refl, ap}
use Rattle.std.proofs.Common.{sym, ◌∙◌, subst, arith}
use Rattle.std.proofs.Math.Bool.{true, false}
use Rattle.std.proofs.Math.Option.{Option, none, some}
use Prim.Native.Nat.{ℕ, zero, suc, pred, ◌+◌, ◌-◌, ◌≤◌, ◌<◌}
use Rattle.std.proofs.Math.Decide.{dec_lt}
use borrow.Author.Tests.{eqb-true, ne_eqb}
use Rattle.std.proofs.Math.Dec.{eqb}
use Rattle.std.proofs.Math.ListN.{get_or}
use Rattle.lists.specs.Lists.{find, up_from}
use Rattle.lists.specs.ListsLaws.{eqb_yes}
use Rattle.lists.specs.RunLaws.{find-run, find-only, find-nowhere}
use Rattle.address.specs.Address.{buckets_at, bucket_point, bucket_block, bit_point, bit_block, made}
use Rattle.address.specs.Role.{SparesOk, Role, meta, bucket_page, bit_page, unmade, role_from, role_of, RoleIs}
use Rattle.address.specs.OverLaws.{over-unique, buckets-grow, buckets-mono, buckets-zero}
use Rattle.address.specs.BlockLaws.{spares-mono, BitAt, bit_at, bucket_point-is, bit-pos, bucket-pos, bit-apart}
use Rattle.address.specs.BlockLaws.{bit-bucket-apart, bucket-apart, bit-made, bucket-made}

module _ (sp : List ℕ) (s n : ℕ) (ok : SparesOk sp s n) (pos : 1 ≤ s) where
  pub data Made (k : ℕ) : Type 0 where
    is_meta : k ≡ 0 → Made k
    is_bucket : (b : ℕ) → b < buckets_at s → bucket_block sp b ≡ k → Made k
    is_bit : (m : ℕ) → m < get_or sp s 0 → bit_block sp s m ≡ k → Made k

  bit-point : (m i : ℕ) → 1 ≤ i → i ≤ s → get_or sp (pred i) 0 ≤ m → m < get_or sp i 0 → bit_block sp s m ≡ buckets_at i + m + 1
  bit-point m i p l lo hi =
      let x = bit_at sp s n ok pos m (omega (arith, spares-mono sp s n ok pos i s l (omega arith))) in
      x.block ∙ ap (λ (j : ℕ). buckets_at j + m + 1) (go x (dec_lt r i) (dec_lt i r))
    where
      r : ℕ
      r = bit_point sp m 1 (pred s)

      go : BitAt sp s n ok pos m r → Dec (r < i) → Dec (i < r) → r ≡ i
      go x (yes h) d = absurd (omega (arith, x.under, spares-mono sp s n ok pos r (pred i) (omega arith) (omega arith)))
      go x (no h) (yes g) =
          absurd (omega (arith, x.over, spares-mono sp s n ok pos i (pred r) (omega arith) (omega (arith, x.last))))
      go x (no h) (no g) = omega arith

  bucket-point : (b i : ℕ) → 1 ≤ i → buckets_at (pred i) ≤ b → b < buckets_at i → bucket_block sp b ≡ b + get_or sp (pred i) 0 + 1
  unfolding bucket_block
  bucket-point zero i p lo hi = absurd (omega (arith, buckets-zero, buckets-mono 0 (pred i) (omega arith)))
  bucket-point (suc b) i p lo hi =
      ap (λ (j : ℕ). suc b + get_or sp (pred j) 0 + 1)
      (over-unique buckets_at buckets-grow 0 (suc b) (bucket_point (suc b)) i (bucket_point-is (suc b))
      (record { from = omega arith; over = hi; least = λ _. lo }))

  made-to : (i : ℕ) → i ≤ s → (k : ℕ) → k < buckets_at i + get_or sp i 0 + 1 → Made k
  made-to zero l zero h = is_meta refl
  made-to zero l (suc zero) h =
      is_bucket 0 (omega (arith, buckets-zero, buckets-mono 0 s (omega arith))) (unfold bucket_block in refl)
  made-to zero l (suc (suc k)) h = absurd (omega (arith, buckets-zero, ok.zeroth))
  made-to (suc i) l k h =
      go (dec_lt k (buckets_at i + get_or sp i 0 + 1)) (dec_lt k (buckets_at (suc i) + get_or sp i 0 + 1)) (made-to i (omega arith) k)
    where
      go : Dec (k < buckets_at i + get_or sp i 0 + 1) → Dec (k < buckets_at (suc i) + get_or sp i 0 + 1)
          → (k < buckets_at i + get_or sp i 0 + 1 → Made k) → Made k
      go (yes q) d ih = ih q
      go (no q) (yes r) ih =
          let b : ℕ = k - (get_or sp i 0 + 1) in
          is_bucket b (omega (arith, buckets-mono (suc i) s l))
          (bucket-point b (suc i) (omega arith) (omega arith) (omega arith) ∙ omega arith)
      go (no q) (no r) ih =
          let m : ℕ = k - (buckets_at (suc i) + 1) in
          is_bit m (omega (arith, spares-mono sp s n ok pos (suc i) s l (omega arith)))
          (bit-point m (suc i) (omega arith) l (omega arith) (omega arith) ∙ omega arith)

  pub made-role : (k : ℕ) → k < made sp s → Made k
  unfolding made
  made-role k h = made-to s (omega arith) k h

  -- ---- the role that role_of gives

  pub role-meta : role_of sp s 0 ≡ meta
  unfolding role_of
  role-meta = refl

  pub role-bucket : (b : ℕ) → b < buckets_at s → role_of sp s (bucket_block sp b) ≡ bucket_page b
  unfolding role_of
  role-bucket b h =
      let p : eqb (bucket_block sp b) 0 ≡ false =
      ne_eqb (bucket_block sp b) 0 (λ e. omega (arith, e, bucket-pos sp s n ok pos b)) in
      let f : find (λ d. eqb (bucket_block sp d) (bucket_block sp b)) (up_from 0 (buckets_at s)) ≡ some b =
      find-only _ 0 (buckets_at s) b (eqb_yes (bucket_block sp b) (bucket_block sp b) refl) (omega arith) (omega arith)
      (λ z a l ne. ne_eqb _ _ (bucket-apart sp s n ok pos z b (omega arith) h ne)) in
      rw (p, f)

  pub role-bit : (m : ℕ) → m < get_or sp s 0 → role_of sp s (bit_block sp s m) ≡ bit_page m
  unfolding role_of
  role-bit m h =
      let p : eqb (bit_block sp s m) 0 ≡ false =
      ne_eqb (bit_block sp s m) 0 (λ e. omega (arith, e, bit-pos sp s n ok pos m)) in
      let f : find (λ d. eqb (bucket_block sp d) (bit_block sp s m)) (up_from 0 (buckets_at s)) ≡ none =
      find-nowhere _ 0 (buckets_at s)
      (λ z a l. ne_eqb _ _ (λ e. bit-bucket-apart sp s n ok pos m z h (omega arith) (sym e))) in
      let g : find (λ d. eqb (bit_block sp s d) (bit_block sp s m)) (up_from 0 (get_or sp s 0)) ≡ some m =
      find-only _ 0 (get_or sp s 0) m (eqb_yes (bit_block sp s m) (bit_block sp s m) refl) (omega arith) (omega arith)
      (λ z a l ne. ne_eqb _ _ (bit-apart sp s n ok pos z m (omega arith) h ne)) in
      rw (p, f, g)

  role-past : (k : ℕ) → made sp s ≤ k → role_of sp s k ≡ unmade
  unfolding role_of
  role-past k h =
      go (eqb k 0) refl (find (λ b. eqb (bucket_block sp b) k) (up_from 0 (buckets_at s))) refl
      (find (λ m. eqb (bit_block sp s m) k) (up_from 0 (get_or sp s 0))) refl
    where
      go : (c : Bool) → eqb k 0 ≡ c → (o : Option ℕ) → find (λ b. eqb (bucket_block sp b) k) (up_from 0 (buckets_at s)) ≡ o
          → (q : Option ℕ) → find (λ m. eqb (bit_block sp s m) k) (up_from 0 (get_or sp s 0)) ≡ q → role_from c o q ≡ unmade
      go true e o f q g = absurd (omega (arith, h, eqb-true k 0 e, bucket-made sp s n ok pos 0 (omega (arith, buckets-zero, buckets-mono 0 s (omega arith)))))
      go false e (some b) f q g =
          let r = find-run _ 0 (buckets_at s) b f in
          absurd (omega (arith, h, eqb-true (bucket_block sp b) k r.passes, bucket-made sp s n ok pos b (omega (arith, r.upto))))
      go false e none f (some m) g =
          let r = find-run _ 0 (get_or sp s 0) m g in
          absurd (omega (arith, h, eqb-true (bit_block sp s m) k r.passes, bit-made sp s n ok pos m (omega (arith, r.upto))))
      go false e none f none g = refl

  -- THE LAW: a block has exactly the role that it is given
  pub role-is : (k : ℕ) → RoleIs sp s k (role_of sp s k)
  role-is k = go (dec_lt k (made sp s))
    where
      at : Made k → RoleIs sp s k (role_of sp s k)
      at (is_meta e) = subst (RoleIs sp s k) (sym (ap (role_of sp s) e ∙ role-meta)) e
      at (is_bucket b l e) = subst (RoleIs sp s k) (sym (ap (role_of sp s) (sym e) ∙ role-bucket b l)) (l, e)
      at (is_bit m l e) = subst (RoleIs sp s k) (sym (ap (role_of sp s) (sym e) ∙ role-bit m l)) (l, e)

      go : Dec (k < made sp s) → RoleIs sp s k (role_of sp s k)
      go (yes l) = at (made-role k l)
      go (no l) = let h : made sp s ≤ k = omega arith in subst (RoleIs sp s k) (sym (role-past k h)) h

  pub role-only : (k : ℕ) (r : Role) → RoleIs sp s k r → role_of sp s k ≡ r
  role-only k meta e = ap (role_of sp s) e ∙ role-meta
  role-only k (bucket_page b) h = ap (role_of sp s) (sym h.1) ∙ role-bucket b h.0
  role-only k (bit_page m) h = ap (role_of sp s) (sym h.1) ∙ role-bit m h.0
  role-only k unmade h = role-past k h
