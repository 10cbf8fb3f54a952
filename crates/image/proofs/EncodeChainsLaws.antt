-- The chains of a well-formed index are linked as rule 4 says, and their pages pass rule 5.
use Rattle.std.specs.Prelude.{◌≡◌, refl, Bool, length, get_or}
use Rattle.std.proofs.Math.Path.{sym, ap, ap₂}
use Rattle.std.proofs.Common.{◌∙◌}
use Rattle.std.proofs.Math.Bool.{true}
use mathlib.Core.List.{List, [], ◌∷◌, map}
use Prim.Native.Nat.{ℕ, zero, suc, ◌+◌, ◌≤◌, ◌<◌}
use Rattle.std.proofs.Math.Decide.{ℕ_discrete, dec_le}
use native.Mathlib.Omega.{arith}
use Rattle.std.proofs.Math.Dec.{eqb}
use borrow.Author.Tests.{eq-eqb, ne_eqb, lt-ltb}
use Rattle.lists.specs.Lists.{b2n, all, tally, bind, up_from, Each}
use Rattle.lists.specs.ListsLaws.{and_both, tally-append}
use Rattle.lists.specs.RunLaws.{all-put}
use Rattle.lists.specs.Block.{blocks, block}
use Rattle.endian.specs.Endian.{u16_at}
use Rattle.address.specs.Address.{point, bucket_block, bit_block}
use Rattle.address.specs.Role.{Role, meta, bucket_page, bit_page, unmade, role_of, RoleIs}
use Rattle.address.specs.RoleLaws.{role-is}
use Rattle.address.specs.BlockLaws.{point-pos}
use Rattle.page.specs.Rule.{page_ok}
use Rattle.store.specs.Store.{prev_at, next_at, bucket_at, flags_at}
use Rattle.model.specs.Index.{Page, Chain, no_chain, Index, chain, top_bit}
use Rattle.model.specs.Pages.{bits_of}
use Rattle.model.specs.WellFormed.{uses, Laid, WF}
use Rattle.image.specs.Layout.{next_of, linked_of, encode}
use Rattle.image.specs.Decode.{bit_from, max_at, block_of, trail}
use Rattle.image.specs.Rules.{overflow_as, buckets, is_overflow, link_ok, linked, rule4}
use Rattle.image.proofs.EncodeLaws.{blocks-encode}
use Rattle.image.proofs.EncodePagesLaws.{max-encode, role-encode, block_of-encode, role-of-bit, LinkedIs, chain-is}
use Rattle.image.proofs.EncodeDecodeLaws.{page_block, trail-encode}
use Rattle.image.proofs.EncodeFitsLaws.{BitBlock, in_chain, in_none, bit-block, blank-flags}

pub overflow_bit : (n : ℕ) (l : List ℕ) → 1 ≤ n → overflow_as (bit_page n) l ≡ eqb (flags_at l) 1
unfolding overflow_as
overflow_bit zero l h = absurd (omega arith)
overflow_bit (suc n) l h = refl

module _ (x : Index) (w : WF x) where
  abbrev l : Laid x
  l = w.laid

  abbrev sp : List ℕ
  sp = x.spares

  abbrev s : ℕ
  s = point x.max_bucket

  abbrev e : List ℕ
  e = encode x

  role : (k : ℕ) → RoleIs sp s k (role_of sp s k)
  role = role-is sp s x.size l.spares (point-pos x.max_bucket)

  -- ---- links

  linked-encode : (b k : ℕ) (gs : List Page) → next_at (block e k) ≡ next_of sp s gs
      → Each (LinkedIs x w) (linked_of sp s b k gs)
      → linked e b k (map (page_block x w) gs) ≡ true
  unfolding linked
  linked-encode b k [] q r = eq-eqb _ _ q
  linked-encode b k (g ∷ gs) q r =
      let p = r.0.page in
      let j : ℕ = page_block x w g in
      let o : is_overflow e j ≡ true =
      ap (λ (r : Role). overflow_as r (block e j)) (role-encode x w j ∙ role-of-bit x w g.bit r.0.ok.made)
      ∙ overflow_bit g.bit (block e j) r.0.ok.low
      ∙ eq-eqb _ _ p.flags in
      and_both (eqb (next_at (block e k)) j) _ (eq-eqb _ _ q)
      (and_both (link_ok e b k j) _
      (and_both (is_overflow e j) _ o
      (and_both (eqb (prev_at (block e j)) k) _ (eq-eqb _ _ p.prev)
      (and_both (eqb (bucket_at (block e j)) b) _ (eq-eqb _ _ p.bucket)
      (lt-ltb 0 (u16_at (block e j) 0) (omega (arith, p.number, r.0.ok.used))))))
      (linked-encode b j gs p.next r.1))

  -- ---- each overflow page stands in one chain

  -- a block is that of the page with its bit, and of no other
  at-bit : (k n : ℕ) → 1 ≤ n → n < top_bit x → eqb k (bit_block sp s n) ≡ eqb (bit_from (role_of sp s k)) n
  at-bit k n low made = go (ℕ_discrete k (bit_block sp s n))
    where
      there : (r : Role) → RoleIs sp s k r → bit_from r ≡ n → k ≡ bit_block sp s n
      there meta i q = absurd (omega arith)
      there (bucket_page b) i q = absurd (omega arith)
      there (bit_page m) i q = sym i.1 ∙ ap (bit_block sp s) q
      there unmade i q = absurd (omega arith)

      go : Dec (k ≡ bit_block sp s n) → eqb k (bit_block sp s n) ≡ eqb (bit_from (role_of sp s k)) n
      go (yes z) =
          eq-eqb _ _ z
          ∙ sym (eq-eqb _ _ (ap (λ (j : ℕ). bit_from (role_of sp s j)) z ∙ ap bit_from (role-of-bit x w n made)))
      go (no z) = ne_eqb _ _ z ∙ sym (ne_eqb (bit_from (role_of sp s k)) n (λ q. z (there (role_of sp s k) (role k) q)))

  tally-chain : (k b p : ℕ) (gs : List Page) → Each (LinkedIs x w) (linked_of sp s b p gs)
      → tally (eqb k) (map (page_block x w) gs) ≡ tally (eqb (bit_from (role_of sp s k))) (map (λ (g : Page). g.bit) gs)
  tally-chain k b p [] r = refl
  tally-chain k b p (g ∷ gs) r =
      omega (
        arith,
        ap b2n (at-bit k g.bit r.0.ok.low r.0.ok.made),
        tally-chain k b (page_block x w g) gs r.1,
      )

  tally-trails : (k i : ℕ) (cs : List Chain) → i + length cs ≤ suc x.max_bucket
      → ((j : ℕ) → j < length cs → get_or cs j no_chain ≡ chain x (i + j))
      → tally (eqb k) (bind (up_from i (length cs)) (trail e)) ≡ tally (eqb (bit_from (role_of sp s k))) (bind cs bits_of)
  tally-trails k i [] h f = refl
  tally-trails k i (c ∷ cs) h f =
      let z : i + 0 ≡ i = omega arith in
      let q : c ≡ chain x i = f 0 (omega arith) ∙ ap (chain x) z in
      let a : tally (eqb k) (trail e i) ≡ tally (eqb (bit_from (role_of sp s k))) (bits_of c) =
      ap (tally (eqb k)) (trail-encode x w i (omega arith))
      ∙ tally-chain k i (bucket_block sp i) (chain x i).more (chain-is x w i (omega arith)).rest
      ∙ ap (λ (d : Chain). tally (eqb (bit_from (role_of sp s k))) (bits_of d)) (sym q) in
      let ih = tally-trails k (suc i) cs (omega arith)
      (λ j lt. let y : i + suc j ≡ suc i + j = omega arith in f (suc j) (omega arith) ∙ ap (chain x) y) in
      simp tally-append (omega arith)

  pub no-bit : uses 0 x ≡ 0
  no-bit = go (dec_le 1 (uses 0 x))
    where
      go : Dec (1 ≤ uses 0 x) → uses 0 x ≡ 0
      go (yes h) = absurd (omega (arith, (l.made 0 h).0))
      go (no h) = omega arith

  uses-overflow : (k : ℕ) → k < x.size → (r : Role) → RoleIs sp s k r → role_of sp s k ≡ r
      → uses (bit_from r) x ≡ b2n (overflow_as r (block e k))
  unfolding overflow_as
  uses-overflow k h meta i q = no-bit
  uses-overflow k h (bucket_page b) i q = no-bit
  uses-overflow k h (bit_page zero) i q = no-bit
  uses-overflow k h (bit_page (suc n)) i q = go (bit-block x w k n h i q)
    where
      go : BitBlock x w k (suc n) → uses (suc n) x ≡ b2n (eqb (flags_at (block e k)) 1)
      go (in_chain g b u p z) = u ∙ sym (ap b2n (eq-eqb _ _ (ap flags_at z ∙ p.page.flags)))
      go (in_none u z) = u ∙ sym (ap b2n (blank-flags (block e k) z))
  uses-overflow k h unmade i q = no-bit

  -- a block is an overflow page exactly if a chain has its bit
  pub overflow-uses : (k : ℕ) → k < x.size
      → b2n (is_overflow (encode x) k) ≡ uses (bit_from (role_of x.spares (point x.max_bucket) k)) x
  overflow-uses k h =
      ap (λ (r : Role). b2n (overflow_as r (block e k))) (role-encode x w k)
      ∙ sym (uses-overflow k h (role_of sp s k) (role k) refl)

  pub rule4-encode : rule4 (encode x) ≡ true
  unfolding rule4
  rule4-encode =
      and_both _ _
      (all-put (λ b. linked e b (block_of e b) (trail e b)) 0 (suc (max_at e)) (λ b a h.
      let b≤ : b ≤ x.max_bucket = omega (arith, max-encode x w) in
      let c = chain-is x w b b≤ in
      ap₂ (linked e b) (block_of-encode x w b) (trail-encode x w b b≤)
      ∙ linked-encode b (bucket_block sp b) (chain x b).more c.first.next c.rest))
      (all-put (λ k. eqb (tally (eqb k) (bind (buckets e) (trail e))) (b2n (is_overflow e k))) 0 (blocks e) (λ k a h.
      eq-eqb _ _
      (ap (λ (m : ℕ). tally (eqb k) (bind (up_from 0 m) (trail e))) (ap suc (max-encode x w) ∙ sym l.whole)
      ∙ tally-trails k 0 x.chains (omega (arith, l.whole))
      (λ j lt. let z : j ≡ 0 + j = omega arith in ap (chain x) z)
      ∙ sym (overflow-uses k (omega (arith, blocks-encode x l))))))

  -- ---- pages pass the page rule

  pages-rule : (b k : ℕ) (gs : List Page) → Each (LinkedIs x w) (linked_of sp s b k gs)
      → all (λ j. page_ok (block e j)) (map (page_block x w) gs) ≡ true
  pages-rule b k [] r = refl
  pages-rule b k (g ∷ gs) r = and_both _ _ r.0.page.rule (pages-rule b (page_block x w g) gs r.1)

  abbrev pub pages_rule : ℕ → Bool
  pages_rule b = all (λ k. page_ok (block (encode x) k)) (block_of (encode x) b ∷ trail (encode x) b)

  pub pages-encode : all pages_rule (buckets (encode x)) ≡ true
  pages-encode =
      all-put pages_rule 0 (suc (max_at e)) (λ b a h.
      let b≤ : b ≤ x.max_bucket = omega (arith, max-encode x w) in
      let c = chain-is x w b b≤ in
      and_both _ _
      (ap (λ (k : ℕ). page_ok (block e k)) (block_of-encode x w b) ∙ c.first.rule)
      (ap (all (λ k. page_ok (block e k))) (trail-encode x w b b≤)
      ∙ pages-rule b (bucket_block sp b) (chain x b).more c.rest))
