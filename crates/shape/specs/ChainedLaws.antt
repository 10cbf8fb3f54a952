-- What linked chains are: blocks of the store, each an overflow page in one place of its own bucket's chain.
use Rattle.std.specs.Prelude.{◌≡◌, ◌≢◌, Bool, false, eqb, get_or}
use Rattle.std.proofs.Math.Path.{refl, ap, subst}
use Rattle.std.proofs.Common.{sym, ap₂, ◌∙◌, arith}
use Rattle.std.proofs.Math.Bool.{true}
use mathlib.Core.List.{List, [], ◌∷◌}
use Prim.Native.Nat.{ℕ, zero, suc, ◌+◌, ◌≤◌, ◌<◌}
use borrow.Author.Tests.{eqb-true}
use Rattle.std.proofs.Math.ListN.{length}
use Rattle.lists.specs.Lists.{b2n, all, tally, bind, Each, up_from}
use Rattle.lists.specs.ListsLaws.{and_left, and_right, each_append}
use Rattle.lists.specs.Block.{blocks, block}
use Rattle.address.specs.Role.{Role, meta, bucket_page, bit_page, unmade, RoleIs}
use Rattle.address.specs.RoleLaws.{role-bucket}
use Rattle.address.specs.BlockLaws.{point-pos}
use Rattle.page.specs.PairLaws.{no_way}
use Rattle.store.specs.Store.{prev_at, next_at, bucket_at}
use Rattle.image.specs.declared.Meta.{Meta}
use Rattle.image.specs.Decode.{max_at, point_at, spares_at, role_at, block_of, trail}
use Rattle.image.specs.Rules.{overflow_as, buckets, is_overflow, link_ok, linked}
use Rattle.reader.specs.Known.{Known2}
use Rattle.reader.specs.KnownLaws.{spares-ok, max-under, bit-inside, role-at}
use Rattle.shape.specs.SumLaws.{tally-absent, tally-different, run-absent, run-once, sums-equal, sum-tally}
use Rattle.shape.specs.SumLaws.{sum-length}

-- ---- overflow pages

module _ {s : List ℕ} {m : Meta} (k : Known2 s m) where
  pub overflow-inside : (j : ℕ) → is_overflow s j ≡ true → j < blocks s
  unfolding overflow_as
  overflow-inside j h = go (role_at s j) (role-at k j) h
    where
      go : (r : Role) → RoleIs (spares_at s) (point_at s) j r → overflow_as r (block s j) ≡ true → j < blocks s
      go meta i f = no_way f refl
      go (bucket_page b) i f = no_way f refl
      go (bit_page zero) i f = no_way f refl
      go (bit_page (suc n)) i f = subst (λ (x : ℕ). x < blocks s) i.1 (bit-inside k (suc n) i.0)
      go unmade i f = no_way f refl

  pub bucket-no-overflow : (b : ℕ) → b ≤ max_at s → is_overflow s (block_of s b) ≡ false
  unfolding overflow_as
  bucket-no-overflow b h =
      ap (λ (r : Role). overflow_as r (block s (block_of s b)))
      (role-bucket (spares_at s) (point_at s) (blocks s) (spares-ok k) (point-pos (max_at s)) b (omega (arith, max-under k)))

-- ---- the links of a chain

module _ (s : List ℕ) where
  pub record Link (b k j : ℕ) : Type 0 where
    pub over : is_overflow s j ≡ true
    pub back : prev_at (block s j) ≡ k
    pub bucket : bucket_at (block s j) ≡ b

  -- each of the blocks js after block k
  pub links-of : (b k : ℕ) (js : List ℕ) → linked s b k js ≡ true → (i : ℕ) → i < length js
      → Link b (get_or (k ∷ js) i 0) (get_or js i 0)
  unfolding linked
  links-of b k [] h i l = absurd (omega arith)
  links-of b k (j ∷ js) h i l =
      let h₁ = and_right (eqb (next_at (block s k)) j) _ h in
      let o = and_left (link_ok s b k j) _ h₁ in
      let o₁ = and_right (is_overflow s j) _ o in
      let o₂ = and_right (eqb (prev_at (block s j)) k) _ o₁ in
      at i l
      (record {
        over = and_left (is_overflow s j) _ o;
        back = eqb-true _ _ (and_left (eqb (prev_at (block s j)) k) _ o₁);
        bucket = eqb-true _ _ (and_left (eqb (bucket_at (block s j)) b) _ o₂);
      })
      (links-of b j js (and_right (link_ok s b k j) _ h₁))
    where
      at : (i : ℕ) → i < suc (length js) → Link b k j
          → ((n : ℕ) → n < length js → Link b (get_or (j ∷ js) n 0) (get_or js n 0))
          → Link b (get_or (k ∷ (j ∷ js)) i 0) (get_or (j ∷ js) i 0)
      at zero l first rest = first
      at (suc n) l first rest = rest n (omega arith)

  module _ (b k : ℕ) (js : List ℕ) (ls : (i : ℕ) → i < length js → Link b (get_or (k ∷ js) i 0) (get_or js i 0)) where
    -- by the previous fields two equal blocks would have equal blocks before them, down to the bucket's page
    different : is_overflow s k ≡ false → (i j : ℕ) → i < j → j < suc (length js)
        → get_or (k ∷ js) i 0 ≢ get_or (k ∷ js) j 0
    different page i zero h l e = omega arith
    different page zero (suc j) h l e =
        no_way (ls j (omega arith)).over (ap (is_overflow s) (sym e) ∙ page)
    different page (suc i) (suc j) h l e =
        different page i j (omega arith) (omega arith)
        (sym (ls i (omega arith)).back ∙ ap (λ (x : ℕ). prev_at (block s x)) e ∙ (ls j (omega arith)).back)

    pub links-once : is_overflow s k ≡ false → (t : ℕ) → tally (eqb t) js ≤ 1
    links-once page t = omega (arith, tally-different t (k ∷ js) (different page))

    pub links-elsewhere : (t : ℕ) → bucket_at (block s t) ≢ b → tally (eqb t) js ≡ 0
    links-elsewhere t ne =
        tally-absent t js (λ i l e. ne (ap (λ (x : ℕ). bucket_at (block s x)) (sym e) ∙ (ls i l).bucket))

    pub links-no-other : (t : ℕ) → is_overflow s t ≡ false → tally (eqb t) js ≡ 0
    links-no-other t page =
        tally-absent t js (λ i l e. no_way (ls i l).over (ap (is_overflow s) e ∙ page))

-- ---- all chains

abbrev pub chained : List ℕ → ℕ → Bool
chained s b = linked s b (block_of s b) (trail s b)

each-places : (P : ℕ → Type 0) (ks : List ℕ) → ((i : ℕ) → i < length ks → P (get_or ks i 0)) → Each P ks
each-places P [] h = tt
each-places P (k ∷ ks) h = (h 0 (omega arith), each-places P ks (λ i l. h (suc i) (omega arith)))

module _ {s : List ℕ} {m : Meta} (k : Known2 s m) where
  pub trail-inside : (b : ℕ) → chained s b ≡ true → Each (λ j. j < blocks s) (trail s b)
  trail-inside b h =
      let ls = links-of s b (block_of s b) (trail s b) h in
      each-places (λ j. j < blocks s) (trail s b) (λ i l. overflow-inside k (get_or (trail s b) i 0) (ls i l).over)

  module _ (good : (b : ℕ) → b ≤ max_at s → chained s b ≡ true) where
    trails : List ℕ
    trails = bind (buckets s) (trail s)

    trails-inside : (i n : ℕ) → i + n ≤ suc (max_at s) → Each (λ j. j < blocks s) (bind (up_from i n) (trail s))
    trails-inside i zero h = tt
    trails-inside i (suc n) h =
        each_append (λ j. j < blocks s) (trail s i) (bind (up_from (suc i) n) (trail s))
        (trail-inside i (good i (omega arith))) (trails-inside (suc i) n (omega arith))

    -- a block stands in the chains at most once, and only if it is an overflow page
    stands : (t : ℕ) → tally (eqb t) (bind (buckets s) (trail s)) ≤ b2n (is_overflow s t)
    stands t = go (is_overflow s t) refl
      where
        go : (o : Bool) → is_overflow s t ≡ o → tally (eqb t) (bind (buckets s) (trail s)) ≤ b2n o
        go true e =
            run-once (trail s) t (bucket_at (block s t)) 0 (suc (max_at s))
            (λ b l g.
            links-once s b (block_of s b) (trail s b) (links-of s b (block_of s b) (trail s b) (good b (omega arith)))
            (bucket-no-overflow k b (omega arith)) t)
            (λ b l g ne.
            links-elsewhere s b (block_of s b) (trail s b)
            (links-of s b (block_of s b) (trail s b) (good b (omega arith))) t (λ q. ne (sym q)))
        go false e =
            let none =
            run-absent (trail s) t 0 (suc (max_at s))
            (λ b l g.
            links-no-other s b (block_of s b) (trail s b)
            (links-of s b (block_of s b) (trail s b) (good b (omega arith))) t e) in
            omega (arith, none)

    -- so each overflow page stands in one chain if there are as many of them as links
    pub pages-linked :
        all (λ t. eqb (tally (eqb t) (bind (buckets s) (trail s))) (b2n (is_overflow s t))) (up_from 0 (blocks s))
        ≡ eqb (length (bind (buckets s) (trail s))) (tally (is_overflow s) (up_from 0 (blocks s)))
    pages-linked =
        sums-equal (λ t. tally (eqb t) (bind (buckets s) (trail s))) (λ t. b2n (is_overflow s t)) 0 (blocks s) stands
        ∙ ap₂ eqb
        (sum-length (blocks s) (bind (buckets s) (trail s)) (trails-inside 0 (suc (max_at s)) (omega arith)))
        (sum-tally (is_overflow s) 0 (blocks s))
