-- What a chain set anew on the same spares leaves as it was.
use Rattle.std.specs.Prelude.{◌≡◌, refl, ◌≢◌, Bool, true, false, cond, not, List, [], ◌∷◌, ℕ, zero, suc, ◌+◌, ◌≤◌, ◌<◌, leb, ltb, eqb, length, get_or, set}
use Rattle.std.proofs.Common.{sym, ◌∙◌, subst, arith, ltb-true, lt-ltb}
use Rattle.std.proofs.Math.Path.{ap, fun_ext}
use Rattle.std.proofs.Math.Option.{Option}
use Rattle.std.proofs.Math.Decide.{ℕ_discrete}
use Rattle.lists.specs.Lists.{b2n, any, tally, find}
use Rattle.lists.specs.ListsLaws.{eqb_no, and_left, and_right, and_both, not_yes, any-no, zero-any}
use Rattle.address.specs.Address.{last_split, point, bucket_block}
use Rattle.address.specs.Role.{Role, meta, bucket_page, bit_page, unmade, role_of, RoleIs}
use Rattle.address.specs.BlockLaws.{point-pos}
use Rattle.address.specs.RoleLaws.{role-is}
use Rattle.page.specs.declared.Entry.{Entry}
use Rattle.page.specs.Entries.{encode_page}
use Rattle.model.specs.Index.{Page, Chain, Index, no_chain, chain, top_bit, set_chain}
use Rattle.model.specs.Pages.{bits_of, bits_used, is_free}
use Rattle.model.specs.WellFormed.{uses, Laid}
use Rattle.model.specs.StandLaws.{chain-here, chain-there}
use Rattle.model.proofs.LaidLaws.{bits-set}
use Rattle.image.specs.Layout.{paged, blank, map_front, flags_of, LinkedPage, next_of, linked_of}
use Rattle.store.specs.Flags.{no_link}
use Rattle.image.specs.Layout.{linked_from, bucket_image, overflow_image, image, encode_block}
use Rattle.frame.specs.Frame.{block_of_bit, map_block}
use Rattle.frame.specs.ListsLaws.{find-append}
use Rattle.image.specs.LinkedLaws.{has_bit}

-- a page with links, and entries in the place of its own
abbrev pub linked_as : (b prev next : ℕ) → Page → List Entry → LinkedPage
linked_as b prev next g es = record { bit = g.bit; bucket = b; prev = prev; next = next; entries = es }

pub other-bit : (x : Index) (n : ℕ) (g : Page) → block_of_bit x n ≢ block_of_bit x g.bit → eqb n g.bit ≡ false
other-bit x n g ne = eqb_no n g.bit (λ q. ne (ap (block_of_bit x) q))

-- what a chain shows of overflow bit n
abbrev pub page_of_bit : Index → (b n : ℕ) → Chain → Option LinkedPage
page_of_bit x b n c = find (has_bit n) (linked_of x.spares (point x.max_bucket) b (bucket_block x.spares b) c.more)

linked-set : (x : Index) (n i : ℕ) (cs : List Chain) (b : ℕ) (c : Chain)
    → page_of_bit x (i + b) n c ≡ page_of_bit x (i + b) n (get_or cs b no_chain)
    → find (has_bit n) (linked_from x.spares (point x.max_bucket) i (set cs b c))
    ≡ find (has_bit n) (linked_from x.spares (point x.max_bucket) i cs)
linked-set x n i [] b c q = refl
linked-set x n i (d ∷ cs) zero c q =
    let z : i + 0 ≡ i = omega arith in
    let L : Chain → List LinkedPage =
    λ c. linked_of x.spares (point x.max_bucket) i (bucket_block x.spares i) c.more in
    let R : List LinkedPage = linked_from x.spares (point x.max_bucket) (suc i) cs in
    find-append (has_bit n) (L c) (L d) R R (subst (λ (j : ℕ). page_of_bit x j n c ≡ page_of_bit x j n d) z q) refl
linked-set x n i (d ∷ cs) (suc b) c q =
    let z : i + suc b ≡ suc i + b = omega arith in
    let L : List LinkedPage = linked_of x.spares (point x.max_bucket) i (bucket_block x.spares i) d.more in
    let R : List Chain → List LinkedPage = linked_from x.spares (point x.max_bucket) (suc i) in
    find-append (has_bit n) L L (R (set cs b c)) (R cs) refl
    (linked-set x n (suc i) cs b c (subst (λ (j : ℕ). page_of_bit x j n c ≡ page_of_bit x j n (get_or cs b no_chain)) z q))

-- what a chain c in the place of bucket b's has to leave, that block k stays
pub record Unaltered (x : Index) (b k : ℕ) (c : Chain) : Type 0 where
  pub other : k ≢ 0
  pub bucket_page : bucket_block x.spares b ≡ k
      → (c.first ≡ (chain x b).first)
      × (next_of x.spares (point x.max_bucket) c.more
      ≡ next_of x.spares (point x.max_bucket) (chain x b).more)
  pub bitmap : map_block x ≡ k → (n : ℕ) → is_free (set_chain x x.spares b c) n ≡ is_free x n
  pub overflow : (n : ℕ) → block_of_bit x (suc n) ≡ k → page_of_bit x b (suc n) c ≡ page_of_bit x b (suc n) (chain x b)

module _ (x : Index) (l : Laid x) (b : ℕ) (fits : b < length x.chains) (c : Chain) where
  abbrev y : Index
  y = set_chain x x.spares b c

  pub frame-chain : (k : ℕ) → Unaltered x b k c → encode_block (set_chain x x.spares b c) k ≡ encode_block x k
  unfolding encode_block image bucket_image flags_of
  frame-chain k u =
      go (role_of x.spares (point x.max_bucket) k)
      (role-is x.spares (point x.max_bucket) x.size l.spares (point-pos x.max_bucket) k)
    where
      page : (d : ℕ) → bucket_block x.spares d ≡ k → Dec (d ≡ b) → bucket_image y d ≡ bucket_image x d
      page d q (yes r) =
          let e : chain y d ≡ c = ap (chain y) r ∙ chain-here x x.spares b c fits in
          let v = u.bucket_page (ap (bucket_block x.spares) (sym r) ∙ q) in
          let f : (chain y d).first ≡ (chain x d).first =
          ap (λ (a : Chain). a.first) e ∙ v.0 ∙ ap (λ (j : ℕ). (chain x j).first) (sym r) in
          let n : next_of x.spares (point x.max_bucket) (chain y d).more
          ≡ next_of x.spares (point x.max_bucket) (chain x d).more =
          ap (λ (a : Chain). next_of x.spares (point x.max_bucket) a.more) e ∙ v.1
          ∙ ap (λ (j : ℕ). next_of x.spares (point x.max_bucket) (chain x j).more) (sym r) in
          λ i. paged (encode_page (f i) []) (last_split x.max_bucket d) (n i) d (flags_of x d)
      page d q (no r) =
          let e : chain y d ≡ chain x d = chain-there x x.spares b c fits d r in
          λ i. paged (encode_page (e i).first []) (last_split x.max_bucket d)
          (next_of x.spares (point x.max_bucket) (e i).more) d (flags_of x d)

      go : (r : Role) → RoleIs x.spares (point x.max_bucket) k r → image y r ≡ image x r
      go meta i = absurd (u.other i)
      go (bucket_page d) i = ap (λ (a : List ℕ). cond (leb d x.max_bucket) a blank) (page d i.1 (ℕ_discrete d b))
      go (bit_page zero) i =
          ap (λ (free : ℕ → Bool). paged (map_front (λ n. b2n (not (free n)))) no_link no_link no_link 4)
          (fun_ext (u.bitmap i.1))
      go (bit_page (suc n)) i =
          let z : b ≡ 0 + b = omega arith in
          ap overflow_image (linked-set x (suc n) 0 x.chains b c
          (subst (λ (j : ℕ). page_of_bit x j (suc n) c ≡ page_of_bit x j (suc n) (chain x b)) z (u.overflow n i.1)))
      go unmade i = refl

-- ---- the bitmap

-- is_free as facts
abbrev pub Free : Index → ℕ → Type 0
Free x n = (1 ≤ n) × (n < top_bit x) × (uses n x ≡ 0)

pub free-yes : (x : Index) (n : ℕ) → is_free x n ≡ true → Free x n
free-yes x n e =
    let r = and_right (ltb 0 n) _ e in
    let u = not_yes (any (eqb n) (bits_used x)) (and_right (ltb n (top_bit x)) _ r) in (
      ltb-true 0 n (and_left (ltb 0 n) _ e),
      ltb-true n (top_bit x) (and_left (ltb n (top_bit x)) _ r),
      any-no (eqb n)
          (bits_used x) u,
    )

pub yes-free : (x : Index) (n : ℕ) → Free x n → is_free x n ≡ true
yes-free x n f =
    and_both (ltb 0 n) _ (lt-ltb 0 n f.0)
    (and_both (ltb n (top_bit x)) _ (lt-ltb n (top_bit x) f.1) (ap not (zero-any (eqb n) (bits_used x) f.2)))

-- the same free bits
pub free-alike : (x y : Index) (n : ℕ) → (Free y n → Free x n) → (Free x n → Free y n) → is_free y n ≡ is_free x n
free-alike x y n f g = go (is_free y n) (is_free x n) refl refl
  where
    go : (a b : Bool) → is_free y n ≡ a → is_free x n ≡ b → a ≡ b
    go true b p q = sym (yes-free x n (f (free-yes y n p))) ∙ q
    go false true p q = sym p ∙ yes-free y n (g (free-yes x n q))
    go false false p q = refl

-- a chain with the same bits
pub free-kept : (x : Index) (b : ℕ) (c : Chain) → b < length x.chains
    → ((n : ℕ) → tally (eqb n) (bits_of c) ≡ tally (eqb n) (bits_of (chain x b)))
    → (n : ℕ) → is_free (set_chain x x.spares b c) n ≡ is_free x n
free-kept x b c fits q n =
    let u : uses n (set_chain x x.spares b c) ≡ uses n x =
    omega (arith, bits-set (eqb n) x.chains b c fits, q n) in
    free-alike x (set_chain x x.spares b c) n (λ f. (f.0, f.1, sym u ∙ f.2)) (λ f. (f.0, f.1, u ∙ f.2))
