-- The blocks of an index that is laid out, by their roles: what code finds there and what it has to write.
use Rattle.std.specs.Prelude.{◌≡◌, Bool, true, false, List, [], ◌∷◌, map, eqb, length, get_or}
use Rattle.std.proofs.Math.Path.{refl, ap}
use Rattle.std.proofs.Common.{◌∙◌, arith, le-leb}
use Rattle.std.proofs.Math.Bool.{cond}
use Rattle.std.proofs.Math.Option.{some}
use Prim.Native.Nat.{ℕ, zero, suc, ◌+◌, ◌≤◌, ◌<◌}
use Rattle.std.proofs.lemmas.Bool.{lt-leb}
use Rattle.lists.specs.Lists.{b2n, tally, find, bind}
use Rattle.lists.specs.ListsLaws.{eqb_yes, tally-append}
use Rattle.address.specs.Address.{buckets_at, last_split, point, bucket_block, made}
use Rattle.address.specs.Role.{Role, meta, bucket_page, bit_page, unmade, RoleIs}
use Rattle.address.specs.BlockLaws.{point-pos}
use Rattle.address.specs.SparesLaws.{top_pos}
use Rattle.address.specs.RoleLaws.{role-only}
use Rattle.page.specs.Entries.{encode_page}
use Rattle.model.specs.Index.{Page, Chain, Index, no_chain, chain, top_bit}
use Rattle.model.specs.Pages.{bits_of}
use Rattle.model.specs.WellFormed.{uses, Laid}
use Rattle.image.specs.Layout.{flags_of, paged, blank, meta_front, meta_of, map_front, map_bit, LinkedPage}
use Rattle.store.specs.Flags.{no_link}
use Rattle.image.specs.Layout.{next_of, linked_of, linked_from, linked_pages, bucket_image, overflow_image, image}
use Rattle.image.specs.Layout.{encode_block}
use Rattle.image.specs.LinkedLaws.{has_bit, tally-linked, linked-uses}
use Rattle.image.proofs.BoundLaws.{max-under}
use Rattle.image.proofs.EncodeLaws.{bit-inside, bucket-inside}
use Rattle.frame.specs.ListsLaws.{get_d_map, find-zero, find-left, find-right, find-hit, find-pass}
use Rattle.frame.specs.Frame.{block_of_bit, map_block, blocks_after, page_block, page_with, page_image}

-- ---- a linked page is found by its bit

pub bits-at : (t : ℕ → Bool) (cs : List Chain) (b : ℕ) → tally t (bits_of (get_or cs b no_chain)) ≤ tally t (bind cs bits_of)
bits-at t [] b = omega arith
bits-at t (c ∷ cs) zero = simp tally-append (omega arith)
bits-at t (c ∷ cs) (suc b) = simp tally-append (omega (arith, bits-at t cs b))

abbrev pub no_page : Page
no_page = record { bit = 0; entries = [] }

pub stands : (gs : List Page) (i : ℕ) → i < length gs
    → 1 ≤ tally (eqb (get_or gs i no_page).bit) (map (λ (g : Page). g.bit) gs)
stands [] i h = absurd (omega arith)
stands (g ∷ gs) zero h = omega (arith, ap b2n (eqb_yes g.bit g.bit refl))
stands (g ∷ gs) (suc i) h = omega (arith, stands gs i (omega arith))

module _ (x : Index) where
  abbrev sp : List ℕ
  sp = x.spares

  abbrev s : ℕ
  s = point x.max_bucket

  pub next-first : (gs : List Page) → next_of x.spares (point x.max_bucket) gs ≡ get_or (blocks_after x gs) 0 no_link
  next-first [] = refl
  next-first (g ∷ gs) = refl

  -- overflow page i of the pages gs that follow the block prev in the chain of bucket b
  abbrev linked_at : (b prev : ℕ) → List Page → ℕ → LinkedPage
  linked_at b prev gs i =
      record {
        bit = (get_or gs i no_page).bit;
        bucket = b;
        prev = get_or (prev ∷ blocks_after x gs) i no_link;
        next = get_or (blocks_after x gs) (suc i) no_link;
        entries = get_or (map (λ (g : Page). g.entries) gs) i [];
      }

  no_one : (b : Bool) → b2n b ≤ 0 → b ≡ false
  no_one true h = absurd (omega arith)
  no_one false h = refl

  find-page : (b prev : ℕ) (gs : List Page) (i : ℕ) → i < length gs
      → tally (eqb (get_or gs i no_page).bit) (map (λ (g : Page). g.bit) gs) ≤ 1
      → find (has_bit (get_or gs i no_page).bit) (linked_of sp s b prev gs) ≡ some (linked_at b prev gs i)
  find-page b prev [] i h u = absurd (omega arith)
  find-page b prev (g ∷ gs) zero h u =
      find-hit (has_bit g.bit) _ (linked_of sp s b (block_of_bit x g.bit) gs) (eqb_yes g.bit g.bit refl)
      ∙ ap (λ (k : ℕ). some (record { bit = g.bit; bucket = b; prev = prev; next = k; entries = g.entries }))
      (next-first gs)
  find-page b prev (g ∷ gs) (suc i) h u =
      find-pass (has_bit (get_or gs i no_page).bit) _ (linked_of sp s b (block_of_bit x g.bit) gs)
      (no_one (eqb (get_or gs i no_page).bit g.bit) (omega (arith, stands gs i (omega arith))))
      ∙ find-page b (block_of_bit x g.bit) gs i (omega arith) (omega arith)

  find-chain : (i : ℕ) (cs : List Chain) (b j : ℕ) → b < length cs → j < length (get_or cs b no_chain).more
      → ((n : ℕ) → tally (eqb n) (bind cs bits_of) ≤ 1)
      → find (has_bit (get_or (get_or cs b no_chain).more j no_page).bit) (linked_from sp s i cs)
      ≡ some (linked_at (i + b) (bucket_block sp (i + b)) (get_or cs b no_chain).more j)
  find-chain i [] b j l h u = absurd (omega arith)
  find-chain i (c ∷ cs) zero j l h u =
      let z : i ≡ i + 0 = omega arith in
      let n : ℕ = (get_or c.more j no_page).bit in
      find-left (has_bit n) (linked_of sp s i (bucket_block sp i) c.more) (linked_from sp s (suc i) cs) _
      (find-page i (bucket_block sp i) c.more j h
      (omega (arith, u n, tally-append (eqb n) (bits_of c) (bind cs bits_of))))
      ∙ ap (λ (k : ℕ). some (linked_at k (bucket_block sp k) c.more j)) z
  find-chain i (c ∷ cs) (suc b) j l h u =
      let z : suc i + b ≡ i + suc b = omega arith in
      let gs : List Page = (get_or cs b no_chain).more in
      let n : ℕ = (get_or gs j no_page).bit in
      let a = tally-append (eqb n) (bits_of c) (bind cs bits_of) in
      let L : List LinkedPage = linked_of sp s i (bucket_block sp i) c.more in
      let t : tally (has_bit n) L ≡ tally (eqb n) (bits_of c) =
      omega (arith, tally-linked sp s n i (c ∷ []), tally-append (has_bit n) L [], tally-append (eqb n) (bits_of c) []) in
      find-right (has_bit n) L (linked_from sp s (suc i) cs)
      (find-zero (has_bit n) L (omega (arith, t, a, u n, bits-at (eqb n) cs b, stands gs j h)))
      ∙ find-chain (suc i) cs b j (omega arith) h
      (λ m. omega (arith, u m, tally-append (eqb m) (bits_of c) (bind cs bits_of)))
      ∙ ap (λ (k : ℕ). some (linked_at k (bucket_block sp k) gs j)) z

-- ---- where the blocks stand

module _ (x : Index) (l : Laid x) where
  pub top_one : 1 ≤ top_bit x
  top_one = top_pos x.spares (point x.max_bucket) x.size l.spares (point-pos x.max_bucket)

  -- the bits of a chain are made
  pub page-made : (b i : ℕ) → i < length (chain x b).more
      → (1 ≤ (get_or (chain x b).more i no_page).bit) × ((get_or (chain x b).more i no_page).bit < top_bit x)
  page-made b i h =
      let n : ℕ = (get_or (chain x b).more i no_page).bit in
      l.made n (omega (arith, stands (chain x b).more i h, bits-at (eqb n) x.chains b))

  pub page-block : (b i : ℕ) → i < length (chain x b).more
      → page_block x b (suc i) ≡ block_of_bit x (get_or (chain x b).more i no_page).bit
  page-block b i h = get_d_map (λ (g : Page). block_of_bit x g.bit) (chain x b).more i no_page no_link h

  pub page-inside : (b i : ℕ) → b ≤ x.max_bucket → i ≤ length (chain x b).more → page_block x b i < x.size
  page-inside b zero h k = bucket-inside x l b h
  page-inside b (suc i) h k = rw (page-block b i k) (bit-inside x l _ (page-made b i k).1)

  -- ---- images by role

  role-at : (k : ℕ) (r : Role) → RoleIs x.spares (point x.max_bucket) k r → encode_block x k ≡ image x r
  unfolding encode_block
  role-at k r h =
      ap (image x) (role-only x.spares (point x.max_bucket) x.size l.spares (point-pos x.max_bucket) k r h)

  pub meta-image : encode_block x 0 ≡ paged (meta_front (meta_of x)) no_link no_link no_link 8
  unfolding image
  meta-image = role-at 0 meta refl

  pub bucket-image : (b : ℕ) → b ≤ x.max_bucket → encode_block x (bucket_block x.spares b) ≡ bucket_image x b
  unfolding image
  bucket-image b h =
      role-at (bucket_block x.spares b) (bucket_page b) (omega (arith, max-under x l), refl)
      ∙ ap (λ (c : Bool). cond c (bucket_image x b) blank) (le-leb b x.max_bucket h)

  -- kept for a coming bucket
  pub kept-image : (b : ℕ) → x.max_bucket < b → b < buckets_at (point x.max_bucket)
      → encode_block x (bucket_block x.spares b) ≡ blank
  unfolding image
  kept-image b h k =
      role-at (bucket_block x.spares b) (bucket_page b) (k, refl)
      ∙ ap (λ (c : Bool). cond c (bucket_image x b) blank) (lt-leb b x.max_bucket h)

  pub map-image : encode_block x (map_block x) ≡ paged (map_front (map_bit x)) no_link no_link no_link 4
  unfolding image
  map-image = role-at (map_block x) (bit_page 0) (top_one, refl)

  pub unmade-image : (k : ℕ) → made x.spares (point x.max_bucket) ≤ k → encode_block x k ≡ blank
  unfolding image
  unmade-image k h = role-at k unmade h

  image-bit : (n : ℕ) → 1 ≤ n → image x (bit_page n) ≡ overflow_image (find (has_bit n) (linked_pages x))
  unfolding image
  image-bit zero h = absurd (omega arith)
  image-bit (suc n) h = refl

  pub free-image : (n : ℕ) → 1 ≤ n → n < top_bit x → uses n x ≡ 0 → encode_block x (block_of_bit x n) ≡ blank
  free-image n p h u =
      role-at (block_of_bit x n) (bit_page n) (h, refl) ∙ image-bit n p
      ∙ ap overflow_image (find-zero (has_bit n) (linked_pages x) (linked-uses x n ∙ u))

  -- ---- images by chain and place

  pub page-image : (b i : ℕ) → b ≤ x.max_bucket → i ≤ length (chain x b).more
      → encode_block x (page_block x b i) ≡ page_image x b i
  unfolding page_with bucket_image
  page-image b zero h k =
      bucket-image b h
      ∙ ap (λ (n : ℕ). paged (encode_page (chain x b).first []) (last_split x.max_bucket b) n b (flags_of x b))
      (next-first x (chain x b).more)
  page-image b (suc i) h k =
      let n : ℕ = (get_or (chain x b).more i no_page).bit in
      ap (encode_block x) (page-block b i k)
      ∙ role-at (block_of_bit x n) (bit_page n) ((page-made b i k).1, refl)
      ∙ image-bit n (page-made b i k).0
      ∙ ap overflow_image (find-chain x 0 x.chains b i (omega (arith, l.whole)) k l.once)
      ∙ ap (λ (d : ℕ). overflow_image (some (linked_at x d (bucket_block x.spares d) (chain x b).more i)))
      (omega arith)
