-- The pages of an index stand in blocks of their own.
use Rattle.std.specs.Prelude.{◌≡◌, refl, ◌≢◌, List, [], ◌∷◌, map, ℕ, zero, suc, ◌+◌, ◌≤◌, ◌<◌, eqb, length, get_or}
use Rattle.std.proofs.Common.{sym, ap, ◌∙◌, subst, arith}
use Rattle.std.proofs.Math.Decide.{ℕ_discrete}
use Rattle.lists.specs.Lists.{b2n, tally, bind}
use Rattle.lists.specs.ListsLaws.{eqb_yes, tally-append}
use Rattle.address.specs.Address.{point, bucket_block}
use Rattle.address.specs.BlockLaws.{point-pos, bit-pos, bucket-pos, bit-apart, bit-bucket-apart, bucket-apart}
use Rattle.model.specs.Index.{Page, Chain, Index, no_chain, chain, top_bit}
use Rattle.model.specs.Pages.{bits_of}
use Rattle.model.specs.WellFormed.{uses, Laid}
use Rattle.frame.specs.Frame.{block_of_bit, map_block, page_block}
use Rattle.image.proofs.BoundLaws.{max-under}
use Rattle.frame.specs.ImagesLaws.{no_page, bits-at, stands, top_one, page-made, page-block}

-- ---- a bit that stands twice is counted twice

abbrev bits_at : List Page → ℕ → ℕ
bits_at gs i = (get_or gs i no_page).bit

once : (n : ℕ) (gs : List Page) (i : ℕ) → i < length gs → bits_at gs i ≡ n
    → 1 ≤ tally (eqb n) (map (λ (g : Page). g.bit) gs)
once n gs i h p = subst (λ (m : ℕ). 1 ≤ tally (eqb m) (map (λ (g : Page). g.bit) gs)) p (stands gs i h)

twice : (n : ℕ) (gs : List Page) (i j : ℕ) → i < length gs → j < length gs → i ≢ j → bits_at gs i ≡ n → bits_at gs j ≡ n
    → 2 ≤ tally (eqb n) (map (λ (g : Page). g.bit) gs)
twice n [] i j h k ne p q = absurd (omega arith)
twice n (g ∷ gs) zero zero h k ne p q = absurd (ne refl)
twice n (g ∷ gs) zero (suc j) h k ne p q =
    omega (arith, ap b2n (eqb_yes n g.bit (sym p)), once n gs j (omega arith) q)
twice n (g ∷ gs) (suc i) zero h k ne p q =
    omega (arith, ap b2n (eqb_yes n g.bit (sym q)), once n gs i (omega arith) p)
twice n (g ∷ gs) (suc i) (suc j) h k ne p q =
    omega (arith, twice n gs i j (omega arith) (omega arith) (λ r. ne (ap suc r)) p q)

in_both : (n : ℕ) (cs : List Chain) (b d : ℕ) → b ≢ d
    → tally (eqb n) (bits_of (get_or cs b no_chain)) + tally (eqb n) (bits_of (get_or cs d no_chain))
    ≤ tally (eqb n) (bind cs bits_of)
in_both n [] b d ne = omega arith
in_both n (c ∷ cs) zero zero ne = absurd (ne refl)
in_both n (c ∷ cs) zero (suc d) ne = simp tally-append (omega (arith, bits-at (eqb n) cs d))
in_both n (c ∷ cs) (suc b) zero ne = simp tally-append (omega (arith, bits-at (eqb n) cs b))
in_both n (c ∷ cs) (suc b) (suc d) ne = simp tally-append (omega (arith, in_both n cs b d (λ r. ne (ap suc r))))

-- ---- blocks

module _ (x : Index) (l : Laid x) where
  abbrev s : ℕ
  s = point x.max_bucket

  abbrev Placed : (b i : ℕ) → Type 0
  Placed b i = (b ≤ x.max_bucket) × (i ≤ length (chain x b).more)

  bit-eq : (m n : ℕ) → m < top_bit x → n < top_bit x → block_of_bit x m ≡ block_of_bit x n → m ≡ n
  bit-eq m n h k e = go (ℕ_discrete m n)
    where
      go : Dec (m ≡ n) → m ≡ n
      go (yes q) = q
      go (no q) = absurd (bit-apart x.spares s x.size l.spares (point-pos x.max_bucket) m n h k q e)

  bucket-eq : (b d : ℕ) → b ≤ x.max_bucket → d ≤ x.max_bucket → bucket_block x.spares b ≡ bucket_block x.spares d
      → b ≡ d
  bucket-eq b d h k e = go (ℕ_discrete b d)
    where
      go : Dec (b ≡ d) → b ≡ d
      go (yes q) = q
      go (no q) =
          absurd
          (bucket-apart x.spares s x.size l.spares (point-pos x.max_bucket) b d
          (omega (arith, max-under x l))
          (omega (arith, max-under x l)) q e)

  bit-bucket : (m b : ℕ) → m < top_bit x → b ≤ x.max_bucket → block_of_bit x m ≢ bucket_block x.spares b
  bit-bucket m b h k =
      bit-bucket-apart x.spares s x.size l.spares (point-pos x.max_bucket) m b h
      (omega (arith, max-under x l))

  -- the same block is the same page
  pub page-same : (b i d j : ℕ) → b ≤ x.max_bucket → i ≤ length (chain x b).more → d ≤ x.max_bucket
      → j ≤ length (chain x d).more
      → page_block x b i ≡ page_block x d j → (b ≡ d) × (i ≡ j)
  page-same b zero d zero hb hi hd hj e = (bucket-eq b d hb hd e, refl)
  page-same b zero d (suc j) hb hi hd hj e =
      absurd (bit-bucket _ b (page-made x l d j hj).1 hb (sym (page-block x l d j hj) ∙ sym e))
  page-same b (suc i) d zero hb hi hd hj e =
      absurd (bit-bucket _ d (page-made x l b i hi).1 hd (sym (page-block x l b i hi) ∙ e))
  page-same b (suc i) d (suc j) hb hi hd hj e = go (ℕ_discrete b d) (ℕ_discrete i j)
    where
      n : ℕ
      n = bits_at (chain x b).more i

      q : bits_at (chain x d).more j ≡ bits_at (chain x b).more i
      q =
          bit-eq _ _ (page-made x l d j hj).1 (page-made x l b i hi).1
          (sym (page-block x l d j hj) ∙ sym e ∙ page-block x l b i hi)

      go : Dec (b ≡ d) → Dec (i ≡ j) → (b ≡ d) × (suc i ≡ suc j)
      go (yes r) (yes t) = (r, ap suc t)
      go (yes r) (no t) =
          absurd
          (omega (
            arith,
            twice n (chain x b).more i j hi (subst (λ (a : ℕ). j < length (chain x a).more) (sym r) hj) t refl
                (ap (λ (a : ℕ). bits_at (chain x a).more j) r ∙ q),
            bits-at (eqb n) x.chains b,
            l.once n,
          ))
      go (no r) t =
          absurd
          (omega (
            arith,
            once n (chain x b).more i hi refl,
            once n (chain x d).more j hj q,
            in_both n x.chains b d r,
            l.once n,
          ))

  -- and no meta block, no bitmap, and no block of another bit
  pub page-meta : (b i : ℕ) → i ≤ length (chain x b).more → page_block x b i ≢ 0
  page-meta b zero h e = omega (arith, e, bucket-pos x.spares s x.size l.spares (point-pos x.max_bucket) b)
  page-meta b (suc i) h e =
      omega (
        arith,
        e,
        page-block x l b i h,
        bit-pos x.spares s x.size l.spares (point-pos x.max_bucket)
            (bits_at (chain x b).more i),
      )

  pub page-unused : (b i n : ℕ) → b ≤ x.max_bucket → i ≤ length (chain x b).more → n < top_bit x → uses n x ≡ 0
      → page_block x b i ≢ block_of_bit x n
  page-unused b zero n hb hi hn u e = bit-bucket n b hn hb (sym e)
  page-unused b (suc i) n hb hi hn u e =
      let q : bits_at (chain x b).more i ≡ n =
      bit-eq _ n (page-made x l b i hi).1 hn (sym (page-block x l b i hi) ∙ e) in
      omega (arith, once n (chain x b).more i hi q, bits-at (eqb n) x.chains b)

  pub page-map : (b i : ℕ) → b ≤ x.max_bucket → i ≤ length (chain x b).more → page_block x b i ≢ map_block x
  page-map b i hb hi = page-unused b i 0 hb hi (top_one x l) (go (uses 0 x) refl)
    where
      go : (k : ℕ) → uses 0 x ≡ k → uses 0 x ≡ 0
      go zero e = e
      go (suc k) e = absurd (omega (arith, (l.made 0 (omega (arith, e))).0))
