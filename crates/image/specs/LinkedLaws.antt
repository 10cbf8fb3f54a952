-- The overflow pages with their links are those of the chains, each found by its bit.
use Rattle.std.specs.Prelude.{◌≡◌, refl, Bool, true, false, List, [], ◌∷◌, map, ℕ, zero, suc, ◌+◌, ◌≤◌, ◌<◌, eqb, length, get_or}
use Rattle.std.proofs.Common.{sym, ap, subst, arith, eq-eqb, ne_eqb}
use Rattle.std.proofs.Math.Option.{Option, some}
use Rattle.lists.specs.Lists.{b2n, tally, find, bind, Each}
use Rattle.lists.specs.ListsLaws.{tally-append, each-zip}
use Rattle.address.specs.Address.{point, bucket_block, bit_block}
use Rattle.model.specs.Index.{Page, Chain, no_chain, Index}
use Rattle.model.specs.Pages.{bits_of}
use Rattle.model.specs.WellFormed.{uses}
use Rattle.image.specs.Layout.{LinkedPage, linked_of, linked_from, linked_pages}
use Rattle.lists.specs.TestLaws.{each_left, each_right, zero-each}

-- the page has the overflow bit n
abbrev pub has_bit : ℕ → LinkedPage → Bool
has_bit n g = eqb n g.bit

-- ---- how often a bit stands among them

module _ (sp : List ℕ) (s n : ℕ) where
  tally-linked_of : (b prev : ℕ) (gs : List Page)
      → tally (has_bit n) (linked_of sp s b prev gs) ≡ tally (eqb n) (map (λ (g : Page). g.bit) gs)
  tally-linked_of b prev [] = refl
  tally-linked_of b prev (g ∷ gs) = omega (arith, tally-linked_of b (bit_block sp s g.bit) gs)

  pub tally-linked : (b : ℕ) (cs : List Chain)
      → tally (has_bit n) (linked_from sp s b cs) ≡ tally (eqb n) (bind cs bits_of)
  tally-linked b [] = refl
  tally-linked b (c ∷ cs) =
      simp tally-append (omega (arith, tally-linked_of b (bucket_block sp b) c.more, tally-linked (suc b) cs))

pub linked-uses : (x : Index) (n : ℕ) → tally (has_bit n) (linked_pages x) ≡ uses n x
linked-uses x n = tally-linked x.spares (point x.max_bucket) n 0 x.chains

-- ---- pages of different bits are found by their bits

unfoldable pub Found : List LinkedPage → LinkedPage → Type 0
Found gs g = find (has_bit g.bit) gs ≡ some g

pub found-each : (gs : List LinkedPage) → ((n : ℕ) → tally (has_bit n) gs ≤ 1) → Each (Found gs) gs
unfolding Found
found-each [] u = tt
found-each (g ∷ gs) u = (
  first (eqb g.bit g.bit) (eq-eqb g.bit g.bit refl),
  each-zip (Found gs) (λ (h : LinkedPage). has_bit g.bit h ≡ false) (Found (g ∷ gs)) later gs
      (found-each gs (λ n. omega (arith, u n)))
      (zero-each (has_bit g.bit) gs (omega (arith, u g.bit, ap b2n (eq-eqb g.bit g.bit refl)))),
)
  where
    first : (b : Bool) → b ≡ true
        → Path (Option LinkedPage) (elim b [ true ↦ some g | false ↦ find (has_bit g.bit) gs ]) (some g)
    first b q = rw q

    flip : (a b : ℕ) → eqb a b ≡ false → eqb b a ≡ false
    flip a b h =
        ne_eqb b a (λ e. let k : eqb a b ≡ true = eq-eqb a b (sym e) in let z : ◌≡◌ {A = ℕ} 0 1 = cc in omega arith)

    later : (h : LinkedPage) → find (has_bit h.bit) gs ≡ some h → eqb g.bit h.bit ≡ false
        → find (has_bit h.bit) (g ∷ gs) ≡ some h
    later h p q = at (eqb h.bit g.bit) (flip g.bit h.bit q)
      where
        at : (b : Bool) → b ≡ false
            → Path (Option LinkedPage) (elim b [ true ↦ some g | false ↦ find (has_bit h.bit) gs ]) (some h)
        at b e = rw e p

-- ---- those of one chain

module _ (sp : List ℕ) (s : ℕ) (P : LinkedPage → Type 0) where
  pub each-chain : (i : ℕ) (cs : List Chain) → Each P (linked_from sp s i cs) → (k : ℕ) → k < length cs
      → Each P (linked_of sp s (i + k) (bucket_block sp (i + k)) (get_or cs k no_chain).more)
  each-chain i [] h k l = absurd (omega arith)
  each-chain i (c ∷ cs) h zero l =
      let z : i ≡ i + 0 = omega arith in
      subst (λ (j : ℕ). Each P (linked_of sp s j (bucket_block sp j) c.more)) z
      (each_left P (linked_of sp s i (bucket_block sp i) c.more) (linked_from sp s (suc i) cs) h)
  each-chain i (c ∷ cs) h (suc k) l =
      let z : suc i + k ≡ i + suc k = omega arith in
      subst (λ (j : ℕ). Each P (linked_of sp s j (bucket_block sp j) (get_or cs k no_chain).more)) z
      (each-chain (suc i) cs
      (each_right P (linked_of sp s i (bucket_block sp i) c.more) (linked_from sp s (suc i) cs) h) k (omega arith))
