-- The bytes of a well-formed index pass every check and rule.
use Rattle.std.specs.Prelude.{◌≡◌, refl, Bool, true, ◌&&◌, List, ℕ, suc, ◌-◌, ◌≤◌, get_or, replicate}
use Rattle.std.proofs.Common.{sym, ◌∙◌, arith, drop_at}
use Rattle.std.proofs.Math.Path.{ap, ap₂}
use Rattle.std.proofs.Math.Dec.{leb, eqb}
use Rattle.std.proofs.Math.ListN.{length, get_or-append}
use borrow.Author.Tests.{eq-eqb, le-leb}
use Rattle.lists.specs.Lists.{all, up_from}
use Rattle.lists.specs.ListsLaws.{and_both}
use Rattle.lists.specs.RunLaws.{all-put}
use Rattle.lists.specs.Bytes.{all_zero}
use Rattle.lists.specs.BytesLaws.{replicate-all_zero}
use Rattle.lists.specs.Block.{block}
use Rattle.address.specs.Address.{high_mask, low_mask, last_split, point, made}
use Rattle.address.specs.AgreeLaws.{made-same, spares-point}
use Rattle.page.specs.declared.Entry.{Entry}
use Rattle.store.specs.Store.{prev_at}
use Rattle.model.specs.Index.{Index, entries_at, bucket, new_bucket, old_bucket}
use Rattle.model.specs.Held.{count}
use Rattle.model.specs.WellFormed.{Laid, WF}
use Rattle.image.specs.declared.Meta.{Meta}
use Rattle.image.specs.Layout.{meta_front, padded, meta_of, encode}
use Rattle.store.specs.Flags.{no_link}
use Rattle.image.specs.Decode.{max_at, block_of}
use Rattle.image.specs.Rules.{
  front_ok,
  spares_ok,
  meta_ok,
  distinct,
  placed,
  copied,
  rule1,
  rule2,
  rule5,
  rule7,
  rule8,
  sound,
  verdict,
}
use Rattle.image.specs.PagedLaws.{paged-parts}
use Rattle.image.proofs.MetaLaws.{front_ok-meta_front}
use Rattle.image.proofs.BoundLaws.{length-meta, meta-fits}
use Rattle.image.proofs.PairRuleLaws.{placed-distinct, placed-all, placed-copied}
use Rattle.image.specs.VerdictLaws.{Passes, passes-verdict}
use Rattle.image.proofs.EncodeLaws.{blocks-encode, meta-block, checked-encode}
use Rattle.image.proofs.EncodePagesLaws.{meta-encode, max-encode, block_of-encode, chain-is}
use Rattle.image.proofs.EncodeDecodeLaws.{decode-encode}
use Rattle.image.proofs.EncodeFitsLaws.{rule3-encode}
use Rattle.image.proofs.EncodeChainsLaws.{rule4-encode, pages-encode}
use Rattle.image.proofs.EncodeBitmapLaws.{rule6-encode}

module _ (x : Index) (w : WF x) where
  abbrev l : Laid x
  l = w.laid

  abbrev e : List ℕ
  e = encode x

  abbrev s : ℕ
  s = point x.max_bucket

  -- ---- rules 1 and 2

  rule1-encode : rule1 e ≡ true
  unfolding rule1 meta_of
  rule1-encode =
      ap₂ front_ok (blocks-encode x l)
      (paged-parts (meta_front (meta_of x)) (length-meta x l) no_link no_link no_link 8 (block e 0) (meta-block x l))
      ∙ front_ok-meta_front (meta_of x) _ (meta-fits x w)

  padded-at : (i : ℕ) → i ≤ s → get_or (padded x.spares) i 0 ≡ get_or x.spares i 0
  unfolding padded
  padded-at i h =
      get_or-append x.spares (replicate (16 - length x.spares) 0) 0 i (omega (arith, l.spares.points))

  spares-encode : spares_ok s (padded x.spares) ≡ true
  unfolding spares_ok padded
  spares-encode =
      let p = spares-point x.spares s x.size l.spares in
      and_both _ _ (eq-eqb _ _ (padded-at 0 (omega arith) ∙ l.spares.zeroth))
      (and_both _ _ (le-leb 1 (get_or (padded x.spares) 1 0) (omega (arith, padded-at 1 p, l.spares.bitmap)))
      (and_both _ _
      (all-put (λ i. leb (get_or (padded x.spares) i 0) (get_or (padded x.spares) (suc i) 0)) 1 (s - 1) (λ i a b.
      le-leb (get_or (padded x.spares) i 0) (get_or (padded x.spares) (suc i) 0)
      (omega (arith, padded-at i (omega arith), padded-at (suc i) (omega arith), l.spares.rising i (omega arith)))))
      (ap all_zero (drop_at x.spares (replicate (16 - length x.spares) 0) (suc s) l.spares.points)
      ∙ replicate-all_zero (16 - length x.spares))))

  rule2-encode : rule2 e ≡ true
  unfolding rule2 meta_ok meta_of
  rule2-encode =
      ap₂ meta_ok (blocks-encode x l) (meta-encode x w)
      ∙ and_both _ _ (and_both _ _ (le-leb 1 x.fill l.fill_low) (le-leb x.fill 40 l.fill_high))
      (and_both _ _ (le-leb 1 x.max_bucket l.two)
      (and_both _ _ (eq-eqb (high_mask x.max_bucket) _ refl)
      (and_both _ _ (eq-eqb (low_mask x.max_bucket) _ refl)
      (and_both _ _ (eq-eqb s _ refl)
      (and_both _ _ spares-encode
      (le-leb (made (padded x.spares) s) x.size
      (omega (arith, made-same (padded x.spares) x.spares s padded-at, l.spares.room))))))))

  -- ---- rules 5, 7 and 8

  rule5-encode : rule5 e ≡ true
  unfolding rule5
  rule5-encode =
      and_both _ _ (pages-encode x w)
      (ap₂ (λ (y : Index) (m : ℕ). all (λ b. distinct (entries_at y b)) (up_from 0 (suc m)))
      (decode-encode x w) (max-encode x w)
      ∙ placed-distinct x l.whole w.placed)

  abbrev place_rule : Index → ℕ → Bool
  place_rule y b =
      all (λ (f : Entry). placed y.job (new_bucket y) (old_bucket y) (bucket y f.pair) b) (entries_at y b)

  rule7-encode : rule7 e ≡ true
  unfolding rule7
  rule7-encode =
      ap₂ (λ (y : Index) (m : ℕ).
      all (place_rule y) (up_from 0 (suc m)) && copied y.job (entries_at y (new_bucket y)) (entries_at y (old_bucket y)))
      (decode-encode x w) (max-encode x w)
      ∙ and_both _ _ (placed-all x l.whole w.placed) (placed-copied x l.whole w.placed)

  rule8-encode : rule8 e ≡ true
  unfolding rule8 meta_of
  rule8-encode =
      and_both _ _
      (all-put (λ b. eqb (prev_at (block e (block_of e b))) (last_split (max_at e) b)) 0 (suc (max_at e)) (λ b a h.
      eq-eqb _ _
      (ap (λ (k : ℕ). prev_at (block e k)) (block_of-encode x w b)
      ∙ (chain-is x w b (omega (arith, max-encode x w))).first.prev
      ∙ ap (λ (m : ℕ). last_split m b) (sym (max-encode x w)))))
      (eq-eqb _ _ (ap (λ (m : Meta). m.count) (meta-encode x w) ∙ ap count (sym (decode-encode x w))))

  -- ---- the verdict

  pub passes-encode : Passes (encode x)
  passes-encode =
      record {
        checks = λ k h. checked-encode x l k (omega (arith, blocks-encode x l));
        one = rule1-encode;
        two = rule2-encode;
        three = rule3-encode x w;
        four = rule4-encode x w;
        five = rule5-encode;
        six = rule6-encode x w;
        seven = rule7-encode;
        eight = rule8-encode;
      }

  pub verdict-encode : verdict (encode x) ≡ sound x
  verdict-encode = passes-verdict (encode x) passes-encode ∙ ap sound (decode-encode x w)
