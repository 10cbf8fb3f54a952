-- The blocks that a cut alters.
use Rattle.std.specs.Prelude.{◌≡◌, refl, ◌≢◌, Bool, true, false, cond, List, [], map, ℕ, suc, ◌+◌, ◌≤◌, ◌<◌, eqb, length}
use Rattle.std.proofs.Common.{sym, ap, ◌∙◌, subst, arith}
use Rattle.lists.specs.Lists.{any, tally}
use Rattle.lists.specs.ListsLaws.{tally-append, any-no, any-yes}
use Rattle.address.specs.Address.{bucket_block}
use Rattle.page.specs.declared.Pair.{Pair}
use Rattle.page.specs.Pair.{is}
use Rattle.model.specs.Index.{Page, Chain, Index, on_pages, chain, entries_at}
use Rattle.model.specs.Pages.{without, cut}
use Rattle.model.specs.WellFormed.{ChainOk, Laid, WF}
use Rattle.model.specs.ChainLaws.{cut_more, thin-none, pages-none}
use Rattle.model.proofs.HeldLaws.{is-parts}
use Rattle.image.specs.Layout.{encode_block}
use Rattle.lists.specs.TestLaws.{each_left, each_right}
use Rattle.frame.specs.Frame.{Apart, map_block, page_block, more_place, pair_place, frees_at, map_blocks, pair_blocks}
use Rattle.frame.specs.Frame.{cut_blocks}
use Rattle.frame.specs.ChainLaws.{page_of_bit, Unaltered, frame-chain, free-kept}
use Rattle.frame.specs.CutLaws.{altered, alters, frees-none, next-cut, bits-cut, linked-cut}

module _ (x : Index) (b : ℕ) (fits : b < length x.chains) (p : Pair) (o : ChainOk (chain x b))
    (once : tally (is p) (entries_at x b) ≤ 1) where
  abbrev c : Chain
  c = chain x b

  split : tally (is p) (entries_at x b) ≡ tally (is p) (chain x b).first + tally (is p) (on_pages (chain x b).more)
  split = tally-append (is p) (chain x b).first (on_pages (chain x b).more)

  -- where the pair stands, by whether that is on the bucket page
  place : (a : Bool) → any (is p) (chain x b).first ≡ a
      → page_block x b (pair_place p (chain x b)) ≡ page_block x b (cond a 0 (suc (more_place p (chain x b).more)))
  place a e = ap (λ (a : Bool). page_block x b (cond a 0 (suc (more_place p (chain x b).more)))) e

  module _ (k : ℕ) (nz : k ≢ 0) (nm : map_block x ≡ k → frees_at x b p ≡ false) where
    on-first : tally (is p) (on_pages (chain x b).more) ≡ 0 → k ≢ bucket_block x.spares b
        → Unaltered x b k (without p (chain x b))
    on-first z ne =
        let same : cut_more p (chain x b).more ≡ (chain x b).more = pages-none p (chain x b).more o.more z in
        record {
          other = nz;
          bucket_page = λ q. absurd (ne (sym q));
          bitmap =
              λ q. free-kept x b (without p (chain x b)) fits
              (λ n. ap (λ (gs : List Page). tally (eqb n) (map (λ (g : Page). g.bit) gs)) same);
          overflow = λ n q. ap (λ (gs : List Page). page_of_bit x b (suc n) (record { first = []; more = gs })) same;
        }

    on-more : tally (is p) (chain x b).first ≡ 0 → Apart k (alters x p (bucket_block x.spares b) (chain x b).more)
        → Unaltered x b k (without p (chain x b))
    on-more z ap' =
        let gs : List Page = (chain x b).more in
        let less : tally (is p) (on_pages gs) ≤ 1 = omega (arith, split, once) in
        let B : ℕ = bucket_block x.spares b in
        record {
          other = nz;
          bucket_page =
              λ q. (
                thin-none p (chain x b).first z,
                next-cut x p B gs o.more less
                    (subst (λ (j : ℕ). Apart j (alters x p B gs)) (sym q) ap'),
              );
          bitmap =
              λ q. free-kept x b (without p (chain x b)) fits
              (λ n. ap (tally (eqb n)) (bits-cut x p gs o.more less (nm q)));
          overflow =
              λ n q. linked-cut x p (suc n) b B gs o.more less
              (subst (λ (j : ℕ). Apart j (alters x p B gs)) (sym q) ap');
        }

    pub unaltered-cut : Apart k (pair_blocks (frees_at x b p) x b (chain x b) p) → Unaltered x b k (without p (chain x b))
    unaltered-cut h = go (any (is p) (chain x b).first) refl
      where
        go : (a : Bool) → any (is p) (chain x b).first ≡ a → Unaltered x b k (without p (chain x b))
        go true e = on-first z (λ q. stay.0 (q ∙ sym (place true e)))
          where
            z : tally (is p) (on_pages (chain x b).more) ≡ 0
            z = omega (arith, split, once, any-yes (is p) (chain x b).first e)

            stay : Apart k (pair_blocks false x b (chain x b) p)
            stay = subst (λ (f : Bool). Apart k (pair_blocks f x b (chain x b) p)) (frees-none p (chain x b).more z) h
        go false e = on-more (any-no (is p) (chain x b).first e) (same (frees_at x b p) h)
          where
            same : (f : Bool) → Apart k (pair_blocks f x b (chain x b) p)
                → Apart k (altered x p f (bucket_block x.spares b) (more_place p (chain x b).more) (chain x b).more)
            same true h = h
            same false h = ((λ q. h.0 (q ∙ sym (place false e))), tt)

-- ---- the whole cut

-- the bitmap's block is not among them
no-map : (x : Index) (k : ℕ) (f : Bool) → Apart k (map_blocks f x) → map_block x ≡ k → f ≡ false
no-map x k true a q = absurd (a.0 (sym q))
no-map x k false a q = refl

pub stands-once : (x : Index) → WF x → (p : Pair) (b : ℕ) → tally (is p) (entries_at x b) ≤ 1
stands-once x w p b = omega (arith, is-parts p (entries_at x b), (w.placed p).once b)

pub frame-cut : (x : Index) → Laid x → (b : ℕ) → b < length x.chains → (p : Pair) → tally (is p) (entries_at x b) ≤ 1
    → (k : ℕ) → Apart k (cut_blocks x b p) → encode_block (cut p b x) k ≡ encode_block x k
unfolding cut
frame-cut x l b fits p once k a =
    let f : Bool = frees_at x b p in
    frame-chain x l b fits (without p (chain x b)) k
    (unaltered-cut x b fits p (l.pages b) once k a.0
    (no-map x k f (each_left (λ (j : ℕ). k ≢ j) (map_blocks f x) (pair_blocks f x b (chain x b) p) a.1))
    (each_right (λ (j : ℕ). k ≢ j) (map_blocks f x) (pair_blocks f x b (chain x b) p) a.1))
