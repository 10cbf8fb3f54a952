-- What a cut does to the bitmap's bits and to the meta block's fields.
use Rattle.std.specs.Prelude.{◌≡◌, Bool, true, false, cond, not, ℕ, ◌≤◌, ◌<◌, eqb, length, get_or}
use Rattle.std.proofs.Math.Path.{refl}
use Rattle.std.proofs.Common.{sym, ap, ◌∙◌, arith}
use Rattle.lists.specs.Lists.{b2n, any, tally}
use Rattle.lists.specs.ListsLaws.{tally-append, any-no}
use Rattle.page.specs.declared.Pair.{Pair}
use Rattle.page.specs.Pair.{is}
use Rattle.model.specs.Index.{Index, on_pages, chain, entries_at, top_bit}
use Rattle.model.specs.Pages.{first_free, cut}
use Rattle.model.specs.Held.{count}
use Rattle.model.specs.WellFormed.{Laid}
use Rattle.model.proofs.LaidLaws.{cut-laid}
use Rattle.model.proofs.MachineLaws.{never}
use Rattle.image.specs.Layout.{meta_of, map_bit}
use Rattle.image.proofs.BoundLaws.{top_small}
use Rattle.frame.specs.Frame.{more_place, frees_at}
use Rattle.frame.specs.ImagesLaws.{no_page, page-made}
use Rattle.frame.specs.CutLaws.{frees-none}
use Rattle.frame.specs.FreedLaws.{freed-map}
use Rattle.frame.specs.MetaLaws.{thin-free}
use Rattle.plan.specs.Fields.{fields_after}
use Rattle.std.specs.Prelude.{Option, Some, None}
use Rattle.removal.specs.Freeing.{freed_if, freed_at, clears, lowers, Below}
use Rattle.removal.specs.PairLaws.{pair-at}
use Rattle.removal.specs.CutLaws.{freed-some}
use Rattle.removal.specs.FirstFreeLaws.{first-freed}

pub clears-same : (f : Option ℕ) (bit bit' : ℕ → ℕ) → ((i : ℕ) → bit i ≡ bit' i) → (i : ℕ)
    → clears f bit i ≡ clears f bit' i
clears-same (Some n) bit bit' e i = ap (cond (eqb i n) 0) (e i)
clears-same None bit bit' e i = e i

module _ (x : Index) (l : Laid x) (b : ℕ) (fits : b < length x.chains) (p : Pair)
    (once : tally (is p) (entries_at x b) ≤ 1) where
  pub cut-bits : (i : ℕ) → map_bit (cut p b x) i ≡ clears (freed_at x b p) (map_bit x) i
  cut-bits i = go (frees_at x b p) refl
    where
      go : (t : Bool) → frees_at x b p ≡ t → map_bit (cut p b x) i
          ≡ clears (freed_if t (chain x b).more p) (map_bit x) i
      go true e = freed-map x l b fits p once e i
      go false e = ap (λ (f : Bool). b2n (not f)) (thin-free x l b fits p once e i)

  -- a page that is left empty had the pair
  freed-stands : frees_at x b p ≡ true → any (is p) (entries_at x b) ≡ true
  freed-stands e = go (any (is p) (entries_at x b)) refl
    where
      go : (t : Bool) → any (is p) (entries_at x b) ≡ t → t ≡ true
      go true q = refl
      go false q =
          let gs = (chain x b).more in
          let f : frees_at x b p ≡ false =
          frees-none p gs
          (omega (arith, any-no (is p) (entries_at x b) q, tally-append (is p) (chain x b).first (on_pages gs))) in
          never (cc)

  freed-made : (n : ℕ) → freed_at x b p ≡ Some n → n < top_bit x
  freed-made n e =
      let gs = (chain x b).more in
      let i : ℕ = (get_or gs (more_place p gs) no_page).bit in
      let g = freed-some x b p n e in
      let at = pair-at p b (chain x b) once (freed-stands g) in
      let made = page-made x l b (more_place p gs) (omega (arith, at.inside, at.over g)) in
      let q : Some i ≡ Some n = sym (ap (λ (t : Bool). freed_if t gs p) g) ∙ e in
      let r : i ≡ n = cc in
      omega (arith, made.1)

  pub cut_below : Below (freed_at x b p)
  cut_below = go (freed_at x b p) refl
    where
      go : (f : Option ℕ) → freed_at x b p ≡ f → Below f
      go (Some n) e = omega (arith, freed-made n e, top_small x l)
      go None e = tt

  pub cut-free : first_free (cut p b x) ≡ lowers (freed_at x b p) (first_free x)
  cut-free =
      first-freed x (cut p b x) l (cut-laid x l b fits p) (unfold cut in refl) (freed_at x b p) cut-bits freed-made

  pub cut-meta : meta_of (cut p b x) ≡ fields_after (meta_of x) (count (cut p b x)) (first_free (cut p b x))
  unfolding meta_of cut
  cut-meta = refl
