-- What a cut writes where it leaves no overflow page empty: the page without the pair.
use Rattle.std.specs.Prelude.{◌≡◌, Bool, true, false, cond, not, ◌&&◌, ◌||◌, ℕ, suc, ◌≤◌, ◌<◌}
use Rattle.std.proofs.Math.Path.{refl, ap, subst₂}
use Rattle.std.proofs.Common.{◌∙◌, arith, lt-ltb}
use mathlib.Core.List.{List, [], ◌∷◌, map}
use Rattle.std.proofs.Math.ListN.{length, get_or, length-map, get_or-map}
use Rattle.lists.specs.Lists.{tally, Each}
use Rattle.lists.specs.ListsLaws.{any-no}
use Rattle.address.specs.Address.{bucket_block}
use Rattle.page.specs.declared.Pair.{Pair}
use Rattle.page.specs.declared.Entry.{Entry}
use Rattle.page.specs.Pair.{is}
use Rattle.model.specs.Index.{Page, Chain, Index, chain, entries_at}
use Rattle.model.specs.Pages.{thin_entries, thin, in_use, without, cut}
use Rattle.model.specs.WellFormed.{MoreOk, Laid}
use Rattle.model.specs.ChainLaws.{cut_more, thin-none}
use Rattle.model.proofs.LaidLaws.{cut-laid}
use Rattle.model.proofs.MachineLaws.{never}
use Rattle.image.specs.Layout.{encode_block}
use Rattle.store.specs.Flags.{no_link}
use Rattle.frame.specs.Frame.{block_of_bit, blocks_after, chain_blocks, page_block, entries_after, page_entries}
use Rattle.frame.specs.Frame.{page_with, on_page, frees, frees_at}
use Rattle.frame.specs.PagesLaws.{set-image}

-- ---- no page is left empty

module _ (x : Index) (p : Pair) where
  stays-used : (gs : List Page) → Each MoreOk gs → frees p gs ≡ false → cut_more p gs ≡ map (thin p) gs
  stays-used [] o f = refl
  stays-used (g ∷ gs) o f = go (on_page p g) refl (in_use (thin p g)) refl f (stays-used gs o.1)
    where
      go : (a : Bool) → on_page p g ≡ a → (u : Bool) → in_use (thin p g) ≡ u → a && not u || frees p gs ≡ false
          → (frees p gs ≡ false → cut_more p gs ≡ map (thin p) gs)
          → cond u (thin p g ∷ cut_more p gs) (cut_more p gs) ≡ thin p g ∷ map (thin p) gs
      go a e true k f ih = ap (λ (r : List Page). thin p g ∷ r) (ih (rest a f))
        where
          rest : (a : Bool) → a && false || frees p gs ≡ false → frees p gs ≡ false
          rest true f = f
          rest false f = f
      go true e false k f ih = never (cc)
      go false e false k f ih =
          let t : in_use (thin p g) ≡ true =
          ap (λ (es : List Entry). in_use (record { bit = g.bit; entries = es }))
          (thin-none p g.entries (any-no (is p) g.entries e))
          ∙ lt-ltb 0 (length g.entries) o.0.used in
          never (cc)

  thin-blocks : (gs : List Page) → blocks_after x (map (thin p) gs) ≡ blocks_after x gs
  thin-blocks [] = refl
  thin-blocks (g ∷ gs) = ap (λ (r : List ℕ). block_of_bit x g.bit ∷ r) (thin-blocks gs)

  thin-entries : (gs : List Page) → entries_after (map (thin p) gs) ≡ map (thin_entries p) (entries_after gs)
  thin-entries [] = refl
  thin-entries (g ∷ gs) = ap (λ (r : List (List Entry)). thin_entries p g.entries ∷ r) (thin-entries gs)

module _ (x : Index) (l : Laid x) (b : ℕ) (fits : b < length x.chains) (p : Pair)
    (once : tally (is p) (entries_at x b) ≤ 1) where
  abbrev c : Chain
  c = chain x b

  abbrev js : List ℕ
  js = chain_blocks x b c

  abbrev y : Index
  y = cut p b x

  laid : Laid y
  laid = cut-laid x l b fits p

  -- no page is left empty: every page is the same without the pair
  pub thin-image : frees_at x b p ≡ false → (i : ℕ) → i ≤ length (chain x b).more
      → encode_block (cut p b x) (page_block x b i)
      ≡ page_with x b (chain_blocks x b (chain x b)) i (thin_entries p (page_entries x b i)) (page_block x b (suc i))
  unfolding cut
  thin-image f i h =
      subst₂ (λ (ks : List ℕ) (es : List Entry). encode_block y (get_or ks i no_link)
      ≡ page_with x b ks i es (get_or ks (suc i) no_link))
      (ap (λ (r : List ℕ). bucket_block x.spares b ∷ r) (ap (blocks_after x) used ∙ thin-blocks x p c.more))
      (ap (λ (ess : List (List Entry)). get_or (thin_entries p c.first ∷ ess) i [])
      (ap entries_after used ∙ thin-entries x p c.more)
      ∙ get_or-map (thin_entries p) (c.first ∷ entries_after c.more) i [])
      (set-image x x.spares b fits (without p c) laid refl i
      (omega (arith, h, ap length used, length-map c.more (thin p))))
    where
      used : cut_more p (chain x b).more ≡ map (thin p) (chain x b).more
      used = stays-used x p (chain x b).more (l.pages b).more f
