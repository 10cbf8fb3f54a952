-- A cut of a pair that does not stand in the chain changes nothing.
use Rattle.std.specs.Prelude.{◌≡◌, Bool, false, ℕ, ◌+◌}
use Rattle.std.proofs.Common.{sym, ◌∙◌, arith}
use Rattle.std.proofs.Math.Path.{ap}
use Rattle.lists.specs.Lists.{any, tally}
use Rattle.lists.specs.ListsLaws.{tally-append, any-no}
use Rattle.page.specs.declared.Pair.{Pair}
use Rattle.page.specs.Pair.{is}
use Rattle.model.specs.Index.{Chain, Index, on_pages, chain, entries_at, set_chain}
use Rattle.model.specs.Pages.{without, cut}
use Rattle.model.specs.WellFormed.{Laid}
use Rattle.model.specs.ChainLaws.{thin-none, pages-none}
use Rattle.model.specs.StandLaws.{set_back}
use Rattle.frame.specs.CutLaws.{frees-none}
use Rattle.std.specs.Prelude.{None}
use Rattle.removal.specs.Freeing.{freed_if, freed_at}

module _ (x : Index) (l : Laid x) (b : ℕ) (p : Pair) (none : any (is p) (entries_at x b) ≡ false) where
  parts : tally (is p) (chain x b).first + tally (is p) (on_pages (chain x b).more) ≡ 0
  parts = sym (tally-append (is p) (chain x b).first (on_pages (chain x b).more)) ∙ any-no (is p) (entries_at x b) none

  pub cut-none : cut p b x ≡ x
  unfolding cut
  cut-none =
      let a = thin-none p (chain x b).first (omega (arith, parts)) in
      let e = pages-none p (chain x b).more (l.pages b).more (omega (arith, parts)) in
      let c : without p (chain x b) ≡ chain x b = λ i. record { first = a i; more = e i } in
      ap (λ (c : Chain). set_chain x x.spares b c) c ∙ set_back x b

  pub freed-nothing : None ≡ freed_at x b p
  freed-nothing =
      let gs = (chain x b).more in
      sym (ap (λ (e : Bool). freed_if e gs p)
      (frees-none p gs (omega (arith, parts))))
