-- Where a pair is found, and that it is held exactly if its held entry is found.
use Rattle.std.proofs.Math.Path.{◌≡◌, refl, sym, ap, ap₂}
use Rattle.std.proofs.Common.{◌∙◌, arith}
use Rattle.std.specs.Prelude.{Bool, ◌||◌, ℕ, ◌+◌, ◌≤◌, Option, Some, None, is_some}
use Rattle.std.specs.Option.{option_or}
use Rattle.std.proofs.Math.Bool.{true, false, cond}
use Rattle.lists.specs.Lists.{b2n, any}
use Rattle.lists.specs.ListsLaws.{eqb_yes, any-yes}
use Rattle.page.specs.declared.Pair.{Pair}
use Rattle.page.specs.Pair.{is}
use Rattle.page.specs.Places.{place_of}
use Rattle.model.specs.Index.{Job, copying, Index, chain, entries_at, bucket, new_bucket, old_bucket}
use Rattle.model.specs.Held.{sources, held}
use Rattle.model.specs.WellFormed.{unmoved_at, moved_at, WF}
use Rattle.model.specs.HeldIn.{held_no, held_in}
use Rattle.model.proofs.HeldLaws.{is-parts, stands-none, held-is}
use Rattle.frame.specs.Frame.{page_block, page_entries, pair_place}
use Rattle.chain.specs.declared.Found.{Found}
use Rattle.chain.specs.Search.{at_slot}
use Rattle.chain.proofs.SearchLaws.{same_slot}
use Rattle.view.specs.declared.Sources.{Sources}
use Rattle.view.specs.Places.{find_at, sources_of, held_by, held_at}
use Rattle.view.specs.SourcesLaws.{entries_by, sources-by, sources-both}

-- ---- in a chain

module _ (x : Index) (b : ℕ) (p : Pair) where
  pub is_some-find_at : is_some (find_at x b p) ≡ any (is p) (entries_at x b)
  unfolding find_at
  is_some-find_at = go (any (is p) (entries_at x b))
    where
      go : (t : Bool) → is_some (cond t (at_slot (page_block x b (pair_place p (chain x b)))
          (place_of p (page_entries x b (pair_place p (chain x b))))) None) ≡ t
      go true = refl
      go false = refl

  -- the pair stands there
  pub record FoundAt (k n : ℕ) : Type 0 where
    pub stands : any (is p) (entries_at x b) ≡ true
    pub block : k ≡ page_block x b (pair_place p (chain x b))
    pub slot : n ≡ place_of p (page_entries x b (pair_place p (chain x b)))

  pub find_at-at : (k n : ℕ) → find_at x b p ≡ at_slot k n → FoundAt k n
  unfolding find_at
  find_at-at k n h = go (any (is p) (entries_at x b)) refl h
    where
      go : (t : Bool) → any (is p) (entries_at x b) ≡ t
          → cond t (at_slot (page_block x b (pair_place p (chain x b)))
          (place_of p (page_entries x b (pair_place p (chain x b))))) None ≡ at_slot k n
          → FoundAt k n
      go true e h =
          let i = pair_place p (chain x b) in
          let same = same_slot (page_block x b i) (place_of p (page_entries x b i)) k n h in
          record { stands = e; block = sym same.0; slot = sym same.1 }
      go false e h = let z : ◌≡◌ {A = ℕ} 0 1 = cc in absurd (omega arith)

  pub find_at-none : find_at x b p ≡ None → any (is p) (entries_at x b) ≡ false
  find_at-none h = sym is_some-find_at ∙ ap is_some h

-- ---- held

is_some-or : (f g : Option Found) → is_some (option_or f g) ≡ is_some f || is_some g
is_some-or (Some f) g = refl
is_some-or None g = refl

module _ (x : Index) (w : WF x) (p : Pair) where
  stands-some : (b : ℕ) → any (is p) (entries_at x b) ≡ true → 1 ≤ unmoved_at x p b + moved_at x p b
  stands-some b e = omega (arith, any-yes (is p) (entries_at x b) e, is-parts p (entries_at x b))

  -- while copying, of a pair of the new bucket
  module _ (j : x.job ≡ copying) (home : bucket x p ≡ new_bucket x) where
    abbrev o : ℕ
    o = old_bucket x

    abbrev n : ℕ
    n = new_bucket x

    number : held_in x p ≡ unmoved_at x p n + (unmoved_at x p o + moved_at x p o)
    unfolding held_in
    number =
        ap (λ (k : Job). held_no k n o (bucket x p) (unmoved_at x p) (moved_at x p)) j
        ∙ rw (eqb_yes (bucket x p) n home)

    either : (a c : Bool) → any (is p) (entries_at x o) ≡ a → any (is p) (entries_at x n) ≡ c → held_in x p ≡ b2n (a || c)
    either true c e f = omega (arith, number, stands-some o e, (w.placed p).fresh j)
    either false true e f =
        omega (
          arith,
          number,
          stands-none x p o e,
          stands-some n f,
          (w.placed p).fresh j,
          (w.placed p).copied j,
        )
    either false false e f = omega (arith, number, stands-none x p o e, stands-none x p n f)

    copying-held : any (is p) (entries_at x (old_bucket x)) || any (is p) (entries_at x (new_bucket x)) ≡ held x p
    copying-held =
        sym (held-is x w p _ (either (any (is p) (entries_at x o)) (any (is p) (entries_at x n)) refl refl))

  -- the held entry is found exactly if the pair is held
  pub is_some-held_at : is_some (held_at x p) ≡ held x p
  unfolding held_at held
  is_some-held_at = go (sources_of x p.hash) refl
    where
      go : (f : Sources) → sources_of x p.hash ≡ f → is_some (held_by x p f) ≡ any (is p) (sources x p.hash)
      go (Sources.Home b) e =
          is_some-find_at x b p
          ∙ ap (any (is p)) (ap (entries_by x) (sym e) ∙ sym (sources-by x p.hash))
      go (Sources.Both new old) e =
          let i = sources-both x p.hash new old e in
          is_some-or (find_at x old p) (find_at x new p)
          ∙ ap₂ (λ (a c : Bool). a || c)
          (is_some-find_at x old p ∙ ap (λ (d : ℕ). any (is p) (entries_at x d)) i.old)
          (is_some-find_at x new p ∙ ap (λ (d : ℕ). any (is p) (entries_at x d)) i.new)
          ∙ copying-held i.job i.home

  pub held_at-none : held_at x p ≡ None → held x p ≡ false
  held_at-none h = sym is_some-held_at ∙ ap is_some h

  pub held_at-some : (f : Found) → held_at x p ≡ Some f → held x p ≡ true
  held_at-some f h = sym is_some-held_at ∙ ap is_some h

-- ---- how code finds it

module _ (x : Index) (p : Pair) where
  pub held-home : (b : ℕ) → sources_of x p.hash ≡ Sources.Home b → find_at x b p ≡ held_at x p
  unfolding held_at
  held-home b e = ap (held_by x p) (sym e)
