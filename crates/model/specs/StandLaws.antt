-- How often entries stand in the chains of an index after one chain was set anew, or after a pair was cut from it.
use Rattle.std.specs.Prelude.{◌≡◌, refl, ◌≢◌, Bool, true, false, not, ◌&&◌, List, ℕ, ◌≤◌, ◌<◌, length}
use Rattle.std.proofs.Common.{ap, ◌∙◌, arith, get_or-set_same, get_or-set_other, set-set}
use Rattle.std.proofs.Math.Decide.{ℕ_discrete}
use Rattle.std.proofs.lemmas.List.{set-get_or}
use Rattle.lists.specs.Lists.{tally}
use Rattle.lists.specs.ListsLaws.{tally-cong}
use Rattle.page.specs.declared.Pair.{Pair}
use Rattle.page.specs.declared.Entry.{Entry}
use Rattle.page.specs.Pair.{same, is}
use Rattle.page.specs.PairLaws.{no_way, same_refl, same-eq}
use Rattle.model.specs.Index.{Chain, Index, entries_in, no_chain, chain, entries_at, set_chain}
use Rattle.model.specs.Pages.{without, cut}
use Rattle.model.specs.TallyLaws.{tally-false}
use Rattle.lists.specs.ListsLaws.{and-false}
use Rattle.model.specs.ChainLaws.{tally-without}

-- ---- a chain set anew

abbrev with_chains : Index → List ℕ → List Chain → Index
with_chains x sp cs =
    record {
      size = x.size;
      fill = x.fill;
      number = x.number;
      max_bucket = x.max_bucket;
      spares = sp;
      job = x.job;
      chains = cs;
    }

-- twice; and as it was
pub set-again : (x : Index) (sp : List ℕ) (b : ℕ) (c d : Chain)
    → set_chain (set_chain x sp b c) sp b d ≡ set_chain x sp b d
set-again x sp b c d = ap (with_chains x sp) (set-set x.chains b c d)

pub set_back : (x : Index) (b : ℕ) → set_chain x x.spares b (chain x b) ≡ x
set_back x b = ap (with_chains x x.spares) (set-get_or x.chains b no_chain)

module _ (x : Index) (sp : List ℕ) (b : ℕ) (c : Chain) (fits : b < length x.chains) where
  pub chain-here : chain (set_chain x sp b c) b ≡ c
  chain-here = get_or-set_same x.chains b c no_chain fits

  pub chain-there : (d : ℕ) → d ≢ b → chain (set_chain x sp b c) d ≡ chain x d
  chain-there d ne = get_or-set_other x.chains b d c no_chain ne

  pub number-here : (t : Entry → Bool) → tally t (entries_at (set_chain x sp b c) b) ≡ tally t (entries_in c)
  number-here t = ap (λ (k : Chain). tally t (entries_in k)) chain-here

  pub number-there : (t : Entry → Bool) (d : ℕ) → d ≢ b
      → tally t (entries_at (set_chain x sp b c) d) ≡ tally t (entries_at x d)
  number-there t d ne = ap (λ (k : Chain). tally t (entries_in k)) (chain-there d ne)

  pub number_same : (t : Entry → Bool) → tally t (entries_in c) ≡ tally t (entries_at x b)
      → (d : ℕ) → tally t (entries_at (set_chain x sp b c) d) ≡ tally t (entries_at x d)
  number_same t e d = go (ℕ_discrete d b)
    where
      go : Dec (d ≡ b) → tally t (entries_at (set_chain x sp b c) d) ≡ tally t (entries_at x d)
      go (yes k) = rw k (number-here t ∙ e)
      go (no k) = number-there t d k

  pub number-less : (t : Entry → Bool) → tally t (entries_in c) ≤ tally t (entries_at x b)
      → (d : ℕ) → tally t (entries_at (set_chain x sp b c) d) ≤ tally t (entries_at x d)
  number-less t l d = go (ℕ_discrete d b)
    where
      go : Dec (d ≡ b) → tally t (entries_at (set_chain x sp b c) d) ≤ tally t (entries_at x d)
      go (yes k) = rw k (omega (arith, number-here t))
      go (no k) = omega (arith, number-there t d k)

-- ---- a pair cut

-- the entries of a pair whose mark passes f
abbrev pub having : Pair → (Bool → Bool) → Entry → Bool
having p f e = is p e && f e.moved

abbrev pub marked : Bool → Bool
marked b = b

without_other : (p q : Pair) (f : Bool → Bool) (c : Chain) → same p q ≡ false
    → tally (having p f) (entries_in (without q c)) ≡ tally (having p f) (entries_in c)
without_other p q f c ne = tally-without (having p f) q c ∙ tally-cong _ _ (entries_in c) (λ e. go e (is p e) refl)
  where
    go : (e : Entry) (b : Bool) → is p e ≡ b → not (is q e) && (b && f e.moved) ≡ b && f e.moved
    go e true k = other (is q e) refl
      where
        other : (d : Bool) → is q e ≡ d → not d && f e.moved ≡ f e.moved
        other false r = refl
        other true r =
            no_way (rw (same-eq p e.pair k, same-eq q e.pair r) (same_refl e.pair)) ne
    go e false k = and-false (not (is q e))

without-none : (p : Pair) (f : Bool → Bool) (c : Chain) → tally (having p f) (entries_in (without p c)) ≡ 0
without-none p f c =
    tally-without (having p f) p c
    ∙ tally-cong _ (λ e. false) (entries_in c) (λ e. go (is p e) (f e.moved))
    ∙ tally-false (entries_in c)
  where
    go : (a b : Bool) → not a && (a && b) ≡ false
    go true b = refl
    go false b = refl

module _ (x : Index) (b : ℕ) (fits : b < length x.chains) (q : Pair) (f : Bool → Bool) where
  -- other pairs stand as they did
  pub cut-same : (p : Pair) → same p q ≡ false → (d : ℕ)
      → tally (having p f) (entries_at (cut q b x) d) ≡ tally (having p f) (entries_at x d)
  unfolding cut
  cut-same p k d = number_same x x.spares b (without q (chain x b)) fits _ (without_other p q f (chain x b) k) d

  -- the pair stands there no more
  pub cut-here : tally (having q f) (entries_at (cut q b x) b) ≡ 0
  unfolding cut
  cut-here = number-here x x.spares b (without q (chain x b)) fits _ ∙ without-none q f (chain x b)

  pub cut-there : (d : ℕ) → d ≢ b → tally (having q f) (entries_at (cut q b x) d) ≡ tally (having q f) (entries_at x d)
  unfolding cut
  cut-there d ne = number-there x x.spares b (without q (chain x b)) fits _ d ne

  pub cut-less : (d : ℕ) → tally (having q f) (entries_at (cut q b x) d) ≤ tally (having q f) (entries_at x d)
  unfolding cut
  cut-less d =
      number-less x x.spares b (without q (chain x b)) fits _ (omega (arith, without-none q f (chain x b))) d
