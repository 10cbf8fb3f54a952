-- The blocks of a walk: how many there are, and each one by the one before it.
use Rattle.std.specs.Prelude.{◌≡◌, ◌≢◌, Bool, leb, get_or, take, drop}
use Rattle.std.proofs.Math.Path.{refl, ap}
use Rattle.std.proofs.Common.{sym, ◌∙◌, subst, eq-eqb, ne_eqb, eqb-true, leb-true, drop_of_length-le}
use Rattle.std.proofs.Math.Bool.{true, false}
use mathlib.Core.List.{List, [], ◌∷◌, ◌++◌}
use Prim.Native.Nat.{ℕ, zero, suc, pred, ◌*◌, ◌/◌, ◌%◌, ◌≤◌, ◌<◌}
use native.Mathlib.Omega.{arith}
use Rattle.std.proofs.lemmas.Bool.{eqb-false}
use Rattle.std.proofs.Math.Dec.{eqb}
use Rattle.std.proofs.Math.ListN.{length}
use Rattle.lists.specs.Lists.{Each}
use Rattle.lists.specs.ListsLaws.{and_left, and_right}
use Rattle.lists.specs.Block.{blocks, block}
use Rattle.endian.specs.Endian.{u32_at}
use Rattle.store.specs.Store.{next_at}
use Rattle.address.specs.Limits.{max_blocks}
use Rattle.store.specs.Flags.{no_link}
use Rattle.image.specs.Decode.{follow, block_of, trail}
use Rattle.image.specs.Rules.{length_ok}
use Rattle.chain.specs.Walk.{walk, last_of, Sized, Bounded}

module _ (s : List ℕ) where
  abbrev next : ℕ → ℕ
  next k = next_at (block s k)

  -- ---- one step of the way from a block

  pub follow-done : (k : ℕ) → follow s 0 k ≡ []
  unfolding follow
  follow-done k = refl

  pub follow-none : (f k : ℕ) → next k ≡ no_link → follow s f k ≡ []
  unfolding follow
  follow-none zero k h = refl
  follow-none (suc f) k h = rw (eq-eqb (next k) no_link h, follow)

  pub follow-next : (f k : ℕ) → next k ≢ no_link → follow s (suc f) k ≡ next k ∷ follow s f (next k)
  unfolding follow
  follow-next f k h = rw (ne_eqb (next k) no_link h, follow)

  -- ---- the way of at most f steps from block k: no step left, no next block, or a step and the way from there

  data Way : (f k : ℕ) → List ℕ → Type 0 where
    spent : {k : ℕ} → Way 0 k []
    ended : {f k : ℕ} → next k ≡ no_link → Way f k []
    goes : {f k : ℕ} {js : List ℕ} → next k ≢ no_link → Way f (next k) js → Way (suc f) k (next k ∷ js)

  way : (f k : ℕ) → Way f k (follow s f k)
  unfolding follow
  way zero k = spent
  way (suc f) k = go (eqb (next k) no_link) refl (way f (next k))
    where
      go : (b : Bool) → eqb (next k) no_link ≡ b → Way f (next k) (follow s f (next k))
          → Way (suc f) k (elim b [ true ↦ [] | false ↦ next k ∷ follow s f (next k) ])
      go true e w = ended (eqb-true (next k) no_link e)
      go false e w = goes (eqb-false (next k) no_link e) w

  way-length : {f k : ℕ} {js : List ℕ} → Way f k js → length js ≤ f
  way-length spent = omega arith
  way-length (ended e) = omega arith
  way-length (goes e w) = omega (arith, way-length w)

  way-get_or : {f k : ℕ} {js : List ℕ} → Way f k js → (i : ℕ) → i < length js → get_or js i 0 ≡ next (get_or (k ∷ js) i 0)
  way-get_or spent i h = absurd (omega arith)
  way-get_or (ended e) i h = absurd (omega arith)
  way-get_or (goes e w) zero h = refl
  way-get_or (goes e w) (suc i) h = way-get_or w i (omega arith)

  way-link : {f k : ℕ} {js : List ℕ} → Way f k js → (i : ℕ) → i < length js → next (get_or (k ∷ js) i 0) ≢ no_link
  way-link spent i h = absurd (omega arith)
  way-link (ended e) i h = absurd (omega arith)
  way-link (goes e w) zero h = e
  way-link (goes e w) (suc i) h = way-link w i (omega arith)

  way-last : {f k : ℕ} {js : List ℕ} → Way f k js → length js < f → next (get_or (k ∷ js) (length js) 0) ≡ no_link
  way-last spent h = absurd (omega arith)
  way-last (ended e) h = e
  way-last (goes e w) h = way-last w (omega arith)

  -- with one more step allowed, a way that did not use up its steps stays as it is
  way-more : {f k : ℕ} {js : List ℕ} → Way f k js → length js < f → follow s (suc f) k ≡ js
  way-more spent h = absurd (omega arith)
  way-more (ended {f} {k} e) h = follow-none (suc f) k e
  way-more (goes {f} {k} e w) h =
      follow-next (suc f) k e ∙ ap (λ (js : List ℕ). next k ∷ js) (way-more w (omega arith))

  -- ---- the walk

  module _ (first : ℕ) where
    pub walk-some : 1 ≤ length (walk s first)
    unfolding walk
    walk-some = omega arith

    pub walk-few : length (walk s first) ≤ suc (blocks s)
    unfolding walk
    walk-few = omega (arith, way-length (way (blocks s) first))

    pub walk_first : get_or (walk s first) 0 0 ≡ first
    unfolding walk
    walk_first = refl

    -- each block but the first is named by the next field of the one before it
    pub walk-next : (i : ℕ) → suc i < length (walk s first)
        → get_or (walk s first) (suc i) 0 ≡ next_at (block s (get_or (walk s first) i 0))
    unfolding walk
    walk-next i h = way-get_or (way (blocks s) first) i (omega arith)

    pub walk-link : (i : ℕ) → suc i < length (walk s first) → next_at (block s (get_or (walk s first) i 0)) ≢ no_link
    unfolding walk
    walk-link i h = way-link (way (blocks s) first) i (omega arith)

    -- a walk that did not use up its steps ends at a block with no next
    pub walk-last : length (walk s first) ≤ blocks s → next_at (block s (last_of (walk s first))) ≡ no_link
    unfolding walk
    walk-last h = way-last (way (blocks s) first) (omega arith)

    -- the first block is the last, or the walk goes on from the next one
    pub walk_end : next_at (block s first) ≡ no_link → walk s first ≡ first ∷ []
    unfolding walk
    walk_end e = ap (λ (js : List ℕ). first ∷ js) (follow-none (blocks s) first e)

    pub walk_more : next_at (block s first) ≢ no_link → length (walk s first) ≤ blocks s
        → walk s first ≡ first ∷ walk s (next_at (block s first))
    unfolding walk
    walk_more ne short = go (blocks s) short
      where
        go : (n : ℕ) → length (first ∷ follow s n first) ≤ n
            → first ∷ follow s n first ≡ first ∷ (next first ∷ follow s n (next first))
        go zero h = absurd (omega arith)
        go (suc f) h =
            let e = follow-next f first ne in
            let few : length (follow s f (next first)) < f = omega (arith, ap length e) in
            ap (λ (js : List ℕ). first ∷ js)
            (e ∙ ap (λ (js : List ℕ). next first ∷ js) (sym (way-more (way f (next first)) few)))

    module _ (b : Bounded s first) where
      pub bounded-first : first < blocks s
      unfolding walk
      bounded-first = b.inside.0

      pub bounded-next : next_at (block s first) ≢ no_link → Bounded s (next_at (block s first))
      bounded-next ne =
          let e = walk_more ne b.short in
          record {
            inside = (subst (Each (λ k. k < blocks s)) e b.inside).1;
            short = omega (arith, ap length e, b.short);
          }

  -- from each of its blocks on, a walk stays in the store and goes as it does
  pub record Onward (first i k : ℕ) : Type 0 where
    pub bounded : Bounded s k
    pub rest : walk s k ≡ drop i (walk s first)

  pub walk-onward : (first : ℕ) → Bounded s first → (i : ℕ) → i < length (walk s first)
      → Onward first i (get_or (walk s first) i 0)
  walk-onward first b zero h =
      subst (Onward first 0) (sym (walk_first first)) (record { bounded = b; rest = refl })
  walk-onward first b (suc i) h =
      let ne : next_at (block s first) ≢ no_link = λ e. omega (arith, h, ap length (walk_end first e)) in
      let e = walk_more first ne b.short in
      let on = walk-onward (next_at (block s first)) (bounded-next first b ne) i (omega (arith, h, ap length e)) in
      subst (Onward first (suc i)) (sym (ap (λ (ks : List ℕ). get_or ks (suc i) 0) e))
      (record { bounded = on.bounded; rest = on.rest ∙ sym (ap (drop (suc i)) e) })

  -- the walk from a bucket's block, as the rules have it
  pub walk-trail : (b : ℕ) → block_of s b ∷ trail s b ≡ walk s (block_of s b)
  unfolding walk
  walk-trail b = refl

-- a chain is its blocks before the last and the last
pub last-split : (ks : List ℕ) → 1 ≤ length ks → ks ≡ take (pred (length ks)) ks ++ (last_of ks ∷ [])
last-split [] h = absurd (omega arith)
last-split (k ∷ []) h = refl
last-split (k ∷ (j ∷ ks)) h = ap (λ (js : List ℕ). k ∷ js) (last-split (j ∷ ks) (omega arith))

-- past the store's end a next field reads as 0
pub next_past : (s : List ℕ) (k : ℕ) → blocks s ≤ k → length s ≡ 512 * blocks s → next_at (block s k) ≡ 0
unfolding block u32_at
next_past s k h e =
    let l : length s ≤ 512 * k = omega arith in
    ap (λ (x : List ℕ). next_at (take 512 x)) (drop_of_length-le s l)

-- the length test of the calls
pub length_ok-sized : (s : List ℕ) → length_ok s ≡ true → Sized s
unfolding length_ok blocks
length_ok-sized s h =
    let whole : length s % 512 ≡ 0 = eqb-true (length s % 512) 0 (and_left (eqb (length s % 512) 0) _ h) in
    let size = and_right (eqb (length s % 512) 0) _ h in
    record {
      whole = omega arith;
      few = leb-true (length s / 512) max_blocks (and_right (leb 4 (length s / 512)) _ size);
    }
