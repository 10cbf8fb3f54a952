-- The turns of the loop that follows next fields: the first `count` of bs are walked, and the last leads on.
use mathlib.Core.Path.{◌≡◌, sym, ap, ◌∙◌}
use mathlib.Core.Logic.{◌≢◌}
use mathlib.Core.List.{List, [], ◌∷◌, ◌++◌, append-nil, append_assoc}
use Prim.Native.Nat.{ℕ, suc, ◌+◌, ◌-◌, ◌≤◌, ◌<◌}
use native.Mathlib.Numerals.{add-one}
use native.Mathlib.Omega.{arith}
use lib.ListN.{length, take, set}
use lib.Seq.{take-suc-set, length-take-le}
use Rattle.lists.specs.Block.{blocks, block}
use Rattle.address.specs.Limits.{max_blocks}
use Rattle.store.specs.Store.{next_at}
use Rattle.store.specs.Flags.{no_link}
use Rattle.image.specs.Decode.{follow}
use Rattle.chain.specs.Walk.{walk, Walked}
use Rattle.chain.specs.WalkLaws.{follow-done, follow-none, follow-next}

module _ (s : List ℕ) where
  abbrev n : ℕ
  n = blocks s

  pub begin : (bs : List ℕ) (first : ℕ) → 0 < length bs
      → take 1 (set bs 0 first) ++ follow s (n + 1 - 1) first ≡ walk s first
  unfolding walk
  begin bs first h =
      let e : n + 1 - 1 ≡ n = omega arith in
      ap (λ (ks : List ℕ). ks ++ follow s (n + 1 - 1) first) (take-suc-set bs 0 first h)
      ∙ ap (λ (f : ℕ). first ∷ follow s f first) e

  module _ (bs : List ℕ) (count last : ℕ) where
    -- the blocks so far, and those to come
    abbrev pub reached : List ℕ
    reached = take count bs ++ follow s (n + 1 - count) last

    pub turn : (next : ℕ) → count < n + 1 → count < length bs → next ≡ next_at (block s last) → next ≢ no_link
        → take (count + 1) (set bs count next) ++ follow s (n + 1 - (count + 1)) next ≡ reached
    turn next h l e ne =
        let f : n + 1 - count ≡ suc (n + 1 - (count + 1)) = omega arith in
        let rest : follow s (n + 1 - count) last ≡ next ∷ follow s (n + 1 - (count + 1)) next =
        ap (λ (m : ℕ). follow s m last) f
        ∙ follow-next s (n + 1 - (count + 1)) last (λ q. ne (e ∙ q))
        ∙ ap (λ (k : ℕ). k ∷ follow s (n + 1 - (count + 1)) k) (sym e) in
        ap (λ (ks : List ℕ). ks ++ follow s (n + 1 - (count + 1)) next)
        (ap (λ (m : ℕ). take m (set bs count next)) (add-one count) ∙ take-suc-set bs count next l)
        ∙ append_assoc (take count bs) (next ∷ []) (follow s (n + 1 - (count + 1)) next)
        ∙ ap (λ (ks : List ℕ). take count bs ++ ks) (sym rest)

    module _ (first : ℕ) (room : length bs ≡ suc max_blocks) (fits : count ≤ suc max_blocks)
        (so_far : reached ≡ walk s first) where
      done : follow s (n + 1 - count) last ≡ [] → Walked s first bs count
      done e =
          let whole : take count bs ≡ walk s first =
          sym (append-nil (take count bs)) ∙ ap (λ (ks : List ℕ). take count bs ++ ks) (sym e) ∙ so_far in
          record {
            blocks = whole;
            count = sym (length-take-le count bs (omega arith)) ∙ ap length whole;
            room = room;
          }

      -- no next block
      pub ended : (next : ℕ) → next ≡ next_at (block s last) → next ≡ no_link → Walked s first bs count
      ended next e q = done (follow-none s (n + 1 - count) last (sym e ∙ q))

      -- no step left
      pub spent : n < count → Walked s first bs count
      spent h =
          let z : n + 1 - count ≡ 0 = omega arith in
          done (ap (λ (m : ℕ). follow s m last) z ∙ follow-done s last)
