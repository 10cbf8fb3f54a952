-- The bodies of blocks that format builds.
use mathlib.Core.Path.{◌≡◌, refl, ap, ◌∙◌}
use mathlib.Core.List.{List, ◌++◌}
use Prim.Native.Nat.{ℕ, ◌+◌}
use native.Mathlib.Omega.{arith}
use lib.ListN.{length, drop, replicate, length-append}
use lib.Seq.{sets, sets-eq, take_at}
use Rattle.store.specs.Store.{trailer, covered}
use Rattle.store.specs.TrailerLaws.{length-trailer}
use Rattle.image.specs.Layout.{paged, blank}

-- a trailer written after bytes 0..491
pub covered-trailer : (front rest : List ℕ) (prev next bucket flags : ℕ) → length front ≡ 492 → length rest ≡ 20
    → covered (sets (front ++ rest) 492 (trailer prev next bucket flags)) ≡ paged front prev next bucket flags
unfolding paged covered
covered-trailer front rest prev next bucket flags lf lr =
    let t : List ℕ = trailer prev next bucket flags in
    let after : List ℕ = drop (492 + length t) (front ++ rest) in
    let lt : length t ≡ 16 = length-trailer prev next bucket flags in
    let lb : length (front ++ t) ≡ 508 = length-append front t ∙ omega arith in
    ap covered (sets-eq t (front ++ rest) 492 (omega (arith, length-append front rest)))
    ∙ ap (λ (x : List ℕ). covered (x ++ t ++ after)) (take_at front rest 492 lf)
    ∙ take_at (front ++ t) after 508 lb

pub covered-zeros : covered (replicate 512 0) ≡ blank
unfolding blank covered
covered-zeros = refl
