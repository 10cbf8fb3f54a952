-- Bytes copied over a part of a slice.
use mathlib.Core.Path.{◌≡◌, sym, ap, ◌∙◌}
use mathlib.Core.List.{List, ◌++◌, append_assoc}
use Prim.Native.Nat.{ℕ, ◌+◌, ◌-◌, ◌≤◌}
use native.Mathlib.Omega.{arith}
use borrow.Rule.Slice.PartMut.{put_mid}
use lib.ListN.{length, take, drop}
use lib.Seq.{sets, sets-eq, drop-drop}

pub put-part : (out : List ℕ) (at : ℕ) (text part : List ℕ) → at + length text ≤ length out → part ≡ text
    → put_mid at (at + length text - at) out part ≡ sets out at text
put-part out at text part h e =
    let width : at + length text - at ≡ length text = omega arith in
    ap (λ (b : List ℕ). take at out ++ (b ++ drop (at + length text - at) (drop at out))) e
    ∙ ap (λ (n : ℕ). take at out ++ (text ++ drop n (drop at out))) width
    ∙ ap (λ (r : List ℕ). take at out ++ (text ++ r)) (drop-drop (length text) at out)
    ∙ sym (append_assoc (take at out) text (drop (at + length text) out)) ∙ sym (sets-eq text out at h)
