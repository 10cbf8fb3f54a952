-- Entries put into a slot and taken out of one.
use Rattle.std.specs.Prelude.{◌≡◌, refl, Bool, List, [], ◌∷◌, ℕ, zero, suc, ◌+◌, ◌<◌, length, get_or, take, drop}
use Rattle.std.proofs.Common.{ap, arith, length-append, take-append-drop}
use Rattle.std.proofs.Math.Seq.{split_at}
use Rattle.lists.specs.Lists.{b2n, tally, Each}
use Rattle.lists.specs.ListsLaws.{tally-append, each_append}
use Rattle.page.specs.declared.Entry.{Entry}
use Rattle.page.specs.Places.{remove_at, insert_at}
use Rattle.page.specs.Sublist.{Sublist, ends, leaves, keeps}
use Rattle.page.specs.SublistLaws.{sublist-refl, sublist-take, sublist-drop, each-sublist}

-- ---- one entry more

pub tally-insert_at : (t : Entry → Bool) (k : ℕ) (e : Entry) (es : List Entry)
    → tally t (insert_at k e es) ≡ b2n (t e) + tally t es
unfolding insert_at
tally-insert_at t k e es =
    let whole = ap (tally t) (take-append-drop k es) in
    omega (arith, tally-append t (take k es) (e ∷ drop k es), tally-append t (take k es) (drop k es), whole)

pub length-insert_at : (k : ℕ) (e : Entry) (es : List Entry) → length (insert_at k e es) ≡ suc (length es)
unfolding insert_at
length-insert_at k e es =
    let whole = ap length (take-append-drop k es) in
    omega (arith, length-append (take k es) (e ∷ drop k es), length-append (take k es) (drop k es), whole)

pub each-insert_at : (P : Entry → Type 0) (k : ℕ) (e : Entry) (es : List Entry) → P e → Each P es
    → Each P (insert_at k e es)
unfolding insert_at
each-insert_at P k e es p h =
    each_append P (take k es) (e ∷ drop k es)
    (each-sublist P (sublist-take k es) h)
    (p, each-sublist P (sublist-drop k es) h)

-- ---- one entry less

pub tally-remove_at : (t : Entry → Bool) (k : ℕ) (es : List Entry) (d : Entry) → k < length es
    → b2n (t (get_or es k d)) + tally t (remove_at k es) ≡ tally t es
unfolding remove_at
tally-remove_at t k es d h =
    let whole = ap (tally t) (split_at es k d h) in
    let with_it = tally-append t (take k es) (get_or es k d ∷ drop (suc k) es) in
    omega (arith, with_it, tally-append t (take k es) (drop (suc k) es), whole)

pub length-remove_at : (k : ℕ) (es : List Entry) → k < length es → suc (length (remove_at k es)) ≡ length es
unfolding remove_at
length-remove_at k [] h = absurd (omega arith)
length-remove_at zero (e ∷ es) h = refl
length-remove_at (suc k) (e ∷ es) h = ap suc (length-remove_at k es (omega arith))

pub sublist-remove_at : (k : ℕ) (es : List Entry) → Sublist (remove_at k es) es
unfolding remove_at
sublist-remove_at zero [] = ends
sublist-remove_at (suc k) [] = ends
sublist-remove_at zero (e ∷ es) = leaves (sublist-refl es)
sublist-remove_at (suc k) (e ∷ es) = keeps (sublist-remove_at k es)
