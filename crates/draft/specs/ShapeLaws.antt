-- A block made of its front, its trailer and any check: what edits make of it, and what its body is.
use Rattle.std.specs.Prelude.{◌≡◌, refl, List, [], ◌∷◌, ◌++◌, ℕ, suc, ◌+◌, ◌≤◌, ◌<◌, length, set, replicate}
use Rattle.std.proofs.Common.{sym, ◌∙◌, append_assoc, zero-add, suc-add, arith, length-append, take_at}
use Rattle.std.proofs.Math.Path.{ap}
use Rattle.std.proofs.lemmas.List.{length-replicate}
use Rattle.std.proofs.lemmas.List.Edits.{sets}
use Rattle.endian.specs.Endian.{le16, le32}
use Rattle.page.specs.declared.Entry.{Entry}
use Rattle.page.specs.Entries.{encode_page}
use Rattle.page.specs.PageLaws.{number-page}
use Rattle.page.specs.Gap.{Room, Held}
use Rattle.store.specs.Store.{trailer, covered}
use Rattle.store.specs.TrailerLaws.{length-trailer}
use Rattle.image.specs.Layout.{paged, blank}

sets-cons : (x : ℕ) (l : List ℕ) (n : ℕ) (vs : List ℕ) → sets (x ∷ l) (suc n) vs ≡ x ∷ sets l n vs
sets-cons x l n [] = refl
sets-cons x l n (v ∷ vs) = sets-cons x (set l n v) (suc n) vs

-- a run of stores after a front part
sets-after : (a l : List ℕ) (i : ℕ) (vs : List ℕ) → sets (a ++ l) (length a + i) vs ≡ a ++ sets l i vs
sets-after [] l i vs = ap (λ (n : ℕ). sets l n vs) (zero-add i)
sets-after (x ∷ a) l i vs =
    ap (λ (n : ℕ). sets (x ∷ (a ++ l)) n vs) (suc-add (length a) i)
    ∙ sets-cons x (a ++ l) (length a + i) vs
    ∙ ap (λ (r : List ℕ). x ∷ r) (sets-after a l i vs)

covered-any : (a x : List ℕ) → length a ≡ 508 → covered (a ++ x) ≡ a
unfolding covered
covered-any a x h = take_at a x 508 h

pub covered-blank : (x : List ℕ) → covered (replicate 508 0 ++ x) ≡ blank
unfolding blank
covered-blank x = covered-any (replicate 508 0) x (length-replicate {A = ℕ} 508 0)

module _ (front x : List ℕ) (whole : length front ≡ 492) (prev next bucket flags : ℕ) where
  pub covered-paged : covered (front ++ (trailer prev next bucket flags ++ x)) ≡ paged front prev next bucket flags
  unfolding paged
  covered-paged =
      let t = trailer prev next bucket flags in
      ap covered (sym (append_assoc front t x))
      ∙ covered-any (front ++ t) x (length-append front t ∙ omega (arith, length-trailer prev next bucket flags))

  -- a run of stores in the trailer
  trailer-at : (i : ℕ) (vs : List ℕ) → sets (front ++ (trailer prev next bucket flags ++ x)) (492 + i) vs
      ≡ front ++ sets (trailer prev next bucket flags ++ x) i vs
  trailer-at i vs =
      let e : 492 + i ≡ length front + i = omega arith in
      ap (λ (n : ℕ). sets (front ++ (trailer prev next bucket flags ++ x)) n vs) e
      ∙ sets-after front (trailer prev next bucket flags ++ x) i vs

  pub sets-prev : (v : ℕ) → sets (front ++ (trailer prev next bucket flags ++ x)) 492 (le32 v)
      ≡ front ++ (trailer v next bucket flags ++ x)
  unfolding trailer le32 le16
  sets-prev v = trailer-at 0 (le32 v)

  pub sets-next : (v : ℕ) → sets (front ++ (trailer prev next bucket flags ++ x)) 496 (le32 v)
      ≡ front ++ (trailer prev v bucket flags ++ x)
  unfolding trailer le32 le16
  sets-next v = trailer-at 4 (le32 v)

  pub sets-flags : (v : ℕ) → sets (front ++ (trailer prev next bucket flags ++ x)) 504 (le16 v)
      ≡ front ++ (trailer prev next bucket v ++ x)
  unfolding trailer le32 le16
  sets-flags v = trailer-at 12 (le16 v)

-- ---- pages

module _ (l : List ℕ) (es : List Entry) (tail : List ℕ) (full : length l ≡ 512) (page : l ≡ encode_page es tail) where
  pub room-page : (k : ℕ) → length es < 40 → k ≤ length es → Room l k
  room-page k h p =
      let n = number-page l es tail full page in
      record { whole = full; space = omega arith; place = omega arith }

  pub held-page : (k : ℕ) → length es ≤ 40 → k < length es → Held l k
  held-page k h p =
      let n = number-page l es tail full page in
      record { whole = full; small = omega arith; place = omega arith }
