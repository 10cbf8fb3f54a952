-- What a begin writes: the new bucket's page and the old one's.
use Rattle.std.specs.Prelude.{◌≡◌, refl, Bool, true, false, ◌||◌, List, [], ◌∷◌, ◌++◌}
use Rattle.std.proofs.Common.{sym, ◌∙◌, arith, lt-ltb}
use Rattle.std.proofs.Math.Path.{ap}
use Rattle.std.proofs.Math.Option.{some}
use Prim.Native.Nat.{ℕ, suc, ◌≤◌}
use Rattle.std.proofs.Math.Dec.{eqb}
use Rattle.std.proofs.Math.ListN.{get_or-eq_default}
use Rattle.lists.specs.ListsLaws.{eqb_yes}
use Rattle.address.specs.Address.{split_from, last_split, point, bucket_block}
use Rattle.address.specs.MaskLaws.{split-lt}
use Rattle.address.specs.SparesLaws.{point-next}
use Rattle.page.specs.Entries.{encode_page}
use Rattle.model.specs.Index.{Chain, Index, no_chain, chain, top_bit}
use Rattle.model.specs.Steps.{widen}
use Rattle.model.specs.WellFormed.{Laid}
use Rattle.model.proofs.ViewLaws.{Beginning, same_point, new_point}
use Rattle.model.proofs.LaidLaws.{chain-wider, begin-laid}
use Rattle.image.specs.Layout.{paged, flags_of, next_of, bucket_image, encode_block}
use Rattle.store.specs.Flags.{no_link}
use Rattle.frame.specs.Frame.{page_block}
use Rattle.image.proofs.BoundLaws.{max-under}
use Rattle.frame.specs.ImagesLaws.{next-first, bucket-image}
use Rattle.frame.specs.JobLaws.{flags-new, flags-old}
use Rattle.frame.specs.BeginLaws.{Stays, stays-point, stays-more, next-made}

-- the new bucket and the old one are split last by the new one
last-new : (m b : ℕ) → 1 ≤ m → eqb (suc m) b || eqb (split_from (suc m)) b ≡ true → last_split (suc m) b ≡ suc m
unfolding last_split
last-new m b h e = rw (lt-ltb 0 m h, e)

or-true : (a : Bool) → a || true ≡ true
or-true true = refl
or-true false = refl

module _ (x : Index) (l : Laid x) (sq : List ℕ) (a : Stays x sq (point (suc x.max_bucket)))
    (v : Laid (widen x sq)) where
  abbrev m : ℕ
  m = x.max_bucket

  abbrev y : Index
  y = widen x sq

  new-page : encode_block (widen x sq) (bucket_block x.spares (suc x.max_bucket))
      ≡ paged (encode_page [] []) (suc x.max_bucket) no_link (suc x.max_bucket) 18
  unfolding bucket_image flags_of
  new-page =
      let c : chain y (suc m) ≡ no_chain =
      chain-wider x.chains (suc m) ∙ get_or-eq_default x.chains no_chain (omega (arith, l.whole)) in
      let p =
      last-new m (suc m) l.two
      (ap (λ (b : Bool). b || eqb (split_from (suc m)) (suc m)) (eqb_yes (suc m) (suc m) refl)) in
      let f = flags-new y v in
      ap (encode_block y) (sym a.newest)
      ∙ bucket-image y v (suc m) (omega arith)
      ∙ (λ i. paged (encode_page (c i).first []) (p i) (next_of sq (point (suc m)) (c i).more) (suc m) (f i))

  old-page : let o = split_from (suc x.max_bucket) in
      encode_block (widen x sq) (bucket_block x.spares o)
      ≡ paged (encode_page (chain x o).first []) (suc x.max_bucket) (page_block x o 1) o 34
  unfolding bucket_image flags_of
  old-page =
      let o : ℕ = split_from (suc m) in
      let h = split-lt (suc m) (omega arith) in
      let c : chain y o ≡ chain x o = chain-wider x.chains o in
      let p =
      last-new m o l.two (ap (λ (b : Bool). eqb (suc m) o || b) (eqb_yes o o refl) ∙ or-true (eqb (suc m) o)) in
      let f = (flags-old y v).0 in
      let n : next_of sq (point (suc m)) (chain y o).more ≡ page_block x o 1 =
      ap (λ (c : Chain). next_of sq (point (suc m)) c.more) c ∙ next-made x l sq a o
      ∙ next-first x (chain x o).more in
      ap (encode_block y) (sym (a.buckets o (omega (arith, h, max-under x l))))
      ∙ bucket-image y v o (omega (arith, h))
      ∙ (λ i. paged (encode_page (c i).first []) (p i) (n i) o (f i))

module _ (x : Index) (l : Laid x) where
  -- an empty page, "being populated"
  pub begin-new : {y : Index} → Beginning x (some y) → encode_block y (bucket_block x.spares (suc x.max_bucket))
      ≡ paged (encode_page [] []) (suc x.max_bucket) no_link (suc x.max_bucket) 18
  begin-new (same_point g) =
      let v =
      begin-laid x l (same_point g) in new-page x l x.spares (stays-point x (point-next x.max_bucket false g) v) v
  begin-new (new_point g r) =
      let v =
      begin-laid x l (new_point g r) in new-page x l (x.spares ++ top_bit x ∷ [])
      (stays-more x l (point-next x.max_bucket true g) v) v

  -- the page with its new last split, "being split"
  pub begin-old : {y : Index} → Beginning x (some y)
      → let o = split_from (suc x.max_bucket) in
      encode_block y (bucket_block x.spares o)
      ≡ paged (encode_page (chain x o).first []) (suc x.max_bucket) (page_block x o 1) o 34
  begin-old (same_point g) =
      let v =
      begin-laid x l (same_point g) in old-page x l x.spares (stays-point x (point-next x.max_bucket false g) v) v
  begin-old (new_point g r) =
      let v =
      begin-laid x l (new_point g r) in old-page x l (x.spares ++ top_bit x ∷ [])
      (stays-more x l (point-next x.max_bucket true g) v) v
