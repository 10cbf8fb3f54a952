-- What a cut writes where it leaves an overflow page empty: an unused block, the links of its neighbours, and its bit
-- of the bitmap.
use Rattle.std.specs.Prelude.{◌≡◌, Bool, true, false, not, ◌&&◌, ◌||◌, eqb}
use Rattle.std.proofs.Math.Path.{refl, sym, ap, subst₂}
use Rattle.std.proofs.Common.{ap₂, ◌∙◌}
use Rattle.std.proofs.Math.Bool.{cond}
use mathlib.Core.List.{List, [], ◌∷◌, ◌++◌, map, map-append}
use Prim.Native.Nat.{ℕ, zero, suc, ◌+◌, ◌≤◌, ◌<◌}
use Rattle.std.proofs.Math.Decide.{ℕ_discrete}
use native.Mathlib.Omega.{arith}
use Rattle.std.proofs.Math.ListN.{length, get_or, length-append}
use Rattle.std.proofs.lemmas.List.{length-map}
use Rattle.std.proofs.Math.Seq.{get_or_at}
use Rattle.lists.specs.Lists.{b2n, tally, Each}
use Rattle.lists.specs.ListsLaws.{eqb_yes, eqb_no, tally-append, any-no, any-yes}
use Rattle.address.specs.Address.{last_split, bucket_block}
use Rattle.page.specs.declared.Pair.{Pair}
use Rattle.page.specs.declared.Entry.{Entry}
use Rattle.page.specs.Pair.{is}
use Rattle.page.specs.Entries.{encode_page}
use Rattle.model.specs.Index.{Page, Index, on_pages, chain, entries_at, top_bit}
use Rattle.model.specs.Pages.{thin_entries, thin, in_use, without, cut}
use Rattle.model.specs.WellFormed.{MoreOk, uses, Laid}
use Rattle.model.specs.ChainLaws.{cut_more, thin-none, keep-page, pages-none}
use Rattle.model.proofs.LaidLaws.{bits-set, cut-laid}
use Rattle.model.proofs.MachineLaws.{never}
use Rattle.image.specs.Layout.{paged, blank, map_bit, flags_of, encode_block}
use Rattle.store.specs.Flags.{no_link}
use Rattle.frame.specs.Frame.{block_of_bit, blocks_after, chain_blocks, page_block, entries_after, page_entries}
use Rattle.frame.specs.Frame.{flags_for, page_with, on_page, more_place, frees, frees_at}
use Rattle.frame.specs.ImagesLaws.{no_page, free-image}
use Rattle.frame.specs.ChainLaws.{yes-free, free-alike}
use Rattle.frame.specs.CutLaws.{frees-none}
use Rattle.frame.specs.PagesLaws.{set-image, prev-append}
use Rattle.frame.specs.ListsLaws.{get_or-in, get_or-out}

-- the pages before it and after it
record Freed (p : Pair) (gs : List Page) : Type 0 where
  before : List Page
  page : Page
  after : List Page
  split : gs ≡ before ++ page ∷ after
  place : more_place p gs ≡ length before
  left : cut_more p gs ≡ before ++ after

freed : (p : Pair) (gs : List Page) → Each MoreOk gs → tally (is p) (on_pages gs) ≤ 1 → frees p gs ≡ true → Freed p gs
freed p [] o h f = never (cc)
freed p (g ∷ gs) o h f =
    go (on_page p g) refl (in_use (thin p g)) refl f
    (freed p gs o.1 (omega (arith, tally-append (is p) g.entries (on_pages gs))))
  where
    q : tally (is p) (g.entries ++ on_pages gs) ≡ tally (is p) g.entries + tally (is p) (on_pages gs)
    q = tally-append (is p) g.entries (on_pages gs)

    none : on_page p g ≡ true → tally (is p) (on_pages gs) ≡ 0
    none e = omega (arith, q, h, any-yes (is p) g.entries e)

    at : {a u : Bool} → on_page p g ≡ a → in_use (thin p g) ≡ u
        → (more_place p (g ∷ gs) ≡ cond a 0 (suc (more_place p gs)))
        × (cut_more p (g ∷ gs) ≡ cond u (thin p g ∷ cut_more p gs) (cut_more p gs))
    at e k = (
      ap (λ (a : Bool). cond a 0 (suc (more_place p gs))) e,
      ap (λ (u : Bool). cond u (thin p g ∷ cut_more p gs) (cut_more p gs)) k,
    )

    go : (a : Bool) → on_page p g ≡ a → (u : Bool) → in_use (thin p g) ≡ u → a && not u || frees p gs ≡ true
        → (frees p gs ≡ true → Freed p gs) → Freed p (g ∷ gs)
    go true e false k f ih =
        record {
          before = [];
          page = g;
          after = gs;
          split = refl;
          place = (at e k).0;
          left = (at e k).1 ∙ pages-none p gs o.1 (none e);
        }
    go true e true k f ih =
        let t = frees-none p gs (none e) in never (cc)
    go false e u k f ih =
        let r = ih f in
        record {
          before = g ∷ r.before;
          page = r.page;
          after = r.after;
          split = ap (λ (hs : List Page). g ∷ hs) r.split;
          place = (at e k).0 ∙ ap suc r.place;
          left =
              keep-page p g gs o.0.used (any-no (is p) g.entries e) ∙ ap (λ (hs : List Page). g ∷ hs) r.left;
        }

frees-some : (p : Pair) (gs : List Page) → frees p gs ≡ true → 1 ≤ tally (is p) (on_pages gs)
frees-some p gs f = go (tally (is p) (on_pages gs)) refl
  where
    go : (n : ℕ) → tally (is p) (on_pages gs) ≡ n → 1 ≤ n
    go zero e = let t = frees-none p gs e in never (cc)
    go (suc n) e = omega arith

module _ (x : Index) (l : Laid x) (b : ℕ) (fits : b < length x.chains) (p : Pair)
    (once : tally (is p) (entries_at x b) ≤ 1) (f : frees_at x b p ≡ true) where
  abbrev y : Index
  y = cut p b x

  abbrev gs : List Page
  gs = (chain x b).more

  abbrev j : ℕ
  j = more_place p (chain x b).more

  apart : tally (is p) (entries_at x b) ≡ tally (is p) (chain x b).first + tally (is p) (on_pages (chain x b).more)
  apart = tally-append (is p) (chain x b).first (on_pages (chain x b).more)

  r : Freed p (chain x b).more
  r = freed p gs (l.pages b).more (omega (arith, apart, once)) f

  first-same : thin_entries p (chain x b).first ≡ (chain x b).first
  first-same = thin-none p (chain x b).first (omega (arith, apart, once, frees-some p gs f))

  -- the blocks and entries up to the page before, and from the page after on
  abbrev us : List ℕ
  us = bucket_block x.spares b ∷ blocks_after x r.before

  abbrev vs : List ℕ
  vs = blocks_after x r.after

  abbrev k : ℕ
  k = block_of_bit x r.page.bit

  abbrev ds : List (List Entry)
  ds = (chain x b).first ∷ entries_after r.before

  abbrev es : List (List Entry)
  es = entries_after r.after

  blocks-old : chain_blocks x b (chain x b) ≡ us ++ k ∷ vs
  blocks-old =
      ap (λ (hs : List Page). bucket_block x.spares b ∷ blocks_after x hs) r.split
      ∙ ap (λ (ks : List ℕ). bucket_block x.spares b ∷ ks)
      (map-append (λ (g : Page). block_of_bit x g.bit) r.before _)

  blocks-new : chain_blocks x b (without p (chain x b)) ≡ us ++ vs
  blocks-new =
      ap (λ (hs : List Page). bucket_block x.spares b ∷ blocks_after x hs) r.left
      ∙ ap (λ (ks : List ℕ). bucket_block x.spares b ∷ ks)
      (map-append (λ (g : Page). block_of_bit x g.bit) r.before _)

  entries-old : (chain x b).first ∷ entries_after (chain x b).more ≡ ds ++ r.page.entries ∷ es
  entries-old =
      ap (λ (hs : List Page). (chain x b).first ∷ entries_after hs) r.split
      ∙ ap (λ (fs : List (List Entry)). (chain x b).first ∷ fs) (map-append (λ (g : Page). g.entries) r.before _)

  entries-new : thin_entries p (chain x b).first ∷ entries_after (cut_more p (chain x b).more) ≡ ds ++ es
  entries-new =
      ap₂ (λ (e : List Entry) (hs : List Page). e ∷ entries_after hs) first-same r.left
      ∙ ap (λ (fs : List (List Entry)). (chain x b).first ∷ fs) (map-append (λ (g : Page). g.entries) r.before _)

  many : length us ≡ suc j
  many = ap suc (length-map r.before (λ (g : Page). block_of_bit x g.bit) ∙ sym r.place)

  many-entries : length ds ≡ suc j
  many-entries = ap suc (length-map r.before (λ (g : Page). g.entries) ∙ sym r.place)

  page-at : (i : ℕ) → i ≤ length (r.before ++ r.after) → encode_block y (get_or (us ++ vs) i no_link)
      ≡ page_with x b (us ++ vs) i (get_or (ds ++ es) i []) (get_or (us ++ vs) (suc i) no_link)
  unfolding cut
  page-at i h =
      subst₂ (λ (ks : List ℕ) (fs : List (List Entry)). encode_block y (get_or ks i no_link)
      ≡ page_with x b ks i (get_or fs i []) (get_or ks (suc i) no_link))
      blocks-new entries-new
      (set-image x x.spares b fits (without p (chain x b)) (cut-laid x l b fits p) refl i
      (omega (arith, h, ap length r.left)))

  -- the page before goes on to the page after
  pub before-image : encode_block (cut p b x) (page_block x b (more_place p (chain x b).more))
      ≡ page_with x b (chain_blocks x b (chain x b)) (more_place p (chain x b).more)
      (page_entries x b (more_place p (chain x b).more))
      (page_block x b (suc (suc (more_place p (chain x b).more))))
  unfolding page_with
  before-image =
      subst₂ (λ (ks : List ℕ) (fs : List (List Entry)). encode_block y (get_or ks j no_link)
      ≡ page_with x b ks j (get_or fs j []) (get_or ks (suc (suc j)) no_link))
      (sym blocks-old) (sym entries-old)
      (let n : get_or (us ++ k ∷ vs) j no_link
      ≡ get_or (us ++ vs) j no_link = get_or-in us (k ∷ vs) vs no_link j (omega (arith, many)) in
      let q = get_or-in ds es (r.page.entries ∷ es) [] j (omega (arith, many-entries)) in
      let m =
      prev-append last us vs j (omega (arith, many)) ∙ sym (prev-append last us (k ∷ vs) j (omega (arith, many))) in
      let o = get_or-out us vs k no_link (suc j) (omega (arith, many)) in
      ap (encode_block y) n
      ∙ page-at j (omega (arith, r.place, length-append r.before r.after))
      ∙ (λ i. paged (encode_page (q i) []) (m i) (o i) b (flags_for (flags_of x b) j)))
    where
      last : ℕ
      last = last_split x.max_bucket b

  pub after-image : suc (more_place p (chain x b).more) < length (chain x b).more
      → encode_block (cut p b x) (page_block x b (suc (suc (more_place p (chain x b).more))))
      ≡ paged (encode_page (page_entries x b (suc (suc (more_place p (chain x b).more)))) [])
      (page_block x b (more_place p (chain x b).more))
      (page_block x b (suc (suc (suc (more_place p (chain x b).more))))) b 1
  unfolding page_with
  after-image h =
      subst₂ (λ (ks : List ℕ) (fs : List (List Entry)). encode_block y (get_or ks (suc (suc j)) no_link)
      ≡ paged (encode_page (get_or fs (suc (suc j)) []) []) (get_or ks j no_link) (get_or ks (suc (suc (suc j))) no_link) b 1)
      (sym blocks-old) (sym entries-old)
      (let n : get_or (us ++ k ∷ vs) (suc (suc j)) no_link ≡ get_or (us ++ vs) (suc j) no_link =
      sym (get_or-out us vs k no_link (suc j) (omega (arith, many))) in
      let q = get_or-out ds es r.page.entries [] (suc j) (omega (arith, many-entries)) in
      let m = get_or-in us vs (k ∷ vs) no_link j (omega (arith, many)) in
      let o = get_or-out us vs k no_link (suc (suc j)) (omega (arith, many)) in
      ap (encode_block y) n
      ∙ page-at (suc j) inside
      ∙ (λ i. paged (encode_page (q i) []) (m i) (o i) b 1))
    where
      inside : suc (more_place p (chain x b).more) ≤ length (r.before ++ r.after)
      inside =
          omega (
            arith,
            h,
            ap length r.split,
            length-append r.before (r.page ∷ r.after),
            length-append r.before r.after,
          )

  -- ---- its bit

  abbrev n : ℕ
  n = r.page.bit

  uses-freed : (m : ℕ) → uses m x ≡ b2n (eqb m n) + uses m y
  unfolding cut
  uses-freed m =
      omega (
        arith,
        bits-set (eqb m) x.chains b (without p (chain x b)) fits,
        ap (λ (hs : List Page). tally (eqb m) (map (λ (g : Page). g.bit) hs)) r.split,
        ap (λ (hs : List Page). tally (eqb m) (map (λ (g : Page). g.bit) hs)) r.left,
        bits r.before,
      )
    where
      bits : (hs : List Page)
          → tally (eqb m) (map (λ (g : Page). g.bit) (hs ++ r.page ∷ r.after))
          ≡ b2n (eqb m r.page.bit) + tally (eqb m) (map (λ (g : Page). g.bit) (hs ++ r.after))
      bits [] = refl
      bits (h ∷ hs) = omega (arith, bits hs)

  self : b2n (eqb n n) ≡ 1
  self = ap b2n (eqb_yes n n refl)

  gone : uses n y ≡ 0
  gone = omega (arith, uses-freed n, self, l.once n)

  made : (1 ≤ n) × (n < top_bit x)
  made = l.made n (omega (arith, uses-freed n, self))

  bit_is : (get_or (chain x b).more (more_place p (chain x b).more) no_page).bit ≡ n
  bit_is =
      ap (λ (g : Page). g.bit)
      (ap (λ (hs : List Page). get_or hs j no_page) r.split
      ∙ get_or_at r.before r.page r.after no_page j (sym r.place))

  pub freed-image : encode_block (cut p b x) (page_block x b (suc (more_place p (chain x b).more))) ≡ blank
  unfolding cut
  freed-image =
      ap (encode_block y) (ap (λ (ks : List ℕ). get_or ks (suc j) no_link) blocks-old ∙ get_or_at us k vs no_link (suc j) many)
      ∙ free-image y (cut-laid x l b fits p) n made.0 made.1 gone

  -- the bit of the freed page is 0 now, and the others are as they were
  pub freed-map : (m : ℕ)
      → map_bit (cut p b x) m
      ≡ cond (eqb m (get_or (chain x b).more (more_place p (chain x b).more) no_page).bit) 0 (map_bit x m)
  unfolding cut
  freed-map m = go (ℕ_discrete m n) ∙ ap (λ (i : ℕ). cond (eqb m i) 0 (map_bit x m)) (sym bit_is)
    where
      go : Dec (m ≡ n) → map_bit (cut p b x) m ≡ cond (eqb m n) 0 (map_bit x m)
      go (yes q) = rw (q, eqb_yes n n refl) (ap (λ (c : Bool). b2n (not c)) (yes-free y n (made.0, made.1, gone)))
      go (no q) =
          let u : uses m y ≡ uses m x = omega (arith, uses-freed m, ap b2n (eqb_no m n q)) in
          rw (eqb_no m n q)
          (ap (λ (c : Bool). b2n (not c))
          (free-alike x y m (λ f. (f.0, f.1, sym u ∙ f.2)) (λ f. (f.0, f.1, u ∙ f.2))))
