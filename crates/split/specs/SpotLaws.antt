-- The page that a search begins at: as it is read, over a copy that is put, and over an entry that is taken away.
use Rattle.std.specs.Prelude.{◌≡◌, Bool, true, false, cond, not, ℕ, zero, suc, ◌+◌, ◌-◌, ◌≤◌, ◌<◌, ltb, length, get_or, take, Option as StdOption, Some, None, IfSome, unwrap_or}
use Rattle.std.proofs.Math.Path.{refl, ap}
use Rattle.std.proofs.Common.{sym, ◌∙◌, subst, arith, lt-ltb, ltb-true, length-append}
use mathlib.Core.List.{List, [], ◌∷◌, ◌++◌, map, append-nil}
use Rattle.std.proofs.Math.Option.{Option, none, some}
use Rattle.std.proofs.lemmas.List.{length-map}
use Rattle.lists.specs.Lists.{b2n, tally, keep, bind, Each}
use Rattle.lists.specs.ListsLaws.{find-no}
use Rattle.address.specs.Address.{split_from, point, made}
use Rattle.page.specs.declared.Pair.{Pair}
use Rattle.page.specs.declared.Entry.{Entry}
use Rattle.page.specs.Pair.{is}
use Rattle.page.specs.PairLaws.{no_way}
use Rattle.model.specs.Index.{Page, Chain, Index, on_pages, chain, entries_at, new_bucket, old_bucket, set_chain}
use Rattle.model.specs.Pages.{Taken, take_from, take_page, free_bit, thin_entries, thin, in_use, without, cut}
use Rattle.model.specs.WellFormed.{MoreOk, WF}
use Rattle.model.specs.StandLaws.{chain-here, chain-there}
use Rattle.model.proofs.HeldLaws.{old-new, old-range, new-range}
use Rattle.model.proofs.ViewLaws.{Putting, in_page, in_new}
use Rattle.model.proofs.MachineLaws.{never}
use Rattle.image.specs.declared.Meta.{Meta}
use Rattle.image.specs.Decode.{block_of, trail, read_page, decode}
use Rattle.frame.specs.Frame.{block_of_bit, blocks_after, chain_blocks, entries_after}
use Rattle.frame.specs.FreshLaws.{more_spares, fresh-blocks}
use Rattle.chain.specs.Walk.{walk}
use Rattle.chain.specs.WalkLaws.{walk-some, walk_first}
use Rattle.chain.specs.Within.{entries_on}
use Rattle.chain.proofs.DecodeLaws.{chain-decode}
use Rattle.reader.specs.JobLaws.{old-low}
use Rattle.view.specs.Reads.{Reads}
use Rattle.view.specs.ReadsLaws.{reads_known, reads-max}
use Rattle.view.specs.ChainLaws.{under-max, walk-read}
use Rattle.split.specs.declared.Spot.{Spot}
use Rattle.split.specs.Seek.{Before}
use Rattle.split.specs.SeekLaws.{before-all, before-left, before-part}
use Rattle.split.specs.Spot.{Marks, front_size, pages_in, SpotOn, SpotIn, first_page}

module _ {ks : List ℕ} {f : ℕ → ℕ} {g : Spot} {k : ℕ} (m : Marks ks f g k) where
  pub marks-later : {j : ℕ} → k ≤ j → Marks ks f g j
  marks-later h =
      record {
        inside = m.inside;
        block = m.block;
        passed = m.passed;
        near = omega (arith, m.near);
        few = m.few;
      }

  pub marks-as : {js : List ℕ} {h : ℕ → ℕ} → ks ≡ js → ((i : ℕ) → f i ≡ h i) → Marks js h g k
  marks-as e q =
      record {
        inside = omega (arith, ap length e, m.inside);
        block = m.block ∙ ap (λ (ls : List ℕ). get_or ls g.index 0) e;
        passed = m.passed ∙ q g.index;
        near = m.near;
        few = m.few;
      }

-- ---- in a store

front-size : (f : ℕ → List Entry) (i : ℕ) (ks : List ℕ) → length (bind (take i ks) f) ≡ front_size i (map f ks)
front-size f zero ks = refl
front-size f (suc i) [] = refl
front-size f (suc i) (k ∷ ks) = omega (arith, length-append (f k) (bind (take i ks) f), front-size f i ks)

-- the page that is known, or the first one
pub first-spot : (s : List ℕ) (first : ℕ) (o : StdOption Spot) (k : ℕ) → IfSome o (λ g. SpotOn s (walk s first) g k)
    → SpotOn s (walk s first) (unwrap_or o (first_page first)) k
first-spot s first (Some g) k h = h
first-spot s first None k h =
    record {
      inside = omega (arith, walk-some s first);
      block = sym (walk_first s first);
      passed = refl;
      near = omega arith;
      few = omega arith;
    }

module _ {s : List ℕ} {m : Meta} (r : Reads s m) where
  abbrev o : ℕ
  o = old_bucket (decode s)

  pub old-made : old_bucket (decode s) ≤ m.max
  old-made = old-low (reads_known r) o (ap split_from (sym (reads-max r)))

  parts-read : map (entries_on s) (walk s (block_of s o)) ≡ pages_in (chain (decode s) o)
  unfolding walk
  parts-read =
      ap (λ (ps : List (List Entry)). entries_on s (block_of s o) ∷ ps) (parts (trail s o))
      ∙ ap pages_in (sym (chain-decode s o (under-max r o old-made)))
    where
      parts : (ks : List ℕ) → map (entries_on s) ks ≡ entries_after (map (read_page s) ks)
      parts [] = refl
      parts (k ∷ ks) = ap (λ (ps : List (List Entry)). entries_on s k ∷ ps) (parts ks)

  module _ {first : ℕ} (home : first ≡ block_of s (old_bucket (decode s))) where
    blocks-read : walk s first ≡ chain_blocks (decode s) o (chain (decode s) o)
    blocks-read = ap (walk s) home ∙ walk-read r o old-made

    sizes-read : (i : ℕ)
        → length (bind (take i (walk s first)) (entries_on s)) ≡ front_size i (pages_in (chain (decode s) o))
    sizes-read i =
        front-size (entries_on s) i (walk s first)
        ∙ ap (λ (k : ℕ). front_size i (map (entries_on s) (walk s k))) home
        ∙ ap (front_size i) parts-read

    pub spot_in : {g : Spot} {k : ℕ} → SpotOn s (walk s first) g k → SpotIn (decode s) g k
    spot_in h = marks-as h blocks-read sizes-read

    pub spot_on : {g : Spot} {k : ℕ} → SpotIn (decode s) g k → SpotOn s (walk s first) g k
    spot_on h = marks-as h (sym blocks-read) (λ i. sym (sizes-read i))

    -- the same of the page that is known in the old chain
    pub spot_known : (o : StdOption Spot) (k : ℕ) → IfSome o (λ g. SpotIn (decode s) g k)
        → SpotOn s (walk s first) (unwrap_or o (first_page first)) k
    spot_known (Some g) k h = first-spot s first (Some g) k (spot_on h)
    spot_known None k h = first-spot s first None k h

-- ---- over a copy that is put into the new chain

module _ (x : Index) (w : WF x) {g : Spot} {k : ℕ} (at : SpotIn x g k) (e : Entry) where
  abbrev old : ℕ
  old = old_bucket x

  put-in : (sp : List ℕ) (c : Chain)
      → chain_blocks (set_chain x sp (new_bucket x) c) (old_bucket x) (chain x (old_bucket x))
      ≡ chain_blocks x (old_bucket x) (chain x (old_bucket x))
      → SpotIn (set_chain x sp (new_bucket x) c) g k
  put-in sp c q =
      let y : Index = set_chain x sp (new_bucket x) c in
      let there : chain y old ≡ chain x old =
      chain-there x sp (new_bucket x) c (new-range x w.laid) old (old-new x w.laid) in
      marks-as at (sym (ap (chain_blocks y old) there ∙ q))
      (λ i. ap (λ (d : Chain). front_size i (pages_in d)) (sym there))

  taken : (t : Taken) → take_page x ≡ some t
      → chain_blocks (set_chain x t.spares old (chain x old)) old (chain x old) ≡ chain_blocks x old (chain x old)
  unfolding take_page
  taken t q = go (free_bit x) (ltb (made x.spares (point x.max_bucket)) x.size) refl q
    where
      same : {sp : List ℕ} → t.spares ≡ sp
          → chain_blocks (set_chain x t.spares old (chain x old)) old (chain x old)
          ≡ chain_blocks (set_chain x sp old (chain x old)) old (chain x old)
      same h = ap (λ (sp : List ℕ). chain_blocks (set_chain x sp old (chain x old)) old (chain x old)) h

      go : (f : Option ℕ) (b : Bool) → ltb (made x.spares (point x.max_bucket)) x.size ≡ b
          → take_from f b x.spares (point x.max_bucket) ≡ some t
          → chain_blocks (set_chain x t.spares old (chain x old)) old (chain x old) ≡ chain_blocks x old (chain x old)
      go (some n) b l h = let z : t.spares ≡ x.spares = cc in same z
      go none true l h =
          let z : t.spares ≡ more_spares x = cc in
          same z
          ∙ fresh-blocks x w.laid old (old-range x w.laid) e
          (ltb-true (made x.spares (point x.max_bucket)) x.size l) (chain x old)
      go none false l h = never (cc)

  pub put-spot : {u : Index} → Putting x (new_bucket x) e (some u) → SpotIn u g k
  put-spot (in_page r) = put-in x.spares _ refl
  put-spot (in_new t r q) = put-in t.spares _ (taken t q)

-- ---- over an entry of the pair p that is taken away

module _ (x : Index) (p : Pair) where
  -- none of the entries is taken
  none-taken : (es : List Entry) → tally (is p) es ≡ 0 → thin_entries p es ≡ es
  none-taken [] z = refl
  none-taken (e ∷ es) z = go (is p e) z (none-taken es)
    where
      go : (b : Bool) → b2n b + tally (is p) es ≡ 0 → (tally (is p) es ≡ 0 → thin_entries p es ≡ es)
          → cond (not b) (e ∷ thin_entries p es) (thin_entries p es) ≡ e ∷ es
      go true h ih = absurd (omega arith)
      go false h ih = ap (λ (ds : List Entry). e ∷ ds) (ih (omega arith))

  -- the first one is not
  first-stays : (es fs : List Entry) (k : ℕ) → 1 ≤ length es → 1 ≤ k → Before (is p) (es ++ fs) k
      → 1 ≤ length (thin_entries p es)
  first-stays [] fs k u l z = absurd (omega arith)
  first-stays (e ∷ es) fs zero u l z = absurd (omega arith)
  first-stays (e ∷ es) fs (suc k) u l z = go (is p e) z
    where
      go : (b : Bool) → b2n b + tally (is p) (take k (es ++ fs)) ≡ 0
          → 1 ≤ length (cond (not b) (e ∷ thin_entries p es) (thin_entries p es))
      go true h = absurd (omega arith)
      go false h = omega arith

  -- the page at index i stays there
  record Kept (i : ℕ) (gs hs : List Page) : Type 0 where
    inside : i < length hs
    block : get_or (blocks_after x gs) i 0 ≡ get_or (blocks_after x hs) i 0
    front : front_size i (entries_after gs) ≡ front_size i (entries_after hs)

  -- where the entries before a place behind its start are not of the pair
  pages-kept : (gs : List Page) (i k : ℕ) → Each MoreOk gs → i < length gs → front_size i (entries_after gs) < k
      → Before (is p) (on_pages gs) k → Kept i gs (keep in_use (map (thin p) gs))
  pages-kept [] i k ok h l z = absurd (omega arith)
  pages-kept (g ∷ gs) zero k ok h l z =
      go (in_use (thin p g))
      (lt-ltb 0 (length (thin_entries p g.entries))
      (omega (arith, first-stays g.entries (on_pages gs) k ok.0.used (omega arith) z)))
    where
      go : (b : Bool) → b ≡ true
          → Kept 0 (g ∷ gs) (cond b (thin p g ∷ keep in_use (map (thin p) gs)) (keep in_use (map (thin p) gs)))
      go true q = record { inside = omega arith; block = refl; front = refl }
      go false q = no_way q refl
  pages-kept (g ∷ gs) (suc i) k ok h l z =
      go (in_use (thin p g))
      (lt-ltb 0 (length (thin_entries p g.entries)) (omega (arith, ap length whole, ok.0.used)))
      (pages-kept gs i (k - length g.entries) ok.1 (omega arith) (omega arith)
      (before-part (is p) g.entries (on_pages gs) [] k
      (subst (λ (es : List Entry). Before (is p) (g.entries ++ es) k) (sym (append-nil (on_pages gs))) z)))
    where
      whole : thin_entries p g.entries ≡ g.entries
      whole =
          none-taken g.entries (find-no (is p) g.entries
          (before-all (is p) g.entries k (omega arith) (before-left (is p) g.entries (on_pages gs) k z)))

      go : (b : Bool) → b ≡ true → Kept i gs (keep in_use (map (thin p) gs))
          → Kept (suc i) (g ∷ gs) (cond b (thin p g ∷ keep in_use (map (thin p) gs)) (keep in_use (map (thin p) gs)))
      go true q rest =
          record {
            inside = omega (arith, rest.inside);
            block = rest.block;
            front = omega (arith, ap length whole, rest.front);
          }
      go false q rest = no_way q refl

  pub cut-spot : WF x → (g : Spot) (j k : ℕ) → SpotIn x g j → g.passed < k
      → Before (is p) (entries_at x (old_bucket x)) k → SpotIn (cut p (old_bucket x) x) g k
  unfolding cut
  cut-spot w g j k at l z = go g.index refl
    where
      c : Chain
      c = chain x (old_bucket x)

      y : Index
      y = set_chain x x.spares (old_bucket x) (without p (chain x (old_bucket x)))

      here : chain y (old_bucket x) ≡ without p (chain x (old_bucket x))
      here = chain-here x x.spares (old_bucket x) (without p (chain x (old_bucket x))) (old-range x w.laid)

      go : (n : ℕ) → g.index ≡ n → SpotIn y g k
      go zero q =
          record {
            inside = omega (arith, q);
            block =
                at.block ∙ ap (λ (a : ℕ). get_or (chain_blocks x (old_bucket x) c) a 0) q
                ∙ ap (λ (a : ℕ). get_or (chain_blocks y (old_bucket y) (chain y (old_bucket y))) a 0) (sym q);
            passed =
                at.passed ∙ ap (λ (a : ℕ). front_size a (pages_in c)) q
                ∙ ap (λ (a : ℕ). front_size a (pages_in (chain y (old_bucket y)))) (sym q);
            near = omega (arith, l);
            few = at.few;
          }
      go (suc n) q =
          marks-as {k = k} stays
          (ap (chain_blocks y (old_bucket x)) (sym here))
          (λ a. ap (λ (d : Chain). front_size a (pages_in d)) (sym here))
        where
          sizes : g.passed ≡ length c.first + front_size n (entries_after c.more)
          sizes = at.passed ∙ ap (λ (a : ℕ). front_size a (pages_in c)) q

          whole : thin_entries p c.first ≡ c.first
          whole =
              none-taken c.first (find-no (is p) c.first
              (before-all (is p) c.first k (omega (arith, sizes))
              (before-left (is p) c.first (on_pages c.more) k z)))

          kept : Kept n c.more (without p c).more
          kept =
              pages-kept c.more n (k - length c.first) (w.laid.pages (old_bucket x)).more
              (omega (arith, q, at.inside, length-map c.more (λ (a : Page). block_of_bit x a.bit)))
              (omega (arith, sizes))
              (before-part (is p) c.first (on_pages c.more) [] k
              (subst (λ (es : List Entry). Before (is p) (c.first ++ es) k) (sym (append-nil (on_pages c.more))) z))

          stays : Marks (chain_blocks x (old_bucket x) (without p c)) (λ a. front_size a (pages_in (without p c))) g k
          stays =
              record {
                inside =
                    omega (arith, q, kept.inside, length-map (without p c).more (λ (a : Page). block_of_bit x a.bit));
                block =
                    at.block ∙ ap (λ (a : ℕ). get_or (chain_blocks x (old_bucket x) c) a 0) q ∙ kept.block
                    ∙ ap (λ (a : ℕ). get_or (chain_blocks x (old_bucket x) (without p c)) a 0) (sym q);
                passed =
                    sizes ∙ omega (arith, ap length whole, kept.front)
                    ∙ ap (λ (a : ℕ). front_size a (pages_in (without p c))) (sym q);
                near = omega (arith, l);
                few = at.few;
              }
