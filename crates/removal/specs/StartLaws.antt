-- Where cuts start, and what two of them come to.
use Rattle.std.specs.Prelude.{◌≡◌, ◌≢◌, List, [], ◌++◌, ℕ, ◌≤◌, ◌<◌, length}
use Rattle.std.proofs.Math.Path.{refl, ap, subst}
use Rattle.std.proofs.Common.{sym, ◌∙◌, arith}
use Rattle.std.proofs.Math.ListN.{length-set}
use Rattle.lists.specs.Lists.{tally}
use Rattle.lists.specs.TestLaws.{each_left, each_right}
use Rattle.page.specs.declared.Pair.{Pair}
use Rattle.page.specs.Pair.{is}
use Rattle.store.specs.declared.Change.{Change}
use Rattle.model.specs.Index.{Chain, Index, entries_in, chain, entries_at}
use Rattle.model.specs.Pages.{first_free, without, cut}
use Rattle.model.specs.Held.{count}
use Rattle.model.specs.WellFormed.{Laid}
use Rattle.model.proofs.LaidLaws.{cut-laid}
use Rattle.model.specs.StandLaws.{chain-there}
use Rattle.image.specs.declared.Meta.{Meta}
use Rattle.image.specs.Layout.{map_bit}
use Rattle.image.specs.Decode.{decode}
use Rattle.frame.specs.Frame.{cut_blocks}
use Rattle.frame.specs.RemoveLaws.{stands-once, frame-cut}
use Rattle.view.specs.Reads.{Reads}
use Rattle.view.specs.ReadsLaws.{reads-laid, reads-max, reads-meta}
use Rattle.draft.specs.Draft.{Draft}
use Rattle.plan.specs.Fields.{fields_after}
use Rattle.plan.specs.SketchLaws.{sketch-none}
use Rattle.plan.specs.StoreLaws.{block-is}
use Rattle.std.specs.Prelude.{Option, None}
use Rattle.removal.specs.Freeing.{freed_at, clears, lowers, Below}
use Rattle.chain.specs.Search.{at_slot}
use Rattle.view.specs.Places.{find_at}
use Rattle.removal.specs.Cutting.{Sketches, Findable, Cuttable}
use Rattle.removal.specs.Ending.{Ending}
use Rattle.plan.specs.FieldLaws.{read-free}
use Rattle.removal.specs.ShowLaws.{sketch-wider}
use Rattle.removal.specs.CutFieldLaws.{clears-same, cut-bits, cut_below, cut-free, cut-meta}

pub sketches-wider : {s : List ℕ} {c : Change} {images : List ℕ} {n : ℕ} {x : Index} → Sketches s c images n x
    → (i : ℕ) → n ≤ i → Sketches s c images i x
sketches-wider g i h =
    record { d = g.d; ks = g.ks; sketch = sketch-wider g.sketch i h; shows = g.shows }

module _ {s : List ℕ} {m : Meta} (r : Reads s m) (p : Pair) where
  abbrev x : Index
  x = decode s

  range : (b : ℕ) → b ≤ m.max → b < length (decode s).chains
  range b h = omega (arith, h, reads-max r, (reads-laid r).whole)

  -- ---- no block is edited yet

  pub findable : {c : Change} {images : List ℕ} → Draft s c images s → c.count ≡ 0 → (b : ℕ) → b ≤ m.max
      → Findable s m c images 0 b p (decode s)
  findable g e b h =
      record {
        reads = r;
        made = h;
        like =
            record { laid = reads-laid r; size = refl; spares = refl; max = refl; job = refl; chain = refl };
        once = stands-once x r.wf p b;
        few = omega arith;
        sketches =
            record {
              d = s;
              ks = [];
              sketch = sketch-none g e;
              shows =
                  record {
                    pages = λ k l nz nm. block-is r k l;
                    meta = refl;
                    map = refl;
                  };
            };
      }

  pub cuttable : {c : Change} {images : List ℕ} → Draft s c images s → c.count ≡ 0 → (b : ℕ) → b ≤ m.max
      → {k slot : ℕ} → find_at (decode s) b p ≡ at_slot k slot → Cuttable s m c images k slot 0 b p (decode s)
  cuttable g e b h found = record { findable = findable g e b h; found = found }

  -- ---- one cut

  module _ (b : ℕ) (made : b ≤ m.max) where
    abbrev once : tally (is p) (entries_at (decode s) b) ≤ 1
    once = stands-once x r.wf p b

    pub one-ending : {c : Change} {images : List ℕ} {held : ℕ} {f : Option ℕ} → f ≡ freed_at (decode s) b p
        → Sketches s c images 3 (cut p b (decode s)) → count (cut p b (decode s)) ≡ held
        → Ending s m c images held f None (cut p b (decode s))
    unfolding cut
    one-ending {c} {images} {held} {f} e g n =
        let l = reads-laid r in
        let i = range b made in
        record {
          reads = r;
          sketches = sketches-wider g 6 (omega arith);
          laid = cut-laid x l b i p;
          same = record { size = refl; number = refl };
          map = refl;
          below = (subst Below (sym e) (cut_below x l b i p once), tt);
          bits = λ j. cut-bits x l b i p once j ∙ ap (λ (f : Option ℕ). clears f (map_bit x) j) (sym e);
          meta =
              cut-meta x l b i p once
              ∙ (λ t. fields_after (sym (reads-meta r) t) (n t)
              ((cut-free x l b i p once ∙ (λ u. lowers (sym e u) (sym (read-free r) u))) t));
          js = cut_blocks x b p;
          frame = frame-cut x l b i p once;
        }

  -- ---- two cuts, out of two chains

  module _ (o n : ℕ) (made : o ≤ m.max) (made' : n ≤ m.max) (ne : n ≢ o) where
    abbrev z : Index
    z = cut p o x

    laid-z : Laid (cut p o (decode s))
    laid-z = cut-laid x (reads-laid r) o (range o made) p

    chain-z : chain (cut p o (decode s)) n ≡ chain (decode s) n
    unfolding cut
    chain-z = chain-there x x.spares o (without p (chain x o)) (range o made) n ne

    range-z : n < length (cut p o (decode s)).chains
    unfolding cut
    range-z = omega (arith, length-set x.chains o (without p (chain x o)), range n made')

    once-z : tally (is p) (entries_at (cut p o (decode s)) n) ≤ 1
    once-z = subst (λ (c : Chain). tally (is p) (entries_in c) ≤ 1) (sym chain-z) (stands-once x r.wf p n)

    pub findable-again : {c : Change} {images : List ℕ} → Sketches s c images 3 (cut p o (decode s))
        → Findable s m c images 3 n p (cut p o (decode s))
    unfolding cut
    findable-again g =
        record {
          reads = r;
          made = made';
          like =
              record { laid = laid-z; size = refl; spares = refl; max = refl; job = refl; chain = chain-z };
          once = once-z;
          few = omega arith;
          sketches = g;
        }

    pub two-ending : {c : Change} {images : List ℕ} {held : ℕ} {f g : Option ℕ} → f ≡ freed_at (decode s) o p
        → g ≡ freed_at (cut p o (decode s)) n p → Sketches s c images 6 (cut p n (cut p o (decode s)))
        → count (cut p n (cut p o (decode s))) ≡ held
        → Ending s m c images held f g (cut p n (cut p o (decode s)))
    two-ending {f = f} {g} e u k h =
        let l = reads-laid r in
        let i = range o made in
        let once = stands-once x r.wf p o in
        record {
          reads = r;
          sketches = k;
          laid = cut-laid z laid-z n range-z p;
          same = unfold cut in record { size = refl; number = refl };
          map = unfold cut in refl;
          below = (
            subst Below (sym e) (cut_below x l o i p once),
            subst Below (sym u) (cut_below z laid-z n range-z p once-z),
          );
          bits =
              λ j. cut-bits z laid-z n range-z p once-z j
              ∙ clears-same (freed_at z n p) _ _ (cut-bits x l o i p once) j
              ∙ (λ t. clears (sym u t) (clears (sym e t) (map_bit x)) j);
          meta =
              cut-meta z laid-z n range-z p once-z
              ∙ (λ t. fields_after (cut-meta x l o i p once t) (count (cut p n z)) (first_free (cut p n z)))
              ∙ (λ t. fields_after (sym (reads-meta r) t) (h t)
              ((cut-free z laid-z n range-z p once-z ∙ ap (lowers (freed_at z n p)) (cut-free x l o i p once)
              ∙ (λ v. lowers (sym u v) (lowers (sym e v) (sym (read-free r) v)))) t));
          js = cut_blocks z n p ++ cut_blocks x o p;
          frame =
              λ j a. frame-cut z laid-z n range-z p once-z j (each_left (λ (v : ℕ). j ≢ v) (cut_blocks z n p) _ a)
              ∙ frame-cut x l o i p once j (each_right (λ (v : ℕ). j ≢ v) (cut_blocks z n p) _ a);
        }
