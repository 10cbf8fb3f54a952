-- What a call and a step do to the fields of the meta block: the count, and that the rest stays where no page is
-- taken or freed.
use Rattle.std.specs.Prelude.{◌≡◌, refl, ◌≢◌, Bool, true, false, cond, not, ◌&&◌, ◌||◌, ℕ, suc, ◌≤◌, ◌<◌, eqb, length, get_or}
use Rattle.std.proofs.Common.{sym, ap, ◌∙◌, arith}
use Rattle.std.proofs.Math.Option
use Rattle.lists.specs.Lists.{b2n, tally, find, up_from}
use Rattle.lists.specs.ListsLaws.{tally-append, any-yes}
use Rattle.address.specs.Address.{high_mask, low_mask, point}
use Rattle.page.specs.declared.Pair.{Pair}
use Rattle.page.specs.declared.Entry.{Entry}
use Rattle.page.specs.Pair.{same, is, enter}
use Rattle.page.specs.AscendingLaws.{ascending-once, length-enter}
use Rattle.model.specs.Index.{idle, Index, on_pages, chain, entries_at, top_bit, set_chain}
use Rattle.model.specs.Pages.{add_entry, first_free, without, cut, is_free}
use Rattle.model.specs.Held.{held, self, count}
use Rattle.model.specs.Steps.{next, step}
use Rattle.model.specs.Calls.{Result, done, insert, remove}
use Rattle.model.specs.Machine.{inserting, CallFits}
use Rattle.model.specs.WellFormed.{Laid, WF}
use Rattle.model.proofs.ViewLaws.{Inserting, insert-view, inserted, Removing, remove-view, removed}
use Rattle.model.specs.TallyLaws.{length-parts}
use Rattle.model.specs.Book.{puts, takes, noted}
use Rattle.model.specs.BookLaws.{noted-ascending, has-puts, has-takes}
use Rattle.model.proofs.CountLaws.{held_pairs, held_pairs-ascending, held_pairs-has, count-is}
use Rattle.model.specs.ChainLaws.{bits-add}
use Rattle.model.proofs.InsertLaws.{insert-wf, insert-held}
use Rattle.model.proofs.RemoveLaws.{remove-wf, remove-held}
use Rattle.model.proofs.StepLaws.{step-wf, step-held}
use Rattle.model.proofs.FrameLaws.{Framed, job-frame}
use Rattle.model.proofs.MachineLaws.{never}
use Rattle.image.specs.declared.Meta.{Meta}
use Rattle.image.specs.Layout.{paged, meta_front, padded, meta_of, map_bit, encode_block}
use Rattle.store.specs.Flags.{no_link}
use Rattle.image.proofs.BoundLaws.{top_small}
use Rattle.image.specs.FreeLaws.{first-zero}
use Rattle.frame.specs.Frame.{frees_at}
use Rattle.frame.specs.ImagesLaws.{meta-image}
use Rattle.frame.specs.ChainLaws.{free-kept}
use Rattle.frame.specs.CutLaws.{bits-cut}

-- ---- the count

module _ (x : Index) (w : WF x) where
  count-old : count x ≡ length (held_pairs x)
  count-old = count-is x w (held_pairs x) (held_pairs-ascending x w) (held_pairs-has x w)

  pub insert-count : (p : Pair) (y : Index) → CallFits (inserting p) → insert x p ≡ done y → count y ≡ suc (count x)
  insert-count p y f e =
      count-is y (insert-wf x p y w f e) (noted (puts p) (held_pairs x))
      (noted-ascending (puts p) (held_pairs x) (held_pairs-ascending x w))
      (λ q. has-puts p q (held_pairs x) ∙ ap (λ (b : Bool). same q p || b) (held_pairs-has x w q)
      ∙ sym (insert-held x p y w f e q))
      ∙ ap (λ (b : Bool). length (cond b (held_pairs x) (enter self p (held_pairs x))))
      (held_pairs-has x w p ∙ absent (insert x p) (insert-view x p) e)
      ∙ length-enter self p (held_pairs x)
      ∙ ap suc (sym count-old)
    where
      absent : (r : Result) → Inserting x p r → r ≡ done y → held x p ≡ false
      absent r (Inserting.wrong q) e = never (cc)
      absent r (Inserting.already q h) e = never (cc)
      absent r (Inserting.no_room q h v) e = never (cc)
      absent r (inserted q h v) e = h

  pub remove-count : (p : Pair) (y : Index) → remove x p ≡ done y → count x ≡ suc (count y)
  remove-count p y e =
      omega (
        arith,
        count-old,
        length-parts (same p) (held_pairs x),
        ascending-once self p (held_pairs x) (held_pairs-ascending x w),
        any-yes (same p) (held_pairs x) (held_pairs-has x w p ∙ present (remove x p) (remove-view x p) e),
        count-is y (remove-wf x p y w e) (noted (takes p) (held_pairs x))
            (noted-ascending (takes p) (held_pairs x) (held_pairs-ascending x w))
            (λ q. has-takes p q (held_pairs x) ∙ ap (λ (b : Bool). not (same q p) && b) (held_pairs-has x w q)
            ∙ sym (remove-held x p y w e q)),
      )
    where
      present : (r : Result) → Removing x p r → r ≡ done y → held x p ≡ true
      present r (Removing.wrong q) e = never (cc)
      present r (Removing.absent q h) e = never (cc)
      present r (removed q h) e = h

  pub step_count : (y : Index) → step x ≡ next y → count y ≡ count x
  step_count y e =
      count-is y (step-wf x y w e) (held_pairs x) (held_pairs-ascending x w)
      (λ p. held_pairs-has x w p ∙ sym (step-held x y w e p))
      ∙ sym count-old

-- ---- first free

first-same : (x y : Index) → Laid x → Laid y → top_bit y ≡ top_bit x → ((n : ℕ) → is_free y n ≡ is_free x n)
    → first_free y ≡ first_free x
first-same x y l m t f =
    let bits : (n : ℕ) → map_bit y n ≡ map_bit x n = λ n. ap (λ (b : Bool). b2n (not b)) (f n) in
    sym (first-zero y (map_bit y) (omega (arith, top_small y m)) (λ n h. refl))
    ∙ ap (Option.get_or (find (λ n. eqb (map_bit y n) 0) (up_from 0 2048))) t
    ∙ first-zero x (map_bit y) (omega (arith, top_small x l)) (λ n h. bits n)

-- ---- a change that leaves the count, and takes and frees no page, leaves the meta block

pub meta-same : (x y : Index) → Laid x → Laid y → Framed x y → count y ≡ count x → y.spares ≡ x.spares
    → ((n : ℕ) → is_free y n ≡ is_free x n)
    → encode_block y 0 ≡ encode_block x 0
unfolding meta_of
meta-same x y l m frame c s f =
    meta-image y m ∙ ap (λ (m : Meta). paged (meta_front m) no_link no_link no_link 8) same
    ∙ sym (meta-image x l)
  where
    top : top_bit y ≡ top_bit x
    top = λ i. get_or (s i) (point (frame.max_bucket i)) 0

    same : meta_of y ≡ meta_of x
    same =
        let f = first-same x y l m top f in
        let m = frame.max_bucket in
        λ i. record {
          count = c i;
          fill = frame.fill i;
          max = m i;
          high = high_mask (m i);
          low = low_mask (m i);
          point = point (m i);
          free = f i;
          size = frame.size i;
          spares = padded (s i);
          number = frame.number i;
        }

-- as does a step of a job
pub step-meta : (x y : Index) → WF x → x.job ≢ idle → step x ≡ next y → y.spares ≡ x.spares
    → ((n : ℕ) → is_free y n ≡ is_free x n)
    → encode_block y 0 ≡ encode_block x 0
step-meta x y w j e s f =
    meta-same x y w.laid (step-wf x y w e).laid (job-frame x y j e) (step_count x w y e) s f

-- an entry put into a page with room, and a pair cut with no page left empty, leave the bitmap
pub room-free : (x : Index) (b : ℕ) → b < length x.chains → (e : Entry)
    → (n : ℕ) → is_free (set_chain x x.spares b (add_entry e (chain x b))) n ≡ is_free x n
room-free x b fits e = free-kept x b (add_entry e (chain x b)) fits (λ n. bits-add (eqb n) e (chain x b))

pub thin-free : (x : Index) → Laid x → (b : ℕ) → b < length x.chains → (p : Pair) → tally (is p) (entries_at x b) ≤ 1
    → frees_at x b p ≡ false → (n : ℕ) → is_free (cut p b x) n ≡ is_free x n
unfolding cut
thin-free x l b fits p once f =
    free-kept x b (without p (chain x b)) fits
    (λ n. ap (tally (eqb n)) (bits-cut x p (chain x b).more (l.pages b).more
    (omega (arith, once, tally-append (is p) (chain x b).first (on_pages (chain x b).more))) f))
