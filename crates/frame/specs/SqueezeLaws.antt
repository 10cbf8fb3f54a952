-- The blocks that a squeeze's step alters, at most five: it is a cut of the moved entry's pair, and a put.
use Rattle.std.specs.Prelude.{◌≡◌, refl, ◌≢◌, Bool, true, false, cond, not, ◌&&◌, ◌||◌, ℕ, suc, ◌+◌, ◌-◌, ◌≤◌, ◌<◌}
use Rattle.std.proofs.Math.Path.{sym, ap}
use Rattle.std.proofs.Common.{ap₂, ◌∙◌, subst, arith, ltb-false}
use mathlib.Core.List.{List, [], ◌∷◌, ◌++◌, append-nil}
use Rattle.std.proofs.Math.Option.{Option, none, some}
use Rattle.std.proofs.Math.Decide.{ℕ_discrete}
use Rattle.std.proofs.Math.ListN.{length, length-set}
use Rattle.lists.specs.Lists.{b2n, tally}
use Rattle.lists.specs.ListsLaws.{tally-append, any_append, any-yes, zero-any}
use Rattle.page.specs.declared.Pair.{Pair}
use Rattle.page.specs.declared.Entry.{Entry}
use Rattle.page.specs.Pair.{is}
use Rattle.page.specs.PairLaws.{same_refl}
use Rattle.model.specs.Index.{Page, Chain, Index, on_pages, chain, entries_at, set_chain}
use Rattle.model.specs.Pages.{add_entry, add_page, is_free, in_use, thin, without, cut}
use Rattle.model.specs.Steps.{next}
use Rattle.model.specs.Squeeze.{final, shortened, mover, moved_to, squeeze_in, squeeze_step}
use Rattle.model.specs.WellFormed.{Laid, WF}
use Rattle.model.specs.StandLaws.{chain-here, set-again, set_back}
use Rattle.model.proofs.LaidLaws.{cut-laid}
use Rattle.model.proofs.StepsLeftLaws.{stands-once}
use Rattle.model.proofs.FrameLaws.{squeeze-frame}
use Rattle.model.proofs.SqueezeLaws.{pages, page, rest, behind, Moving, mover-is, nowhere, last-thin, without_is}
use Rattle.model.proofs.SqueezeLaws.{squeezed-is}
use Rattle.model.proofs.SqueezeStepLaws.{Squeezing, moved, squeeze-view, mover-range, squeeze-wf, squeeze-count}
use Rattle.image.specs.Layout.{encode_block}
use Rattle.frame.specs.Frame.{Apart, block_of_bit, map_block, place_block, page_block}
use Rattle.frame.specs.Frame.{room_place, last_place, early_block, on_page, more_place, pair_place, frees}
use Rattle.frame.specs.Frame.{frees_at, map_blocks, pair_blocks, squeeze_alters, squeeze_blocks}
use Rattle.frame.specs.ListsLaws.{place-right}
use Rattle.frame.specs.PutLaws.{frame-room, frame-again}
use Rattle.frame.specs.CutLaws.{frees-none}
use Rattle.frame.specs.RemoveLaws.{frame-cut}
use Rattle.frame.specs.BehindLaws.{behind-place, last-place, front-inside, behind-block, behind-last}
use Rattle.frame.specs.MetaLaws.{meta-same, room-free, thin-free}

-- ---- pages without a pair

pages-without : (p : Pair) (gs : List Page) → tally (is p) (on_pages gs) ≡ 0 → tally (on_page p) gs ≡ 0
pages-without p [] z = refl
pages-without p (g ∷ gs) z = go (on_page p g) refl (pages-without p gs (omega (arith, q)))
  where
    q : tally (is p) g.entries + tally (is p) (on_pages gs) ≡ 0
    q = sym (tally-append (is p) g.entries (on_pages gs)) ∙ z

    go : (a : Bool) → on_page p g ≡ a → tally (on_page p) gs ≡ 0 → b2n a + tally (on_page p) gs ≡ 0
    go true k ih = absurd (omega (arith, q, any-yes (is p) g.entries k))
    go false k ih = omega arith

-- ---- an entry that moves

module _ (x : Index) (w : WF x) (b : ℕ) (e : Entry) (h : mover (chain x b) ≡ some e) where
  abbrev c : Chain
  c = chain x b

  abbrev p : Pair
  p = e.pair

  -- with the entry out, and in again
  abbrev z : Index
  z = cut e.pair b x

  abbrev y : Index
  y = moved_to x b e

  l : Laid x
  l = w.laid

  fits : b < length x.chains
  fits = mover-range x b e h

  once : tally (is e.pair) (entries_at x b) ≤ 1
  once = stands-once x w e.pair b

  abbrev m : Moving (chain x b) e
  m = mover-is (chain x b) e h

  abbrev front : Chain
  front = pages (chain x b).first m.before

  abbrev last : Page
  last = page m.bit (m.entries ++ e ∷ [])

  pub fits-z : b < length (cut e.pair b x).chains
  unfolding cut
  fits-z = omega (arith, length-set x.chains b (without p c), fits)

  pub laid-z : Laid (cut e.pair b x)
  laid-z = cut-laid x l b fits p

  pub chain-z : let m = mover-is (chain x b) e h in
      chain (cut e.pair b x) b ≡ behind (rest m.bit m.entries) (pages (chain x b).first m.before)
  unfolding cut
  chain-z = chain-here x x.spares b (without p c) fits ∙ without_is c e (l.pages b) once m

  -- the step is the cut, and a put
  pub again : let z = cut e.pair b x in set_chain z z.spares b (add_entry e (chain z b)) ≡ moved_to x b e
  unfolding cut
  again =
      set-again x x.spares b (without p c) (add_entry e (chain z b))
      ∙ ap (set_chain x x.spares b)
      (ap (add_entry e) (chain-here x x.spares b (without p c) fits) ∙ sym (squeezed-is c e (l.pages b) once m))

  -- ---- the put

  pub target : let z = cut e.pair b x in page_block z b (room_place (chain z b)) ≡ early_block x b
  unfolding cut
  target =
      (λ t. place_block x b (chain-z t) (room_place (chain-z t)))
      ∙ ap (place_block x b (behind (rest m.bit m.entries) front))
      (behind-place (rest m.bit m.entries) front m.room)
      ∙ behind-block x b front (rest m.bit m.entries) (room_place front) (front-inside m)
      ∙ sym (behind-block x b front (last ∷ []) (room_place front) (front-inside m))
      ∙ (λ t. place_block x b (sym m.shape t) (room_place (sym m.early t)))

  frame-in : (k : ℕ) → k ≢ 0 → k ≢ early_block x b → encode_block y k ≡ encode_block z k
  frame-in k nz nt =
      ap (λ (v : Index). encode_block v k) (sym again)
      ∙ frame-room z laid-z b fits-z e none k (nz, ((λ q. nt (q ∙ target)), tt))

  -- ---- the cut, where the last page keeps an entry

  place : pair_place p (chain x b) ≡ last_place (chain x b)
  place =
      ap (λ (a : Bool). cond a 0 (suc (more_place p c.more)))
      (zero-any (is p) c.first (omega (arith, nowhere c e (l.pages b) once m)))
      ∙ ap (λ (d : Chain). suc (more_place p d.more)) m.shape
      ∙ ap suc
      (place-right (on_page p) m.before (last ∷ [])
      (pages-without p m.before (omega (arith, nowhere c e (l.pages b) once m)))
      ∙ ap (λ (a : Bool). length m.before + cond a 0 1) here)
      ∙ omega (arith, last-place m)
    where
      here : on_page e.pair last ≡ true
      here =
          any_append (is p) m.entries (e ∷ [])
          ∙ ap₂ (λ (a d : Bool). a || (d || false))
          (zero-any (is p) m.entries (omega (arith, nowhere c e (l.pages b) once m))) (same_refl p)

  module _ (u : in_use (page m.bit m.entries) ≡ true) where
    stays : frees_at x b p ≡ false
    stays =
        ap (λ (d : Chain). frees p d.more) m.shape
        ∙ any_append (λ (g : Page). on_page p g && not (in_use (thin p g))) m.before (last ∷ [])
        ∙ go (frees p m.before) (in_use (thin p last)) (on_page p last)
        (frees-none p m.before (omega (arith, nowhere c e (l.pages b) once m)))
        (ap (λ (es : List Entry). in_use (page m.bit es)) (last-thin c e (l.pages b) once m) ∙ u)
      where
        go : (a i o : Bool) → a ≡ false → i ≡ true → a || (o && not i || false) ≡ false
        go a i true q r = rw (q, r)
        go a i false q r = rw q

    frame-thin : (k : ℕ) → k ≢ 0 → k ≢ page_block x b (last_place (chain x b)) → encode_block z k ≡ encode_block x k
    frame-thin k nz nl =
        frame-cut x l b fits p once k (
          nz,
          subst (λ (f : Bool). Apart k (map_blocks f x ++ pair_blocks f x b c p)) (sym stays)
              ((λ q. nl (q ∙ ap (page_block x b) place)), tt),
        )

    -- no page is freed, and the count stays: so does the meta block
    frame-meta : encode_block y 0 ≡ encode_block x 0
    frame-meta =
        meta-same x y l (squeeze-wf b x y w step).laid (squeeze-frame b x y step).frame
        (squeeze-count b x y w step) refl free
      where
        step : squeeze_step b x ≡ next y
        step = unfold squeeze_step in ap (λ (o : Option Entry). squeeze_in o b x) h

        free : (n : ℕ) → is_free y n ≡ is_free x n
        free n =
            ap (λ (v : Index). is_free v n) (sym again)
            ∙ room-free z b fits-z e n
            ∙ thin-free x l b fits p once stays n

  -- ---- the cut, where it frees the last page: the page is at the end of the chain without it

  module _ (u : in_use (page m.bit m.entries) ≡ false) where
    empty : m.entries ≡ []
    empty = nil m.entries (ltb-false 0 (length m.entries) u)
      where
        nil : (es : List Entry) → length es ≤ 0 → es ≡ []
        nil [] q = refl
        nil (d ∷ es) q = absurd (omega arith)

    gone : chain z b ≡ front
    gone =
        chain-z
        ∙ ap (λ (f : Bool). behind (cond f (page m.bit m.entries ∷ []) []) front) u
        ∙ ap (pages (chain x b).first) (append-nil m.before)

    back : set_chain z z.spares b (add_page m.bit e (chain z b)) ≡ x
    unfolding cut
    back =
        set-again x x.spares b (without p c) (add_page m.bit e (chain z b))
        ∙ ap (set_chain x x.spares b)
        (ap (add_page m.bit e) gone
        ∙ ap (λ (es : List Entry). behind (page m.bit (es ++ e ∷ []) ∷ []) front) (sym empty)
        ∙ sym m.shape)
        ∙ set_back x b

    before : page_block z b (last_place (chain z b)) ≡ page_block x b (last_place (chain x b) - 1)
    unfolding cut
    before =
        let i : length m.before ≡ last_place (chain x b) - 1 = omega (arith, last-place m) in
        (λ t. place_block x b (gone t) (last_place (gone t)))
        ∙ sym (behind-block x b front (last ∷ []) (length m.before) (omega arith))
        ∙ (λ t. place_block x b (sym m.shape t) (length m.before))
        ∙ ap (page_block x b) i

    own : block_of_bit z m.bit ≡ page_block x b (last_place (chain x b))
    unfolding cut
    own = sym (behind-last x b front last) ∙ (λ t. place_block x b (sym m.shape t) (sym (last-place m) t))

    frame-freed : (k : ℕ) → k ≢ 0 → k ≢ map_block x → k ≢ page_block x b (last_place (chain x b) - 1)
        → k ≢ page_block x b (last_place (chain x b)) → encode_block z k ≡ encode_block x k
    frame-freed k nz nm nb nl =
        sym (frame-again z laid-z b fits-z e m.bit k
        (nz, ((unfold cut in nm), ((λ q. nb (q ∙ before)), ((λ q. nl (q ∙ own)), tt)))))
        ∙ ap (λ (v : Index). encode_block v k) back

  frame-moved : (k : ℕ) → Apart k (squeeze_blocks x b) → encode_block y k ≡ encode_block x k
  frame-moved k a =
      go (in_use (page m.bit m.entries)) refl
      (subst (λ (gs : List Page). Apart k (squeeze_alters gs x b)) m.left a)
    where
      go : (u : Bool) → in_use (page m.bit m.entries) ≡ u
          → Apart k (squeeze_alters (cond u (page m.bit m.entries ∷ []) []) x b)
          → encode_block y k ≡ encode_block x k
      go true u a = at (ℕ_discrete k 0)
        where
          at : Dec (k ≡ 0) → encode_block y k ≡ encode_block x k
          at (yes q) = subst (λ (j : ℕ). encode_block y j ≡ encode_block x j) (sym q) (frame-meta u)
          at (no q) = frame-in k q a.0 ∙ frame-thin u k q a.1.0
      go false u a =
          frame-in k a.0 a.1.1.0 ∙ frame-freed u k a.0 a.1.0 a.1.1.1.0 a.1.1.1.1.0

-- ---- the step

pub frame-squeeze : (x : Index) → WF x → (b : ℕ) (y : Index) → squeeze_step b x ≡ next y
    → (k : ℕ) → Apart k (squeeze_blocks x b) → encode_block y k ≡ encode_block x k
frame-squeeze x w b y h k a = go (rw h at (squeeze-view x b))
  where
    go : {z : Index} → Squeezing x b (next z) → encode_block z k ≡ encode_block x k
    go (moved e q) = frame-moved x w b e q k a

pub few-squeeze : (x : Index) (b : ℕ) → length (squeeze_blocks x b) ≤ 5
few-squeeze x b = go (shortened (final (chain x b).more))
  where
    go : (left : List Page) → length (squeeze_alters left x b) ≤ 5
    go [] = omega arith
    go (g ∷ gs) = omega arith
