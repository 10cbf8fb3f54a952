-- The block stores of a plan, done one after the other, are those of the change that it was made of.
use Rattle.std.specs.Prelude.{◌≡◌, ◌&&◌, length, get_or, Ok}
use Rattle.std.proofs.Math.Path.{refl, ap, subst}
use Rattle.std.proofs.Common.{sym, ◌∙◌, arith}
use Rattle.std.proofs.Math.Bool.{true}
use mathlib.Core.List.{List, [], ◌∷◌, ◌++◌}
use Prim.Native.Nat.{ℕ, zero, suc, ◌+◌, ◌*◌, ◌≤◌, ◌<◌}
use borrow.Author.Tests.{lt-ltb, le-leb, eq-eqb}
use Rattle.lists.specs.Lists.{Each}
use Rattle.lists.specs.ListsLaws.{each_append}
use Rattle.lists.specs.Block.{block}
use Rattle.store.specs.Store.{number_at}
use Rattle.model.specs.Calls.{size_ok}
use Rattle.outcomes.proofs.OutcomeSoundLaws.{blocks_is, legal-is}
use Rattle.journal.specs.Journal.{Disk, BlockStore, image, mark, page, do_store, run, head, ending, wipe, image_stores}
use Rattle.journal.specs.Journal.{page_stores, stores, write}
use Rattle.journal.specs.Altered.{altered, images_of, change_stores, written}
use Rattle.journal.specs.Cut.{Cut, Torn, between, inside, later, Whole, Ready, Becomes}
use Rattle.journal.specs.Planned.{plan_to, plan_over, plan_count, plan_store}
use Rattle.journal.specs.CopyLaws.{each-run}
use Rattle.journal.proofs.AlteredLaws.{altered-below, stores_to-none, stores_to-some, length-stores_to}
use Rattle.journal.proofs.PlannedLaws.{length-plan_over, count-plan_over, plan_stores-to}
use Rattle.journal.proofs.BecomesLaws.{leaves}
use Rattle.cuts.specs.Halves.{place_of, place_ok, store_ok, store_in, Stored, store_outcome}
use Rattle.cuts.specs.InOrder.{do_stores, AllDone, InOrder}

-- no block store
all_none : (p : List ℕ) (i : ℕ) (g : Disk) (k : ℕ) → k ≤ 0 → Cut g [] k (do_stores p i k g)
all_none p i g zero h = between
all_none p i g (suc k) h = absurd (omega arith)

torn-none : (p : List ℕ) (i : ℕ) (g : Disk) (k : ℕ) (b : List ℕ) → k < 0 → Torn (plan_store p (i + k)) b
    → Cut g [] k (write (plan_store p (i + k)) b (do_stores p i k g))
torn-none p i g k b h u = absurd (omega arith)

-- ---- the block stores from the i-th on, of a plan for a store of m blocks

module _ (p : List ℕ) (m : ℕ) (long : 5632 ≤ length p) (legal : size_ok m ≡ true) (some : 1 ≤ plan_count p)
    (few : plan_count p ≤ 8) where
  -- one of them
  one : (i : ℕ) (q : BlockStore) → i < 2 * plan_count p + 3 → plan_store p i ≡ q → place_ok q m ≡ true → (g : Disk)
      → Whole m g → store_outcome g p i ≡ record { answer = Ok (place_of q); disk = do_store q g }
  unfolding store_outcome
  one i q l e ok g w =
      let a = le-leb 5632 (length p) long in
      let b = legal-is g.store m w.store ∙ legal in
      let c = eq-eqb (length g.journal) 8192 w.journal in
      (λ j. store_in (a j) (b j) (c j) (fine j) g p i)
      ∙ ap (λ (q : BlockStore). record { answer = Ok (place_of q); disk = do_store q g }) e
    where
      fine : store_ok g p i ≡ true
      fine =
          let a = le-leb 1 (plan_count p) some in
          let b = le-leb (plan_count p) 8 few in
          let c = lt-ltb i (2 * plan_count p + 3) l in
          let s = blocks_is g.store m w.store in
          (λ j. a j && (b j && (c j && place_ok (e j) (s j)))) ∙ ok

  pub record Done (i : ℕ) (qs : List BlockStore) (g : Disk) : Type 0 where
    pub each : AllDone p i (length qs) g
    pub leaves : do_stores p i (length qs) g ≡ run qs g
    pub cuts : (k : ℕ) → k ≤ length qs → Cut g qs k (do_stores p i k g)
    pub torn : (k : ℕ) (b : List ℕ) → k < length qs → Torn (plan_store p (i + k)) b
        → Cut g qs k (write (plan_store p (i + k)) b (do_stores p i k g))

  -- all of them; store and journal keep their lengths
  all_done : (i : ℕ) (qs : List BlockStore) → i + length qs ≡ 2 * plan_count p + 3
      → ((j : ℕ) → plan_store p (i + j) ≡ get_or qs j wipe) → Each (λ (q : BlockStore). place_ok q m ≡ true) qs
      → (g : Disk) → ((k : ℕ) (e : Disk) → Cut g qs k e → Whole m e) → Done i qs g
  all_done i [] l at ok g w = record { each = tt; leaves = refl; cuts = all_none p i g; torn = torn-none p i g }
  all_done i (q ∷ qs) l at ok g w =
      next
      (all_done (suc i) qs (omega arith)
      (λ j. let z : suc i + j ≡ i + suc j = omega arith in ap (plan_store p) z ∙ at (suc j)) ok.1 (do_store q g)
      (λ k e c. w (suc k) e (later c)))
    where
      here : plan_store p i ≡ q
      here = let z : i ≡ i + 0 = omega arith in ap (plan_store p) z ∙ at 0

      first : store_outcome g p i ≡ record { answer = Ok (place_of q); disk = do_store q g }
      first = one i q (omega arith) here ok.0 g (w 0 g between)

      disk : (store_outcome g p i).disk ≡ do_store q g
      disk = ap (λ (s : Stored). s.disk) first

      first_of : Done (suc i) qs (do_store q g) → (k : ℕ) → k ≤ suc (length qs) → Cut g (q ∷ qs) k (do_stores p i k g)
      first_of rest zero h = between
      first_of rest (suc k) h =
          later
          (subst (λ (e : Disk). Cut (do_store q g) qs k (do_stores p (suc i) k e)) (sym disk)
          (rest.cuts k (omega arith)))

      first-torn : Done (suc i) qs (do_store q g) → (k : ℕ) (b : List ℕ) → k < suc (length qs)
          → Torn (plan_store p (i + k)) b → Cut g (q ∷ qs) k (write (plan_store p (i + k)) b (do_stores p i k g))
      first-torn rest zero b h =
          subst (λ (s : BlockStore). Torn s b → Cut g (q ∷ qs) 0 (write s b g)) (sym (at 0)) (λ u. inside u)
      first-torn rest (suc k) b h =
          let z : suc i + k ≡ i + suc k = omega arith in
          subst
          (λ (j : ℕ). Torn (plan_store p j) b
          → Cut g (q ∷ qs) (suc k) (write (plan_store p j) b (do_stores p i (suc k) g))) z
          (subst
          (λ (e : Disk). Torn (plan_store p (suc i + k)) b
          → Cut g (q ∷ qs) (suc k) (write (plan_store p (suc i + k)) b (do_stores p (suc i) k e))) (sym disk)
          (λ u. later (rest.torn k b (omega arith) u)))

      next : Done (suc i) qs (do_store q g) → Done i (q ∷ qs) g
      next rest =
          record {
            each = (
              ap (λ (s : Stored). s.answer) first ∙ ap (λ (q : BlockStore). Ok (place_of q)) (sym here),
              subst (AllDone p (suc i) (length qs)) (sym disk) rest.each,
            );
            leaves = ap (do_stores p (suc i) (length qs)) disk ∙ rest.leaves;
            cuts = first_of rest;
            torn = first-torn rest;
          }

-- ---- of the plan of a change

module _ {d : Disk} {m : ℕ} {t : List ℕ} (r : Ready d) (c : Becomes d m t) where
  abbrev number : ℕ
  number = number_at d.store

  abbrev ks : List ℕ
  ks = altered d.store t

  -- the blocks of the store are below m
  places : 1 ≤ length ks → Each (λ (q : BlockStore). place_ok q m ≡ true) (change_stores d t)
  unfolding stores
  places h =
      subst (Each Ok) (sym (stores_to-some number d.store t h))
      (each_append Ok (image_stores images 0 n)
      (mark 0 (head number ks n) ∷ mark 15 (ending number ks n) ∷ (page_stores ks images 0 n ++ (wipe ∷ [])))
      (each-run Ok (λ j. image (1 + j) (block images j)) 0 n (λ j a b. refl))
      (refl, (refl, each_append Ok (page_stores ks images 0 n) (wipe ∷ []) pages (refl, tt))))
    where
      Ok : BlockStore → Type 0
      Ok q = place_ok q m ≡ true

      images : List ℕ
      images = images_of d.store t

      n : ℕ
      n = length ks

      pages : Each Ok (page_stores ks images 0 n)
      pages =
          each-run Ok (λ j. page (get_or ks j 0) (block images j)) 0 n
          (λ j a b. lt-ltb (get_or ks j 0) m (altered-below d.store t m c.size c.same j (omega arith)))

  pub in_order_lem : size_ok m ≡ true → length ks ≤ 8 → (b : List ℕ) → 5632 ≤ length b
      → InOrder d (plan_over (plan_to number d.store t) b) (length (change_stores d t)) t (written d t)
  unfolding written plan_store
  in_order_lem legal few b long = go (length ks) refl
    where
      plan : List ℕ
      plan = plan_over (plan_to number d.store t) b

      reads : 1 ≤ length ks → (j : ℕ) → plan_store plan (0 + j) ≡ get_or (change_stores d t) j wipe
      reads h j =
          let z : 0 + j ≡ j = omega arith in
          ap (plan_store plan) z
          ∙ ap (λ (ps : List BlockStore). get_or ps j wipe)
          (plan_stores-to number d.store t m c.size c.same c.small h few b long)

      go : (n : ℕ) → length ks ≡ n → InOrder d plan (length (change_stores d t)) t (run (change_stores d t) d)
      go zero e =
          let q = sym (stores_to-none number d.store t e) in
          record {
            stores = refl;
            each = subst (λ (ps : List BlockStore). AllDone plan 0 (length ps) d) q tt;
            leaves = subst (λ (ps : List BlockStore). do_stores plan 0 (length ps) d ≡ run ps d) q refl;
            cuts =
                subst (λ (ps : List BlockStore). (k : ℕ) → k ≤ length ps → Cut d ps k (do_stores plan 0 k d)) q
                (all_none plan 0 d);
            torn =
                subst
                (λ (ps : List BlockStore). (k : ℕ) (g : List ℕ) → k < length ps → Torn (plan_store plan k) g
                → Cut d ps k (write (plan_store plan k) g (do_stores plan 0 k d))) q
                (λ k g h u. absurd (omega arith));
          }
      go (suc n) e =
          let h : 1 ≤ length ks = omega arith in
          let z = length-plan_over number d.store t m c.size c.same c.small h few b long in
          let k = count-plan_over number d.store t m c.size c.same c.small h few b long in
          let f = all_done plan m (omega arith) legal (omega arith) (omega arith) 0 (change_stores d t)
          (omega (arith, length-stores_to number d.store t h)) (reads h) (places h) d
          (λ k e q. (leaves r c q).whole) in
          record {
            stores = refl;
            each = f.each;
            leaves = f.leaves;
            cuts = f.cuts;
            torn =
                λ k g l. let z : 0 + k ≡ k = omega arith in
                subst
                (λ (j : ℕ). Torn (plan_store plan j) g
                → Cut d (change_stores d t) k (write (plan_store plan j) g (do_stores plan 0 k d))) z
                (f.torn k g l);
          }
