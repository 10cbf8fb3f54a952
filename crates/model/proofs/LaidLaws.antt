-- The layout is kept by an entry that is put, a pair that is cut, a begin, and another job.
use Rattle.std.specs.Prelude.{◌≡◌, refl, Bool, true, false, List, [], ◌∷◌, ◌++◌, ℕ, zero, suc, ◌+◌, ◌≤◌, ◌<◌, eqb, ltb, length, get_or, set}
use Rattle.std.proofs.Common.{sym, ap, ◌∙◌, subst, arith, ltb-true, ltb-false, length-set, length-append, get_or-set_same}
use Rattle.std.proofs.Math.Option.{Option, none, some}
use Rattle.std.proofs.Math.Decide.{ℕ_discrete}
use Rattle.std.proofs.Math.Seq.{get_or-append_seam}
use Rattle.lists.specs.Lists.{b2n, any, tally, bind}
use Rattle.lists.specs.ListsLaws.{and_left, and_right, not_yes, eqb_yes, eqb_no, tally-append, any-no}
use Rattle.lists.specs.RunLaws.{find-run}
use Rattle.address.specs.Address.{point, made}
use Rattle.address.specs.Role.{SparesOk}
use Rattle.address.specs.BlockLaws.{point-pos}
use Rattle.address.specs.SparesLaws.{point-next, spares-more, spares-new-point, top_pos}
use Rattle.page.specs.declared.Pair.{Pair}
use Rattle.page.specs.declared.Entry.{Entry}
use Rattle.page.specs.Pair.{is}
use Rattle.model.specs.Index.{Chain, Job, Index, no_chain, chain, entries_at, top_bit, set_chain, set_job}
use Rattle.model.specs.Pages.{add_entry, add_page, bits_of, bits_used, is_free, free_bit, Taken, take_from, take_page}
use Rattle.model.specs.Pages.{without, cut}
use Rattle.model.specs.Steps.{widen}
use Rattle.model.specs.WellFormed.{EntryOk, ChainOk, uses, Laid}
use Rattle.model.specs.ChainLaws.{bits-add, bits-page, bits-without}
use Rattle.model.specs.ChainOkLaws.{add_entry-ok, add_page-ok, without-ok}
use Rattle.model.specs.StandLaws.{chain-here, chain-there}
use Rattle.model.proofs.ViewLaws.{Putting, in_page, in_new, Beginning, same_point, new_point}

-- ---- a chain set anew

pub bits-set : (t : ℕ → Bool) (cs : List Chain) (b : ℕ) (c : Chain) → b < length cs
    → tally t (bind (set cs b c) bits_of) + tally t (bits_of (get_or cs b no_chain))
    ≡ tally t (bind cs bits_of) + tally t (bits_of c)
bits-set t [] b c l = absurd (omega arith)
bits-set t (d ∷ ds) zero c l = simp tally-append (omega arith)
bits-set t (d ∷ ds) (suc b) c l = simp tally-append (omega (arith, bits-set t ds b c (omega arith)))

module _ (x : Index) (l : Laid x) (b : ℕ) (fits : b < length x.chains) where
  -- another chain, with spares that fit and bits that are used once
  set-laid : (sp : List ℕ) (c : Chain) → SparesOk sp (point x.max_bucket) x.size
      → ((n : ℕ) → uses n (set_chain x sp b c) ≤ 1)
      → ((n : ℕ) → 1 ≤ uses n (set_chain x sp b c) → (1 ≤ n) × (n < top_bit (set_chain x sp b c)))
      → ChainOk c → Laid (set_chain x sp b c)
  set-laid sp c so once made ok =
      record {
        number = l.number;
        size = l.size;
        fill_low = l.fill_low;
        fill_high = l.fill_high;
        two = l.two;
        spares = so;
        whole = length-set x.chains b c ∙ l.whole;
        once = once;
        made = made;
        pages = λ d. pages d (ℕ_discrete d b);
      }
    where
      pages : (d : ℕ) → Dec (d ≡ b) → ChainOk (chain (set_chain x sp b c) d)
      pages d (yes e) = subst ChainOk (sym (ap (chain (set_chain x sp b c)) e ∙ chain-here x sp b c fits)) ok
      pages d (no e) = subst ChainOk (sym (chain-there x sp b c fits d e)) (l.pages d)

  -- with no more bits
  pub less-laid : (c : Chain) → ((n : ℕ) → tally (eqb n) (bits_of c) ≤ tally (eqb n) (bits_of (chain x b))) → ChainOk c
      → Laid (set_chain x x.spares b c)
  less-laid c less ok =
      set-laid x.spares c l.spares
      (λ n. omega (arith, l.once n, less n, bits-set (eqb n) x.chains b c fits))
      (λ n h. l.made n (omega (arith, h, less n, bits-set (eqb n) x.chains b c fits)))
      ok

  pub cut-laid : (p : Pair) → Laid (cut p b x)
  unfolding cut
  cut-laid p =
      less-laid (without p (chain x b)) (λ n. bits-without (eqb n) p (chain x b))
      (without-ok p (chain x b) (l.pages b))

  -- with a page more, at a bit that no chain has
  page-laid : (e : Entry) → EntryOk e → (n : ℕ) (sp : List ℕ) → SparesOk sp (point x.max_bucket) x.size
      → uses n x ≡ 0 → 1 ≤ n → n < get_or sp (point x.max_bucket) 0 → top_bit x ≤ get_or sp (point x.max_bucket) 0
      → Laid (set_chain x sp b (add_page n e (chain x b)))
  page-laid e ok n sp so z p lt le =
      set-laid sp c so (λ k. once k (ℕ_discrete k n)) (λ k h. made k (ℕ_discrete k n) h)
      (add_page-ok e ok n (chain x b) (l.pages b))
    where
      c : Chain
      c = add_page n e (chain x b)

      y : Index
      y = set_chain x sp b c

      more : (k : ℕ) → uses k y ≡ b2n (eqb k n) + uses k x
      more k = omega (arith, bits-set (eqb k) x.chains b c fits, bits-page (eqb k) n e (chain x b))

      once : (k : ℕ) → Dec (k ≡ n) → uses k y ≤ 1
      once k (yes q) = rw q (omega (arith, more n, ap b2n (eqb_yes n n refl)))
      once k (no q) = omega (arith, more k, ap b2n (eqb_no k n q), l.once k)

      made : (k : ℕ) → Dec (k ≡ n) → 1 ≤ uses k y → (1 ≤ k) × (k < top_bit y)
      made k (yes q) h = (omega arith, omega arith)
      made k (no q) h =
          let r = l.made k (omega (arith, more k, ap b2n (eqb_no k n q), h)) in (r.0, omega (arith, r.1, le))

-- ---- the page to take

-- made and in no chain, or next past the made ones; or there is neither
pub data TakenAs (x : Index) : Option Taken → Type 0 where
  nothing : free_bit x ≡ none → x.size ≤ made x.spares (point x.max_bucket) → TakenAs x none
  again : (n : ℕ) → uses n x ≡ 0 → 1 ≤ n → n < top_bit x → TakenAs x (some (record { bit = n; spares = x.spares }))
  fresh : free_bit x ≡ none → made x.spares (point x.max_bucket) < x.size
      → TakenAs x (some (record { bit = top_bit x; spares = set x.spares (point x.max_bucket) (suc (top_bit x)) }))

pub free-bit : (x : Index) (n : ℕ) → free_bit x ≡ some n → (uses n x ≡ 0) × (1 ≤ n) × (n < top_bit x)
unfolding free_bit
free-bit x n e =
    let f = (find-run (is_free x) 0 (top_bit x) n e).passes in
    let made = and_right (ltb 0 n) _ f in (
      any-no (eqb n) (bits_used x) (not_yes (any (eqb n) (bits_used x)) (and_right (ltb n (top_bit x)) _ made)),
      ltb-true 0 n (and_left (ltb 0 n) _ f),
      ltb-true n (top_bit x) (and_left (ltb n (top_bit x)) _ made),
    )

pub take-view : (x : Index) → TakenAs x (take_page x)
unfolding take_page
take-view x = go (free_bit x) (ltb (made x.spares (point x.max_bucket)) x.size) refl refl
  where
    go : (f : Option ℕ) (b : Bool) → free_bit x ≡ f → ltb (made x.spares (point x.max_bucket)) x.size ≡ b
        → TakenAs x (take_from f b x.spares (point x.max_bucket))
    go none true e k = fresh e (ltb-true _ x.size k)
    go none false e k = nothing e (ltb-false _ x.size k)
    go (some n) b e k = let r = free-bit x n e in again n r.0 r.1 r.2

-- ---- an entry put

module _ (x : Index) (l : Laid x) where
  pub top_one : 1 ≤ top_bit x
  top_one = top_pos x.spares (point x.max_bucket) x.size l.spares (point-pos x.max_bucket)

  top-unused : (k : ℕ) → uses (top_bit x) x ≡ k → uses (top_bit x) x ≡ 0
  top-unused zero e = e
  top-unused (suc k) e = absurd (omega (arith, (l.made (top_bit x) (omega (arith, e))).1))

  new-laid : (b : ℕ) → b < length x.chains → (e : Entry) → EntryOk e → {t : Taken} → TakenAs x (some t)
      → Laid (set_chain x t.spares b (add_page t.bit e (chain x b)))
  new-laid b fits e ok (again n u p lt) = page-laid x l b fits e ok n x.spares l.spares u p lt (omega arith)
  new-laid b fits e ok (fresh f r) =
      page-laid x l b fits e ok (top_bit x) (set x.spares s (suc (top_bit x)))
      (spares-more x.spares s x.size l.spares (point-pos x.max_bucket) r)
      (top-unused (uses (top_bit x) x) refl) top_one (omega (arith, here)) (omega (arith, here))
    where
      s : ℕ
      s = point x.max_bucket

      here : get_or (set x.spares s (suc (top_bit x))) s 0 ≡ suc (top_bit x)
      here = get_or-set_same x.spares s (suc (top_bit x)) 0 (omega (arith, l.spares.points))

  pub put-laid : (b : ℕ) → b < length x.chains → (e : Entry) → EntryOk e → tally (is e.pair) (entries_at x b) ≡ 0
      → {y : Index} → Putting x b e (some y) → Laid y
  put-laid b fits e ok z (in_page k) =
      less-laid x l b fits (add_entry e (chain x b)) (λ n. omega (arith, bits-add (eqb n) e (chain x b)))
      (add_entry-ok e ok (chain x b) z (l.pages b))
  put-laid b fits e ok z (in_new t r k) = new-laid b fits e ok (rw k at (take-view x))

-- ---- a begin, and another job

pub job-laid : (x : Index) (j : Job) → Laid x → Laid (set_job x j)
job-laid x j l =
    record {
      number = l.number;
      size = l.size;
      fill_low = l.fill_low;
      fill_high = l.fill_high;
      two = l.two;
      spares = l.spares;
      whole = l.whole;
      once = l.once;
      made = l.made;
      pages = l.pages;
    }

bits-wider : (t : ℕ → Bool) (cs : List Chain) → tally t (bind (cs ++ no_chain ∷ []) bits_of) ≡ tally t (bind cs bits_of)
bits-wider t [] = refl
bits-wider t (c ∷ cs) = simp tally-append (omega (arith, bits-wider t cs))

-- a chain without pages past the last
pub chain-wider : (cs : List Chain) (b : ℕ) → get_or (cs ++ no_chain ∷ []) b no_chain ≡ get_or cs b no_chain
chain-wider [] zero = refl
chain-wider [] (suc b) = refl
chain-wider (c ∷ cs) zero = refl
chain-wider (c ∷ cs) (suc b) = chain-wider cs b

widen-laid : (x : Index) (sp : List ℕ) → Laid x → SparesOk sp (point (suc x.max_bucket)) x.size
    → top_bit x ≤ get_or sp (point (suc x.max_bucket)) 0 → Laid (widen x sp)
widen-laid x sp l so le =
    record {
      number = l.number;
      size = l.size;
      fill_low = l.fill_low;
      fill_high = l.fill_high;
      two = omega arith;
      spares = so;
      whole = length-append x.chains _ ∙ omega (arith, l.whole);
      once = λ n. omega (arith, bits-wider (eqb n) x.chains, l.once n);
      made = λ n h. up n (l.made n (omega (arith, bits-wider (eqb n) x.chains, h)));
      pages = λ b. rw (chain-wider x.chains b) (l.pages b);
    }
  where
    up : (n : ℕ) → (1 ≤ n) × (n < top_bit x) → (1 ≤ n) × (n < top_bit (widen x sp))
    up n r = (r.0, omega (arith, r.1))

pub begin-laid : (x : Index) {y : Index} → Laid x → Beginning x (some y) → Laid y
begin-laid x l (same_point k) =
    let q : point (suc x.max_bucket) ≡ point x.max_bucket = point-next x.max_bucket false k in
    widen-laid x x.spares l (rw q l.spares) (rw q (omega arith))
begin-laid x l (new_point k m) =
    widen-laid x (x.spares ++ top_bit x ∷ []) l
    (rw q (spares-new-point x.spares s x.size l.spares (point-pos x.max_bucket) m))
    (rw q (omega (arith, last)))
  where
    s : ℕ
    s = point x.max_bucket

    q : point (suc x.max_bucket) ≡ suc s
    q = point-next x.max_bucket true k

    last : get_or (x.spares ++ top_bit x ∷ []) (suc s) 0 ≡ top_bit x
    last =
        ap (λ (i : ℕ). get_or (x.spares ++ top_bit x ∷ []) i 0) (sym l.spares.points)
        ∙ get_or-append_seam x.spares (top_bit x) [] 0
