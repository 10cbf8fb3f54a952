use Rattle.std.proofs.Common.{◌≡◌, ◌+◌, ◌-◌, ◌++◌, ◌≤◌, List, [], ◌∷◌, ℕ, Bool, false, length, sym, ap, ap₂, ◌∙◌, subst, arith, rules, length-append}
use Rattle.lists.specs.Bytes.{Bytes}
use Rattle.page.specs.declared.Pair.{Pair}
use Rattle.page.specs.declared.Entry.{Entry}
use Rattle.model.specs.Held.{sorted}
use Rattle.chain.specs.Within.{Within, PagesOk}
use Rattle.chain.specs.Pairs.{pairs_in}
use Rattle.chain.specs.Along.{pairs_along}
use Rattle.merge.specs.Tree.{max_pages}
use Rattle.merge.specs.Merge.{joined}
use Rattle.merge.specs.Heads.{page_at, Pages}
use Rattle.merge.specs.WalksLaws.{joined-append, alone-pages, joined-pages, alone-entries, joined-first, joined-second}
use Rattle.view.specs.Left.{pairs_left}
use Rattle.view.specs.Lookup.{written, Listable}
use Rattle.view.proofs.lookup.put_matches.Goals as goal

-- the pairs on pages, by the entries of the own ones and of the old ones
pairs-by : (h : ℕ) (fresh : Bool) {es fs es' fs' : List Entry} → es ≡ es' → fs ≡ fs'
    → pairs_in h fresh es ++ pairs_in h false fs ≡ pairs_in h fresh es' ++ pairs_in h false fs'
pairs-by h fresh = ap₂ (λ (es fs : List Entry). pairs_in h fresh es ++ pairs_in h false fs)

-- ---- one walk

alone : (s own old : List ℕ) (h : ℕ) (fresh : Bool) → length old ≡ 0
    → pairs_left (page_at s own) (length own) (length own - length own) h fresh ≡ pairs_along s own old h fresh
alone s own [] h fresh e =
    let z : length own - length own ≡ 0 = omega arith in
    pairs-by h fresh (alone-entries s own) (ap (joined (page_at s own) (length own)) z)
alone s own (b ∷ old) h fresh e = absurd (omega arith)

-- ---- two

module _ (s own old : List ℕ) where
  together-pages : Bytes s → Within s own → PagesOk s own → Within s old → PagesOk s old
      → length own + length old ≤ max_pages → Pages s (own ++ old) (length (own ++ old))
  together-pages bytes w fine v fine' few =
      subst (Pages s (own ++ old)) (sym (length-append own old))
      (joined-pages bytes (joined-append own old) w fine v fine' few)

  together : (h : ℕ) (fresh : Bool)
      → pairs_left (page_at s (own ++ old)) (length own) (length (own ++ old) - length own) h fresh
      ≡ pairs_along s own old h fresh
  together h fresh =
      let k : length (own ++ old) - length own ≡ length old = omega (arith, length-append own old) in
      let both = joined-append own old in
      pairs-by h fresh (joined-first s both)
      (ap (joined (page_at s (own ++ old)) (length own)) k ∙ joined-second s both)

pub put_pages-requires : goal.put_pages-requires
put_pages-requires c =
    let a = c.args in
    let bytes : Bytes a.store.now = λ i. omega (arith, c.type_inv.store i) in
    let none : length a.old.now ≡ 0 = search rules in
    let w = c.requires.own_walk in (
      alone-pages bytes w.0 w.1,
      c.requires.sizes.0,
      omega arith,
      subst (λ (ps : List Pair). Listable ps a.output.now)
          (sym (alone a.store.now a.own.now a.old.now a.hash a.fresh none)) c.requires.room,
    )

pub returns-then-is_empty : goal.returns-then-is_empty
returns-then-is_empty c =
    let a = c.args in
    let none : length a.old.now ≡ 0 = search rules in
    c.put_pages.ensures
    ∙ ap (λ (ps : List Pair). written (sorted ps) a.output.now)
    (alone a.store.now a.own.now a.old.now a.hash a.fresh none)

pub put_pages-requires-2 : goal.put_pages-requires-2
put_pages-requires-2 c =
    let a = c.args in
    let bytes : Bytes a.store.now = λ i. omega (arith, c.type_inv.store i) in
    let w = c.requires.own_walk in
    let v = c.requires.old_walk in
    rw c.join_walks-pages.ensures (
      together-pages a.store.now a.own.now a.old.now bytes w.0 w.1 v.0 v.1 c.requires.sizes.1,
      c.requires.sizes.0,
      omega (arith, length-append a.own.now a.old.now),
      subst (λ (ps : List Pair). Listable ps a.output.now)
          (sym (together a.store.now a.own.now a.old.now a.hash a.fresh)) c.requires.room,
    )

pub returns : goal.returns
returns c =
    let a = c.args in
    (rw c.join_walks-pages.ensures at c.put_pages-2.ensures)
    ∙ ap (λ (ps : List Pair). written (sorted ps) a.output.now)
    (together a.store.now a.own.now a.old.now a.hash a.fresh)
