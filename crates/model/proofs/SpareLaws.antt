-- A squeeze's step fills one of the free places before a chain's last page; they are at most 40 for each overflow
-- page.
use Rattle.std.specs.Prelude.{◌≡◌, refl, Bool, true, false, cond, ◌||◌, List, [], ◌∷◌, ◌++◌, ℕ, suc, ◌*◌, ◌≤◌, ◌<◌, length}
use Rattle.std.proofs.Common.{ap, append-nil, arith, ltb-true}
use Rattle.lists.specs.Lists.{any, Each}
use Rattle.page.specs.declared.Entry.{Entry}
use Rattle.page.specs.Pair.{pair_of}
use Rattle.page.specs.AscendingLaws.{length-enter}
use Rattle.model.specs.Index.{Page, Chain}
use Rattle.model.specs.Pages.{has_room, page_room, chain_room, enter_entry, add_more, add_entry, in_use}
use Rattle.model.specs.Squeeze.{init, squeezed}
use Rattle.model.specs.WellFormed.{MoreOk, ChainOk}
use Rattle.model.specs.Spare.{gaps, gaps_in, spare_in, spare}
use Rattle.model.proofs.SqueezeLaws.{init-end, page, pages, behind, Moving}

-- ---- how many

gaps-le : (gs : List Page) → gaps gs ≤ 40 * length gs
gaps-le [] = omega arith
gaps-le (g ∷ gs) = omega (arith, gaps-le gs)

length-init : {A : Type 0} (x : A) (xs : List A) → length (init (x ∷ xs)) ≡ length xs
length-init x [] = refl
length-init x (y ∷ ys) = ap suc (length-init y ys)

pub spare-le : (c : Chain) → spare c ≤ 40 * length c.more
unfolding spare
spare-le c = go c.more
  where
    go : (gs : List Page) → spare_in gs (pages c.first (init gs)) ≤ 40 * length gs
    go [] = omega arith
    go (g ∷ gs) = omega (arith, gaps-le (init (g ∷ gs)), length-init g gs)

-- fewer where an overflow page is not the last, since it is not empty
pub spare-lt : (c : Chain) → ChainOk c → 2 ≤ length c.more → spare c < 40 * length c.more
unfolding spare
spare-lt c ok two = go c.more ok.more two
  where
    go : (gs : List Page) → Each MoreOk gs → 2 ≤ length gs → spare_in gs (pages c.first (init gs)) < 40 * length gs
    go [] o h = absurd (omega arith)
    go (g ∷ []) o h = absurd (omega arith)
    go (g ∷ k ∷ gs) o h = omega (arith, o.0.used, gaps-le (init (k ∷ gs)), length-init k gs)

-- ---- after a step

gaps-init : (gs : List Page) → gaps (init gs) ≤ gaps gs
gaps-init [] = omega arith
gaps-init (g ∷ []) = omega arith
gaps-init (g ∷ h ∷ gs) = omega (arith, gaps-init (h ∷ gs))

spare-under : (c : Chain) → spare c ≤ gaps_in c
unfolding spare
spare-under c = go c.more
  where
    go : (gs : List Page) → spare_in gs (pages c.first (init gs)) ≤ gaps_in (pages c.first gs)
    go [] = omega arith
    go (g ∷ gs) = omega (arith, gaps-init (g ∷ gs))

-- of a chain with a page behind it
spare-end : (c : Chain) (g : Page) → spare (behind (g ∷ []) c) ≡ gaps_in c
unfolding spare
spare-end c g = go c.more
  where
    go : (gs : List Page)
        → spare_in (gs ++ g ∷ []) (pages c.first (init (gs ++ g ∷ []))) ≡ gaps_in (pages c.first gs)
    go [] = refl
    go (h ∷ gs) = ap (λ (l : List Page). gaps_in (pages c.first l)) (init-end (h ∷ gs) g)

gaps-add : (e : Entry) (c : Chain) → chain_room c ≡ true → suc (gaps_in (add_entry e c)) ≡ gaps_in c
gaps-add e c h = go (has_room c.first) refl h
  where
    more : (gs : List Page) → any page_room gs ≡ true → suc (gaps (add_more e gs)) ≡ gaps gs
    more [] h = let z : ◌≡◌ {A = ℕ} 0 1 = cc in absurd (omega arith)
    more (g ∷ gs) h = at (page_room g) refl (more gs) h
      where
        at : (b : Bool) → page_room g ≡ b → (any page_room gs ≡ true → suc (gaps (add_more e gs)) ≡ gaps gs)
            → b || any page_room gs ≡ true
            → suc (gaps (cond b (page g.bit (enter_entry e g.entries) ∷ gs) (g ∷ add_more e gs))) ≡ gaps (g ∷ gs)
        at true k ih h = omega (arith, length-enter pair_of e g.entries, ltb-true (length g.entries) 40 k)
        at false k ih h = omega (arith, ih h)

    go : (b : Bool) → has_room c.first ≡ b → b || any page_room c.more ≡ true
        → suc (gaps_in (cond b (pages (enter_entry e c.first) c.more) (pages c.first (add_more e c.more))))
        ≡ gaps_in c
    go true k h = omega (arith, length-enter pair_of e c.first, ltb-true (length c.first) 40 k)
    go false k h = omega (arith, more c.more h)

-- one less at least: a page that is freed leaves another as the last
pub squeezed-spare : (c : Chain) (e : Entry) → Moving c e → spare (squeezed e c) < spare c
squeezed-spare c e m =
    omega (
      arith,
      ap spare m.after,
      ap spare m.shape,
      spare-end (pages c.first m.before) (page m.bit (m.entries ++ e ∷ [])),
      gaps-add e (pages c.first m.before) m.room,
      left (in_use (page m.bit m.entries)),
    )
  where
    d : Chain
    d = add_entry e (pages c.first m.before)

    left : (b : Bool) → spare (behind (cond b (page m.bit m.entries ∷ []) []) d) ≤ gaps_in d
    left true = omega (arith, spare-end d (page m.bit m.entries))
    left false = rw (append-nil d.more) (spare-under d)
