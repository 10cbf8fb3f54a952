-- The turns of the loop along the old chain: what the page at index i tells.
use Rattle.std.proofs.Common.{◌≡◌, refl, sym, ap, ◌∙◌, subst, Bool, true, false, List, ◌++◌, append-nil, append_assoc}
use Rattle.std.proofs.Common.{ℕ, ◌+◌, ◌-◌, ◌*◌, ◌≤◌, ◌<◌, arith, length, get_or, take, drop, length-append, drop_of_length-le}
use Rattle.std.proofs.Common.{get_or-append-add}
use Rattle.std.proofs.Math.Option.{none, some}
use Rattle.std.proofs.Math.ListN.{get_or-append}
use Rattle.lists.specs.Lists.{b2n, any, tally, find, bind}
use Rattle.lists.specs.ListsLaws.{tally-le, tally-append, any-no, zero-any, find-no, find-yes}
use Rattle.page.specs.declared.Pair.{Pair}
use Rattle.page.specs.declared.Entry.{Entry}
use Rattle.page.specs.Pair.{is}
use Rattle.page.specs.PairLaws.{same_refl}
use Rattle.page.specs.Entries.{entries_of}
use Rattle.frame.specs.ListsLaws.{find-zero}
use Rattle.chain.specs.Search.{pair_on, found_as, find_in}
use Rattle.chain.specs.Within.{entries_on, PageOn}
use Rattle.chain.specs.WithinLaws.{rest-turn}
use Rattle.chain.specs.FindLaws.{find-here, find-later}
use Rattle.split.specs.Seek.{Before, AnswersFrom, Stands, found_on}
use Rattle.split.specs.SeekLaws.{before-part, sought-part}
use Rattle.split.specs.OldChainLaws.{front-parts, front-none, front-pages}
use Rattle.split.specs.declared.Spot.{Spot}
use Rattle.split.specs.Spot.{SpotOn}

-- all entries of the pair pass
abbrev pub PairPasses : (Entry → Bool) → Pair → Type 0
PairPasses t p = (d : Entry) → is p d ≡ true → t d ≡ true

-- before the page at index i there are k entries, of which none passes
pub record Behind (s ks : List ℕ) (t : Entry → Bool) (k i : ℕ) : Type 0 where
  pub front : List Entry
  pub parts : bind ks (entries_on s) ≡ front ++ bind (drop i ks) (entries_on s)
  pub none : tally t front ≡ 0
  pub number : k ≡ length front
  pub few : k ≤ 40 * i
  pub pages : (p : Pair) → PairPasses t p → find (pair_on s p) ks ≡ find (pair_on s p) (drop i ks)

-- where none of the first j entries passes, the pages before one that j leads to have none
pub behind-spot : {s ks : List ℕ} {g : Spot} {j : ℕ} → SpotOn s ks g j → (t : Entry → Bool)
    → Before t (bind ks (entries_on s)) j → Behind s ks t g.passed g.index
behind-spot {s} {ks} {g} {j} e t z =
    let few : length (bind (take g.index ks) (entries_on s)) ≤ j = omega (arith, e.passed, e.near) in
    record {
      front = bind (take g.index ks) (entries_on s);
      parts = front-parts s ks g.index;
      none = front-none s ks g.index t j z few;
      number = e.passed;
      few = e.few;
      pages = front-pages s ks g.index t j z few;
    }

module _ {s ks : List ℕ} {t : Entry → Bool} {k i : ℕ} (h : Behind s ks t k i) where
  module _ (more : i < length ks) {l : List ℕ} (on : PageOn s ks i l) where
    abbrev fs : List Entry
    fs = bind (drop (i + 1) ks) (entries_on s)

    turn : bind ks (entries_on s) ≡ h.front ++ (entries_of l ++ fs)
    turn =
        h.parts
        ∙ ap (λ (es : List Entry). h.front ++ es)
        (rest-turn s ks i more
        ∙ ap (λ (x : List ℕ). entries_of x ++ fs) (sym on.page))

    pub page-start : (j : ℕ) {m : ℕ} → m ≡ j - k → Before t (bind ks (entries_on s)) j → Before t (entries_of l) m
    page-start j e z =
        ap (λ (d : ℕ). tally t (take d (entries_of l))) (e ∙ ap (λ (d : ℕ). j - d) h.number)
        ∙ before-part t h.front (entries_of l) fs j (ap (λ (es : List Entry). tally t (take j es)) (sym turn) ∙ z)

    -- a test that tells which entries from the place j on pass tells it of the page's
    pub page-answers : {post : Entry → Bool → Type 0} {j m : ℕ} → m ≡ j - k
        → AnswersFrom post t (bind ks (entries_on s)) j → AnswersFrom post t (entries_of l) m
    page-answers {post} {j} {m} q a = record { at = at }
      where
        at : (i : ℕ) (d : Entry) (b : Bool) → m ≤ i → i < length (entries_of l) → post (get_or (entries_of l) i d) b
            → b ≡ t (get_or (entries_of l) i d)
        at i d b le lt p =
            let here : get_or (bind ks (entries_on s)) (length h.front + i) d ≡ get_or (entries_of l) i d =
            ap (λ (es : List Entry). get_or es (length h.front + i) d) turn
            ∙ get_or-append-add h.front (entries_of l ++ fs) i d ∙ get_or-append (entries_of l) fs d i lt in
            a.at (length h.front + i) d b (omega (arith, h.number, q))
            (omega (arith, ap length turn, length-append h.front (entries_of l ++ fs), length-append (entries_of l) fs))
            (subst (λ (e : Entry). post e b) (sym here) p)
            ∙ ap t here

    pub page-found : {e : Entry} {j : ℕ} → (find t (entries_of l) ≡ some e) × Stands t (entries_of l) e j
        → (find t (bind ks (entries_on s)) ≡ some e) × Stands t (bind ks (entries_on s)) e (k + j)
    page-found {e} {j} f =
        subst (λ (es : List Entry). (find t es ≡ some e) × Stands t es e (k + j)) (sym turn)
        (subst (λ (d : ℕ). (find t (h.front ++ (entries_of l ++ fs)) ≡ some e)
        × Stands t (h.front ++ (entries_of l ++ fs)) e (d + j)) (sym h.number)
        (sought-part t h.front (entries_of l) fs e j h.none f))

    -- a search along the blocks ends at this one or goes on
    here : (u : ℕ → Bool) → u (get_or ks i 0) ≡ true → find u (drop i ks) ≡ some (get_or ks i 0)
    here u y = find-here u ks i 0 more y

    later : (u : ℕ → Bool) → u (get_or ks i 0) ≡ false → find u (drop i ks) ≡ find u (drop (i + 1) ks)
    later u y = find-later u ks i 0 more y

    -- its page is the first that has its pair
    pub page-located : {e : Entry} → find t (entries_of l) ≡ some e → PairPasses t e.pair
        → find_in s ks e.pair ≡ found_on (get_or ks i 0) (entries_of l) e.pair
    unfolding find_in
    page-located {e} f u =
        ap (found_as s e.pair) (h.pages e.pair u ∙ here (pair_on s e.pair) stands)
        ∙ ap (λ (x : List ℕ). found_on (get_or ks i 0) (entries_of x) e.pair) (sym on.page)
      where
        yes : (c : Bool) → any (is e.pair) (entries_of l) ≡ c → c ≡ true
        yes true a = refl
        yes false a =
            absurd (omega (
              arith,
              (find-yes t (entries_of l) e f).1 (is e.pair),
              ap b2n (same_refl e.pair),
              any-no (is e.pair) (entries_of l) a,
            ))

        stands : pair_on s e.pair (get_or ks i 0) ≡ true
        stands =
            ap (λ (x : List ℕ). any (is e.pair) (entries_of x)) (sym on.page)
            ∙ yes (any (is e.pair) (entries_of l)) refl

    pub page-later : find t (entries_of l) ≡ none → (j : ℕ) → j ≡ length (entries_of l) → j ≤ 40
        → Behind s ks t (k + j) (i + 1)
    page-later f j e few =
        let none : tally t (entries_of l) ≡ 0 = find-no t (entries_of l) f in
        record {
          front = h.front ++ entries_of l;
          parts = turn ∙ sym (append_assoc h.front (entries_of l) fs);
          none = tally-append t h.front (entries_of l) ∙ omega (arith, h.none, none);
          number = omega (arith, length-append h.front (entries_of l), h.number);
          few = omega (arith, h.few);
          pages =
              λ p u.
              h.pages p u
              ∙ later (pair_on s p)
              (ap (λ (x : List ℕ). any (is p) (entries_of x)) (sym on.page)
              ∙ zero-any (is p) (entries_of l) (omega (arith, tally-le (is p) t (entries_of l) u, none)));
        }

  pub walk_end : length ks ≤ i → find t (bind ks (entries_on s)) ≡ none
  walk_end past =
      let all : bind ks (entries_on s) ≡ h.front =
      h.parts
      ∙ ap (λ (es : List Entry). h.front ++ es)
      (ap (λ (js : List ℕ). bind js (entries_on s)) (drop_of_length-le ks {i = i} past))
      ∙ append-nil h.front in
      find-zero t (bind ks (entries_on s)) (ap (tally t) all ∙ h.none)
