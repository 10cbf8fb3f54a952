-- Rule 4 as its loops go: along the links of one chain, and from bucket to bucket.
use mathlib.Core.Path.{◌≡◌, sym, ap, ◌∙◌}
use mathlib.Core.Bool.{true, false, ◌&&◌}
use mathlib.Core.List.{List, ◌∷◌}
use Prim.Native.Nat.{ℕ, suc, ◌+◌, ◌-◌, ◌*◌, ◌≤◌, ◌<◌}
use native.Mathlib.Numerals.{add-one}
use native.Mathlib.Omega.{arith}
use borrow.Author.Tests.{eq-eqb}
use lib.Dec.{eqb}
use lib.ListN.{length, get_or, drop, length-append, drop_of_length-le}
use lib.Seq.{drop-cons}
use Rattle.lists.specs.Lists.{all, tally, bind, up_from}
use Rattle.lists.specs.RunLaws.{all-get}
use Rattle.lists.specs.Block.{blocks, block}
use Rattle.address.specs.Limits.{max_blocks}
use Rattle.store.specs.Store.{next_at}
use Rattle.image.specs.declared.Meta.{Meta}
use Rattle.store.specs.Flags.{no_link}
use Rattle.image.specs.Decode.{max_at, block_of, trail}
use Rattle.image.specs.Rules.{buckets, is_overflow, link_ok, linked, rule4}
use Rattle.chain.specs.Walk.{Sized, walk, Walked}
use Rattle.chain.specs.WalkLaws.{walk-some, walk-next}
use Rattle.chain.specs.WithinLaws.{walked-few}
use Rattle.reader.specs.Known.{Known2}
use Rattle.shape.specs.LoopLaws.{passed, failed, run-turn, run-done, left, left-start, left-turn, left-done}
use Rattle.shape.specs.ChainedLaws.{chained, pages-linked}

-- ---- along the links

linked-cons : (s : List ℕ) (b k j : ℕ) (js : List ℕ) → next_at (block s k) ≡ j
    → linked s b k (j ∷ js) ≡ link_ok s b k j && linked s b j js
unfolding linked
linked-cons s b k j js e = rw (eq-eqb (next_at (block s k)) j e)

module _ (s : List ℕ) (b : ℕ) {ks : List ℕ} (held : ks ≡ walk s (block_of s b)) where
  abbrev at : ℕ → ℕ
  at i = get_or ks i 0

  pub chain-some : 1 ≤ length ks
  chain-some = omega (arith, ap length held, walk-some s (block_of s b))

  pub chain-start : linked s b (get_or ks 0 0) (drop (0 + 1) ks) ≡ chained s b
  unfolding walk
  chain-start = ap (λ (js : List ℕ). linked s b (get_or js 0 0) (drop (0 + 1) js)) held

  module _ (i : ℕ) where
    link-next : i + 1 < length ks → next_at (block s (at i)) ≡ at (i + 1)
    link-next h =
        ap (λ (js : List ℕ). next_at (block s (get_or js i 0))) held
        ∙ sym (walk-next s (block_of s b) i (omega (arith, ap length held)))
        ∙ ap (λ (n : ℕ). get_or (walk s (block_of s b)) n 0) (sym (add-one i))
        ∙ ap (λ (js : List ℕ). get_or js (i + 1) 0) (sym held)

    pub chain-turn : i + 1 < length ks
        → linked s b (get_or ks i 0) (drop (i + 1) ks)
        ≡ link_ok s b (get_or ks i 0) (get_or ks (i + 1) 0) && linked s b (get_or ks (i + 1) 0) (drop (i + 1 + 1) ks)
    chain-turn h =
        ap (linked s b (at i))
        (drop-cons ks (i + 1) 0 h ∙ ap (λ (n : ℕ). at (i + 1) ∷ drop n ks) (sym (add-one (i + 1))))
        ∙ linked-cons s b (at i) (at (i + 1)) (drop (i + 1 + 1) ks) (link-next h)

    pub chain-end : length ks ≤ i + 1
        → linked s b (get_or ks i 0) (drop (i + 1) ks) ≡ eqb (next_at (block s (get_or ks i 0))) no_link
    unfolding linked
    chain-end h = ap (linked s b (at i)) (drop_of_length-le ks {i = i + 1} h)

trail-count : (s : List ℕ) (b : ℕ) {bs : List ℕ} {n : ℕ} → Walked s (block_of s b) bs n → n ≡ suc (length (trail s b))
unfolding walk
trail-count s b held = held.count

-- ---- from bucket to bucket

-- the links in the chains from bucket b on
abbrev links_from : List ℕ → ℕ → ℕ
links_from s b = length (bind (up_from b (suc (max_at s) - b)) (trail s))

-- before bucket b there are `links` of them, and what is left decides
pub record Linking (s : List ℕ) (links b : ℕ) : Type 0 where
  pub upto : b ≤ suc (max_at s)
  pub few : links ≤ max_blocks * b
  pub count : links + links_from s b ≡ length (bind (buckets s) (trail s))
  pub rest : left (chained s) (suc (max_at s)) b ≡ all (chained s) (buckets s)

pub linking-start : (s : List ℕ) → Linking s 0 0
linking-start s =
    let e : suc (max_at s) - 0 ≡ suc (max_at s) = omega arith in
    record {
      upto = omega arith;
      few = omega arith;
      count = omega (arith, ap (λ (n : ℕ). length (bind (up_from 0 n) (trail s))) e);
      rest = left-start (chained s) (suc (max_at s));
    }

module _ (s : List ℕ) (links b : ℕ) (so_far : Linking s links b) where
  module _ (more : b ≤ max_at s) where
    pub linking-turn : {bs : List ℕ} {n : ℕ} → Walked s (block_of s b) bs n → Sized s → chained s b ≡ true
        → Linking s (links + (n - 1)) (b + 1)
    linking-turn held sized good =
        let here : links_from s b ≡ length (trail s b) + links_from s (b + 1) =
        ap (λ (ks : List ℕ). length (bind ks (trail s))) (run-turn b (suc (max_at s)) (omega arith))
        ∙ length-append (trail s b) (bind (up_from (b + 1) (suc (max_at s) - (b + 1))) (trail s)) in
        record {
          upto = omega arith;
          few = omega (arith, so_far.few, walked-few held sized);
          count = omega (arith, so_far.count, here, trail-count s b held);
          rest = passed _ _ _ (left-turn (chained s) (suc (max_at s)) b (omega arith)) good ∙ so_far.rest;
        }

    pub linking-broken : chained s b ≡ false → rule4 s ≡ false
    unfolding rule4
    linking-broken bad =
        rw (sym so_far.rest ∙ failed _ _ _ (left-turn (chained s) (suc (max_at s)) b (omega arith)) bad)

  pub linking-end : {m : Meta} → Known2 s m → max_at s < b
      → rule4 s ≡ eqb links (tally (is_overflow s) (up_from 0 (blocks s)))
  unfolding rule4
  linking-end k past =
      let whole : all (chained s) (buckets s) ≡ true =
      sym so_far.rest ∙ left-done (chained s) (suc (max_at s)) b (omega arith) in
      let none : links_from s b ≡ 0 =
      ap (λ (ks : List ℕ). length (bind ks (trail s))) (run-done b (suc (max_at s)) (omega arith)) in
      let total : length (bind (buckets s) (trail s)) ≡ links = omega (arith, so_far.count, none) in
      rw whole
      (pages-linked k (λ d l. all-get (chained s) 0 (suc (max_at s)) whole d (omega arith) (omega arith))
      ∙ ap (λ (n : ℕ). eqb n (tally (is_overflow s) (up_from 0 (blocks s)))) total)
