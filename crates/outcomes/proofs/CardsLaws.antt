-- The bench cards hold: what a card asks of a store is the same of the index whose bytes it is, and that computes.
use Rattle.std.specs.Prelude.{◌≡◌, Bool, true, false, not, ◌&&◌, leb, eqb, length, get_or, drop, replicate}
use Rattle.std.proofs.Math.Path.{refl, ap, ap₂}
use Rattle.std.proofs.Common.{◌∙◌, arith}
use mathlib.Core.List.{List, [], ◌∷◌, ◌++◌, map}
use Prim.Native.Nat.{ℕ, zero, suc, ◌+◌, ◌*◌, ◌^◌, ◌≤◌, ◌<◌}
use borrow.Author.Tests.{eqb-false, leb-true, le-leb}
use Rattle.std.proofs.Math.IntN.{ℤ, pos}
use Rattle.lists.specs.Lists.{up_from, Each}
use Rattle.lists.specs.ListsLaws.{and_right}
use Rattle.lists.specs.Block.{block}
use Rattle.endian.specs.Endian.{le16, le32, u16_at, u32_at}
use Rattle.address.specs.Address.{buckets_at, mask_digits, high_mask, low_mask, bucket_of, bit_length, split_from}
use Rattle.address.specs.Address.{point, bucket_point, bucket_block, bit_block, made}
use Rattle.address.specs.Role.{role_of}
use Rattle.page.specs.Entries.{encode_entry, encode_page, read_entry, entry_at, entries_from, entries_of}
use Rattle.store.specs.Store.{trailer, covered, sealed}
use Rattle.model.specs.declared.Order.{Order}
use Rattle.model.specs.Index.{Index}
use Rattle.model.specs.Pages.{free_bit, first_free, take_page, put, cut}
use Rattle.model.specs.Held.{sources, held, matches, count, slack, wanted}
use Rattle.model.specs.Steps.{begin, step}
use Rattle.model.specs.Calls.{size_ok, fill_ok, order_of, format_ok, overwrites, format, done, format_in, insert, remove}
use Rattle.model.specs.Calls.{lookup, standing, work}
use Rattle.model.specs.Machine.{Call, formatting, inserting, removing, looking, working, asking, CallFits}
use Rattle.model.specs.Machine.{Reply, plain, reply_no, run_index, on_index}
use Rattle.model.proofs.FormatLaws.{format-wf}
use Rattle.image.specs.declared.Meta.{Meta}
use Rattle.image.specs.Layout.{paged, blank, padded, meta_of, map_front, image, encode_block, sealed_block, encode}
use Rattle.image.specs.Decode.{bit_of, meta_at}
use Rattle.image.specs.Rules.{map_at}
use Rattle.outcomes.specs.Outcomes.{store_in_use, Changed, changed, format_replacing, format_outcome, run_store}
use Rattle.outcomes.specs.Outcomes.{on_store}
use Rattle.image.proofs.EncodeLaws.{block-encode}
use Rattle.image.proofs.EncodePagesLaws.{meta-encode, point-encode, spares-encode}
use Rattle.image.specs.SoundStore.{Encodes}
use Rattle.outcomes.proofs.OutcomeSoundLaws.{blocks_is, legal-is}
use Rattle.outcomes.proofs.OutcomeMachineLaws.{simulates}
use Rattle.outcomes.specs.Cards.{state_after, replies, card_pair, evens, reply_numbers, slack_in, hashes_on, Card}
use Rattle.outcomes.specs.Cards.{card_store, nos, cards, Bench}

-- ---- a store and the index whose bytes it is

module _ {s : List ℕ} {x : Index} (r : Encodes s x) where
  block-is : (k : ℕ) → k < x.size → block s k ≡ sealed_block x k
  block-is k h = ap (λ (t : List ℕ). block t k) r.1 ∙ block-encode x r.0.laid k h

  meta-is : meta_at s ≡ meta_of x
  meta-is = ap meta_at r.1 ∙ meta-encode x r.0

  -- k is the bitmap's block
  map_is : (k : ℕ) → k < x.size → bit_block x.spares (point x.max_bucket) 0 ≡ k → map_at s ≡ sealed_block x k
  map_is k h e =
      let w = r.0 in
      ap map_at r.1
      ∙ ap₂ (λ (q : List ℕ) (n : ℕ). block (encode x) (bit_block q n 0)) (spares-encode x w) (point-encode x w)
      ∙ ap (block (encode x)) e
      ∙ block-encode x w.laid k h

-- ---- the same calls on both

after-encodes : (cs : List Call) → Each CallFits cs → (s : List ℕ) (x : Index) → Encodes s x
    → Encodes (state_after on_store cs s) (state_after on_index cs x)
after-encodes [] f s x r = r
after-encodes (c ∷ cs) f s x r =
    after-encodes cs f.1 (run_store c s).state (run_index c x).state (simulates.state c f.0 s x r)

replies-encode : (cs : List Call) → Each CallFits cs → (s : List ℕ) (x : Index) → Encodes s x
    → replies on_store cs s ≡ replies on_index cs x
replies-encode [] f s x r = refl
replies-encode (c ∷ cs) f s x r =
    ap₂ (λ (a : Reply) (rs : List Reply). a ∷ rs) (simulates.reply c f.0 s x r)
    (replies-encode cs f.1 (run_store c s).state (run_index c x).state (simulates.state c f.0 s x r))

-- inserts of even hash codes, and other calls whose numbers fit
evens-fit : (k : ℕ) → k < 1000 → (cs : List Call) → Each CallFits cs → Each CallFits (evens k ++ cs)
evens-fit k h cs f = go 0 k (omega arith)
  where
    go : (i k : ℕ) → i + k < 1000 → Each CallFits (map (λ (i : ℕ). inserting (card_pair (2 * i))) (up_from i k) ++ cs)
    go i zero h = f
    go i (suc k) h = ((omega arith, omega arith, omega arith), go (suc i) k (omega arith))

-- a format of n blocks, over which it may format
format-is : (s : List ℕ) (n : ℕ) (o : Order) → length s ≡ 512 * n → (not (overwrites o) && store_in_use s) ≡ false
    → format_outcome s o ≡ changed s (format_in (size_ok n) (format_ok o) false (format n o))
unfolding format_replacing format_outcome
format-is s n o e u =
    let b = blocks_is s n e in
    let l = legal-is s n e in
    λ i. changed s (format_in (l i) (format_ok o) (u i) (format (b i) o))

-- ---- the cards

-- what holds of a list's first element, and what holds of the others
infixr 5 ◌also◌
abbrev ◌also◌ : {A B : Type 0} → A → B → A × B
a also b = (a, b)

module _ (fresh : ℕ → List ℕ) (e : (n : ℕ) → length (fresh n) ≡ 512 * n) (number : ℕ) (fits : number < 2 ^ 32)
    (overwrite : ℕ) (flag : overwrite ≤ 1) (free : (n : ℕ) → overwrite ≡ 0 → store_in_use (fresh n) ≡ false) where
  abbrev orders : (fill : ℕ) → Order
  orders fill = order_of fill number overwrite

  -- format may overwrite the store, or it is not in use
  open-to : (n fill : ℕ) → (not (overwrites (orders fill)) && store_in_use (fresh n)) ≡ false
  open-to n fill = go (eqb overwrite 1) refl
    where
      go : (b : Bool) → eqb overwrite 1 ≡ b → (not b && store_in_use (fresh n)) ≡ false
      go true h = refl
      go false h = free n (omega (arith, flag, eqb-false overwrite 1 h))

  refused-C : nos fresh 3 (formatting (orders 10) ∷ []) ≡ 1 ∷ []
  unfolding run_store
  refused-C =
      ap (λ (c : Changed). reply_no (plain c.answer) ∷ []) (format-is (fresh 3) 3 (orders 10) (e 3) (open-to 3 10))

  -- an accepted format
  module _ (n fill : ℕ) (a : size_ok n ≡ true) (b : fill_ok fill ≡ true) where
    abbrev o : Order
    o = orders fill

    start : List ℕ
    start = (run_store (formatting o) (fresh n)).state

    good : format_ok o ≡ true
    good = ap₂ (λ (l m : Bool). l && m) b (le-leb overwrite 1 flag)

    format-accepted : format_outcome (fresh n) o ≡ changed (fresh n) (done (format n o))
    format-accepted =
        format-is (fresh n) n o (e n) (open-to n fill)
        ∙ ap₂ (λ (l m : Bool). changed (fresh n) (format_in l m false (format n o))) a good

    format-encodes : Encodes start (format n o)
    unfolding start run_store
    format-encodes =
        let few = leb-true fill 40 (and_right (leb 1 fill) (leb fill 40) b) in (
          format-wf n o (omega (arith, few), fits, omega (arith, flag)) a good,
          ap (λ (c : Changed). c.store) format-accepted,
        )

    -- then k inserts, and more
    module _ (k : ℕ) (h : k < 1000) (more : List Call) (f : Each CallFits more) where
      abbrev cs : List Call
      cs = evens k ++ more

      store_is : Encodes (card_store fresh n (formatting o ∷ cs)) (state_after on_index cs (format n o))
      unfolding start
      store_is = after-encodes cs (evens-fit k h more f) start (format n o) format-encodes

      nos-are : nos fresh n (formatting o ∷ cs) ≡ 0 ∷ map reply_no (replies on_index cs (format n o))
      unfolding start run_store
      nos-are =
          ap₂ (λ (m : ℕ) (rs : List Reply). m ∷ map reply_no rs)
          (ap (λ (c : Changed). reply_no (plain c.answer)) format-accepted)
          (replies-encode cs (evens-fit k h more f) start (format n o) format-encodes)

      reply-is : (c : Call) → CallFits c
          → (run_store c (card_store fresh n (formatting o ∷ cs))).reply
          ≡ (run_index c (state_after on_index cs (format n o))).reply
      reply-is c g =
          simulates.reply c g (card_store fresh n (formatting o ∷ cs)) (state_after on_index cs (format n o)) store_is

  -- cards C to K: E and F are the stores after those cards' calls, each with its index; G to J are what calls get
  calls : Each (λ (c : Card). c.gives ≡ c.said) (drop 3 (cards fresh orders))
  unfolding cards
      buckets_at mask_digits high_mask low_mask bucket_of bit_length split_from point bucket_point bucket_block bit_block made
      free_bit first_free take_page put cut sources held matches count slack wanted begin step
      format insert remove lookup standing work run_index
      meta_of padded map_front role_of encode_block sealed_block image paged blank sealed covered trailer
      le16 le32 u16_at u32_at encode_entry encode_page read_entry entry_at entries_from entries_of
  calls =
      let E = store_is 5 40 refl refl 41 (omega arith) [] tt in
      let F = store_is 5 40 refl refl 41 (omega arith) (removing (card_pair 80) ∷ []) (omega arith) in
      let F₂ =
      store_is 5 40 refl refl 41 (omega arith) (removing (card_pair 80) ∷ inserting (card_pair 82) ∷ [])
      (omega arith) in
      let G = reply-is 6 1 refl refl 3 (omega arith) [] tt in
      let H = reply-is 5 1 refl refl 3 (omega arith) [] tt in
      let I = reply-is 6 1 refl refl 3 (omega arith) (working 2 ∷ []) (omega arith) in
      let I₂ =
      reply-is 6 1 refl refl 3 (omega arith) (working 2 ∷ removing (card_pair 2) ∷ []) (omega arith) in
      let J = reply-is 4 1 refl refl 0 (omega arith) [] tt in
      ap (map pos) (nos-are 4 10 refl refl 0 (omega arith) [] tt)
      also ap (map pos) refused-C
      also ap (map pos)
      (nos-are 4 40 refl refl 41 (omega arith) (inserting (card_pair 1) ∷ []) (omega arith))
      also ap (map pos) (nos-are 5 40 refl refl 41 (omega arith) [] tt)
      also ap page (block-is E 4 (omega arith))
      also ap (λ (m : Meta). pos (get_or m.spares 1 0) ∷ []) (meta-is E)
      also ap page (block-is F 4 (omega arith))
      also ap₂ freed (map_is F 3 (omega arith) refl) (meta-is F)
      also ap page (block-is F₂ 4 (omega arith))
      also ap slack_in (G asking tt)
      also ap reply (G (working 9) (omega arith))
      also ap reply (H (working 9) (omega arith))
      also ap reply (I (looking 2 (replicate 60 0)) (omega arith))
      also ap reply (I (removing (card_pair 2)) (omega arith))
      also ap reply (I₂ (working 9) (omega arith))
      also ap reply (J (looking 7 []) (omega arith))
      also ap reply (J (working 0) (omega arith))
      also tt
    where
      page : List ℕ → List ℤ
      page l = map pos (hashes_on l)

      freed : List ℕ → Meta → List ℤ
      freed bitmap m = pos (bit_of bitmap 1) ∷ pos m.free ∷ []

      reply : Reply → List ℤ
      reply r = map pos (reply_numbers r)

pub bench : Bench
unfolding cards buckets_at mask_digits high_mask low_mask bucket_of bucket_point bucket_block bit_block
bench fresh e number fits overwrite flag free =
    (refl, (refl, (refl, calls fresh e number fits overwrite flag free)))
