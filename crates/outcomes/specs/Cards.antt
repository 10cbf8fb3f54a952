-- Bench cards A to K (docs/RULES.md 9): one table, one claim. The stores are lists of bytes, and the calls on them are
-- those that the contracts cite.
use Rattle.std.specs.Prelude.{◌≡◌, false, List, [], ◌∷◌, ◌++◌, map, ℕ, ◌*◌, ◌^◌, ◌≤◌, ◌<◌, ℤ, pos, negsuc, length, get_or, replicate}
use Rattle.lists.specs.Lists.{up_from, Each}
use Rattle.lists.specs.Block.{block}
use Rattle.address.specs.Address.{bucket_of, bucket_block, bit_block}
use Rattle.page.specs.declared.Pair.{Pair}
use Rattle.page.specs.declared.Entry.{Entry}
use Rattle.page.specs.Entries.{entries_of}
use Rattle.model.specs.declared.Order.{Order}
use Rattle.model.specs.Answers.{lookup_gives, work_steps, work_stop, standing_of}
use Rattle.model.specs.Calls.{order_of}
use Rattle.model.specs.Machine.{Call, formatting, inserting, removing, looking, working, asking}
use Rattle.model.specs.Machine.{Reply, plain, looked, worked, stands, reply_no, Machine}
use Rattle.image.specs.Decode.{meta_at}
use Rattle.image.specs.Rules.{bit_at}
use Rattle.outcomes.specs.Outcomes.{store_in_use, run_store, on_store}

-- ---- calls, one after the other

module _ (M : Machine) where
  abbrev pub state_after : List Call → M.State → M.State
  state_after [] s = s
  state_after (c ∷ cs) s = state_after cs (M.run c s).state

  abbrev pub replies : List Call → M.State → List Reply
  replies [] s = []
  replies (c ∷ cs) s = (M.run c s).reply ∷ replies cs (M.run c s).state

-- a hash code, with one reading's place for all
abbrev pub card_pair : ℕ → Pair
card_pair h = record { hash = h; block = 9; offset = 1 }

-- k even hash codes from 0 on
abbrev pub evens : ℕ → List Call
evens k = map (λ (i : ℕ). inserting (card_pair (2 * i))) (up_from 0 k)

-- E's 41 inserts, of which the last is hash 80; F's removal of that; G's three inserts, of hashes 0, 2, 4. `o` has a
-- format's numbers by its fill.
abbrev pub filled_e : (o : ℕ → Order) → List Call
filled_e o = formatting (o 40) ∷ evens 41

abbrev pub filled_f : (o : ℕ → Order) → List Call
filled_f o = filled_e o ++ removing (card_pair 80) ∷ []

abbrev pub filled_g : (o : ℕ → Order) → List Call
filled_g o = formatting (o 1) ∷ evens 3

-- ---- what the cards ask of replies and stores

-- the number, and a lookup's matches, or the steps and the stop of work
abbrev pub reply_numbers : Reply → List ℕ
reply_numbers (plain a) = reply_no (plain a) ∷ []
reply_numbers (looked l) = reply_no (looked l) ∷ lookup_gives l.answer ∷ []
reply_numbers (worked a) = reply_no (worked a) ∷ work_steps a ∷ work_stop a ∷ []
reply_numbers (stands a) = reply_no (stands a) ∷ []

abbrev pub slack_in : Reply → List ℤ
slack_in (plain a) = []
slack_in (looked l) = []
slack_in (worked a) = []
slack_in (stands a) = (standing_of a).slack ∷ []

-- the hash codes on a page
abbrev pub hashes_on : List ℕ → List ℕ
hashes_on page = map (λ (e : Entry). e.pair.hash) (entries_of page)

abbrev pub minus_one : ℤ
minus_one = negsuc 0

-- ---- the table

-- What the definitions give, and what the paper says.
pub record Card : Type 0 where
  pub gives : List ℤ
  pub said : List ℤ

infix 10 ◌is◌
abbrev pub ◌is◌ : List ℕ → List ℕ → Card
a is b = record { gives = map pos a; said = map pos b }

-- `fresh n` is a store of n blocks before its first format, of any bytes
module _ (fresh : ℕ → List ℕ) where
  -- the store of n blocks after the calls
  abbrev pub card_store : ℕ → List Call → List ℕ
  card_store n cs = state_after on_store cs (fresh n)

  -- the numbers that the calls get, where 0 is done
  abbrev pub nos : ℕ → List Call → List ℕ
  nos n cs = map reply_no (replies on_store cs (fresh n))

  -- what one more call gets
  abbrev pub gets : ℕ → List Call → Call → List ℕ
  gets n cs c = reply_numbers (run_store c (card_store n cs)).reply

  unfoldable pub cards : (o : ℕ → Order) → List Card
  cards o =
      -- A. Max bucket 4: hash 6 goes to 2, 12 to 4, 5 to 1.
      (map (bucket_of 4) (6 ∷ 12 ∷ 5 ∷ []) is (2 ∷ 4 ∷ 1 ∷ []))
      -- B. spares[1] = 1, spares[2] = 3: buckets 2, 3 in blocks 4, 5; bits 1, 2 in 6, 7; bucket 4 in 8.
      ∷ (map (bucket_block (0 ∷ 1 ∷ 3 ∷ [])) (2 ∷ 3 ∷ 4 ∷ []) is (4 ∷ 5 ∷ 8 ∷ []))
      ∷ (map (bit_block (0 ∷ 1 ∷ 3 ∷ []) 2) (1 ∷ 2 ∷ []) is (6 ∷ 7 ∷ []))
      -- C. N = 4: format accepted; N = 3 gets 1.
      ∷ (nos 4 (formatting (o 10) ∷ []) is (0 ∷ []))
      ∷ (nos 3 (formatting (o 10) ∷ []) is (1 ∷ []))
      -- D. N = 4, fill 40: even hashes, 40 accepted, 41st gets 7; an odd one is accepted.
      ∷ (nos 4 (formatting (o 40) ∷ evens 41 ++ inserting (card_pair 1) ∷ [])
      is (0 ∷ replicate 40 0 ++ 7 ∷ 0 ∷ []))
      -- E. Same with N = 5: the 41st goes to block 4, spares[1] = 2.
      ∷ (nos 5 (filled_e o) is (0 ∷ replicate 41 0))
      ∷ (hashes_on (block (card_store 5 (filled_e o)) 4) is (80 ∷ []))
      ∷ ((get_or (meta_at (card_store 5 (filled_e o))).spares 1 0 ∷ []) is (2 ∷ []))
      -- F. E, then the 41st's page emptied: bit 1 is 0, first free 1, block 4 is used next.
      ∷ (hashes_on (block (card_store 5 (filled_f o)) 4) is [])
      ∷ ((bit_at (card_store 5 (filled_f o)) 1 ∷ (meta_at (card_store 5 (filled_f o))).free ∷ []) is (0 ∷ 1 ∷ []))
      ∷ (hashes_on (block (card_store 5 (filled_f o ++ inserting (card_pair 82) ∷ [])) 4) is (82 ∷ []))
      -- G. N = 6, fill 1, hashes 0, 2, 4: slack −1, `w 9` gives 5 steps, stop 9.
      ∷ record { gives = slack_in (run_store asking (card_store 6 (filled_g o))).reply; said = minus_one ∷ [] }
      ∷ (gets 6 (filled_g o) (working 9) is (0 ∷ 5 ∷ 9 ∷ []))
      -- H. G with N = 5: 0 steps, stop 7.
      ∷ (gets 5 (filled_g o) (working 9) is (0 ∷ 0 ∷ 7 ∷ []))
      -- I. G with `w 2`: hash 2 found once; removed; `w 9` gives 2 steps, stop 9.
      ∷ (gets 6 (filled_g o ++ working 2 ∷ []) (looking 2 (replicate 60 0)) is (0 ∷ 1 ∷ []))
      ∷ (gets 6 (filled_g o ++ working 2 ∷ []) (removing (card_pair 2)) is (0 ∷ []))
      ∷ (gets 6 (filled_g o ++ working 2 ∷ removing (card_pair 2) ∷ []) (working 9) is (0 ∷ 2 ∷ 9 ∷ []))
      -- J. No match, output of 0 bytes: done, 0.
      ∷ (gets 4 (formatting (o 1) ∷ []) (looking 7 []) is (0 ∷ 0 ∷ []))
      -- K. Budget 0: 0 steps, stop 0.
      ∷ (gets 4 (formatting (o 1) ∷ []) (working 0) is (0 ∷ 0 ∷ 0 ∷ []))
      ∷ []

-- each card gives what the paper says, whatever number format is given, and whatever bytes the stores had before; if
-- format is not told to overwrite ("0 in 01's lines"), none of them was in use
abbrev pub Bench : Type 0
Bench =
    (fresh : ℕ → List ℕ) → ((n : ℕ) → length (fresh n) ≡ 512 * n) → (number : ℕ) → number < 2 ^ 32
    → (overwrite : ℕ) → overwrite ≤ 1 → ((n : ℕ) → overwrite ≡ 0 → store_in_use (fresh n) ≡ false)
    → Each (λ (c : Card). c.gives ≡ c.said) (cards fresh (λ (fill : ℕ). order_of fill number overwrite))
