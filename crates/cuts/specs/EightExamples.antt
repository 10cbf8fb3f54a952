-- "a removal while copying can touch 8": computed, from a format on, by the calls' own definitions.
use Rattle.std.specs.Prelude.{◌≡◌, refl, Bool, true, false, not, List, [], ◌∷◌, ◌++◌, map, ℕ, zero, suc, ◌+◌, ◌*◌, ◌≤◌, ◌<◌, length}
use Rattle.std.proofs.Common.{sym, ap, ap₂, ◌∙◌, subst, arith}
use Rattle.lists.specs.Lists.{keep, up_from, Each}
use Rattle.endian.specs.Endian.{le16, le32}
use Rattle.address.specs.Address.{buckets_at, mask_digits, high_mask, low_mask, bucket_of, bit_length, split_from, last_split}
use Rattle.address.specs.Address.{point, bucket_point, bucket_block, bit_block, made}
use Rattle.address.specs.Role.{role_of}
use Rattle.page.specs.declared.Pair.{Pair}
use Rattle.page.specs.declared.Entry.{Entry}
use Rattle.page.specs.Entries.{encode_page, encode_entry}
use Rattle.store.specs.Store.{trailer}
use Rattle.model.specs.declared.Order.{Order}
use Rattle.model.specs.Index.{Page, copying, Index, no_chain}
use Rattle.model.specs.Pages.{free_bit, first_free, take_page, put, cut}
use Rattle.model.specs.Held.{sources, held, count, wanted}
use Rattle.model.specs.Steps.{begin, step}
use Rattle.model.specs.Calls.{Result, done, order_of, format, format_in, insert, remove, work}
use Rattle.model.specs.Machine.{Call, formatting, inserting, removing, working, CallFits, Ran, Machine, settled}
use Rattle.model.specs.Machine.{run_index, on_index}
use Rattle.model.proofs.FormatLaws.{format-wf}
use Rattle.model.proofs.FrameLaws.{remove-frame}
use Rattle.model.proofs.RemoveLaws.{remove-wf}
use Rattle.image.specs.Layout.{paged, blank, meta_front, padded, meta_of, map_front, flags_of, bucket_image, image}
use Rattle.image.specs.Layout.{encode_block, encode}
use Rattle.image.specs.SoundStore.{Encodes}
use Rattle.outcomes.specs.Outcomes.{changed, format_replacing, format_outcome, run_store, on_store}
use Rattle.outcomes.proofs.OutcomeIndexLaws.{run-encode}
use Rattle.outcomes.proofs.OutcomeMachineLaws.{simulates}
use Rattle.outcomes.proofs.OutcomeSoundLaws.{blocks_is, legal-is}
use Rattle.journal.specs.Journal.{equal}
use Rattle.journal.specs.Altered.{altered}
use Rattle.cuts.specs.FewLaws.{framed-store, altered-bodies}

-- ---- the calls

-- pairs of bucket 0: that stay there when bucket 2 splits off, and that move
stay : ℕ → Pair
stay i = record { hash = 4 * i; block = 0; offset = 1 }

move : ℕ → Pair
move i = record { hash = 4 * i + 2; block = 0; offset = 1 }

-- a call with each of n pairs, and then others
row : (Pair → Call) → (ℕ → Pair) → (i n : ℕ) → List Call → List Call
row c p i n cs = map (λ j. c (p j)) (up_from i n) ++ cs

-- 81 pairs into bucket 0, one of which, on the second of three pages, moves; a split begun; 40 pairs into bucket 2,
-- that one copied there, and 40 pairs more; then all others of both second pages removed
calls : List Call
calls =
    row inserting stay 0 40
    (row inserting move 0 1
    (row inserting stay 40 40
    (working 1 ∷ row inserting move 1 40
    (working 1 ∷ row inserting move 41 40
    (row removing stay 40 39
    (row removing move 41 39 []))))))

-- fill 40, store number 0, and told to overwrite
abbrev order : Order
order = order_of 40 0 1

-- what calls leave, one after the other
after : (M : Machine) → List Call → M.State → M.State
after M [] s = s
after M (c ∷ cs) s = after M cs (M.run c s).state

-- ---- the index that they make, and the one after the removal of the pair that was copied

entries : (ℕ → Pair) → (moved : Bool) → (i n : ℕ) → List Entry
entries p m i n = map (λ j. record { pair = p j; moved = m }) (up_from i n)

page : ℕ → List Entry → Page
page n es = record { bit = n; entries = es }

-- by the overflow pages of buckets 0 and 2
index : (old new : List Page) → Index
index old new =
    record {
      size = 10;
      fill = 40;
      number = 0;
      max_bucket = 2;
      spares = 0 ∷ 3 ∷ 5 ∷ [];
      job = copying;
      chains =
          record { first = entries stay false 0 40; more = old }
          ∷ no_chain
          ∷ record { first = entries move false 1 40; more = new }
          ∷ [];
    }

before : Index
before =
    index (page 1 (entries move false 0 1) ∷ page 2 (entries stay false 79 1) ∷ [])
    (page 3 (entries move true 0 1) ∷ page 4 (entries move false 80 1) ∷ [])

later : Index
later = index (page 2 (entries stay false 79 1) ∷ []) (page 4 (entries move false 80 1) ∷ [])

reached : after on_index calls (format 10 order) ≡ before
unfolding stay move row calls after entries page index before
    buckets_at mask_digits high_mask low_mask bucket_of bit_length split_from point made
    free_bit take_page put cut sources held count wanted begin step format insert remove work run_index
reached = refl

removed : remove before (move 0) ≡ done later
unfolding entries page index before later stay move
    mask_digits high_mask low_mask bucket_of bit_length split_from cut sources held remove
removed = refl

-- meta, the bitmap, and in each chain the page that is freed, the one before it and the one after it
abbrev touched : List ℕ
touched = 0 ∷ 1 ∷ 3 ∷ 4 ∷ 5 ∷ 6 ∷ 8 ∷ 9 ∷ []

bodies : keep (λ k. not (equal (encode_block before k) (encode_block later k))) (up_from 0 before.size) ≡ touched
unfolding entries page index before later stay move
    buckets_at mask_digits high_mask low_mask bucket_of bit_length split_from last_split point bucket_point bucket_block bit_block
    role_of free_bit first_free count le16 le32 encode_page encode_entry trailer
    paged blank meta_front padded meta_of map_front flags_of bucket_image image encode_block
bodies = refl

-- ---- the calls' numbers are u32

stay-fits : (j : ℕ) → j < 81 → CallFits (inserting (stay j))
unfolding stay
stay-fits j h = (omega arith, omega arith, omega arith)

move-fits : (j : ℕ) → j < 81 → CallFits (inserting (move j))
unfolding move
move-fits j h = (omega arith, omega arith, omega arith)

record Fit (cs : List Call) : Type 0 where
  all : Each CallFits cs

row_fits : {cs : List Call} (c : Pair → Call) (p : ℕ → Pair) → ((j : ℕ) → j < 81 → CallFits (c (p j)))
    → (i n : ℕ) → i + n ≤ 81 → Fit cs → Fit (row c p i n cs)
unfolding row
row_fits c p fits i zero h f = f
row_fits c p fits i (suc n) h f =
    record { all = (fits i (omega arith), (row_fits c p fits (suc i) n (omega arith) f).all) }

step_fits : {cs : List Call} → Fit cs → Fit (working 1 ∷ cs)
step_fits f = record { all = (omega arith, f.all) }

calls-fit : Fit calls
unfolding calls
calls-fit =
    row_fits inserting stay stay-fits 0 40 (omega arith)
    (row_fits inserting move move-fits 0 1 (omega arith)
    (row_fits inserting stay stay-fits 40 40 (omega arith)
    (step_fits
    (row_fits inserting move move-fits 1 40 (omega arith)
    (step_fits
    (row_fits inserting move move-fits 41 40 (omega arith)
    (row_fits removing stay stay-fits 40 39 (omega arith)
    (row_fits removing move move-fits 41 39 (omega arith) (record { all = tt })))))))))

-- ---- of stores

-- call after call a store does as its index does
encodes : (cs : List Call) → Each CallFits cs → (s : List ℕ) (x : Index) → Encodes s x
    → Encodes (after on_store cs s) (after on_index cs x)
unfolding after
encodes [] f s x r = r
encodes (c ∷ cs) f s x r = encodes cs f.1 _ _ (simulates.state c f.0 s x r)

made-before : Encodes (after on_store calls (encode (format 10 order))) before
made-before =
    subst (Encodes (after on_store calls (encode (format 10 order)))) reached
    (encodes calls calls-fit.all (encode (format 10 order)) (format 10 order)
    (format-wf 10 order (omega arith, omega arith, omega arith) refl refl, refl))

eight : altered (encode before) (encode later) ≡ touched
eight =
    let w = made-before.0 in
    altered-bodies before later w.laid (remove-wf before (move 0) later w removed).laid
    (framed-store before later (remove-frame before (move 0) later removed).frame)
    ∙ bodies

-- a format of any store of 10 blocks
formats : (s : List ℕ) → length s ≡ 5120 → (run_store (formatting order) s).state ≡ encode (format 10 order)
unfolding run_store format_outcome format_replacing
formats s e =
    ap₂ (λ (l : Bool) (n : ℕ). (changed s (format_in l true false (format n order))).store) (legal-is s 10 e)
    (blocks_is s 10 e)

-- so does the removal after that format and these calls
eight-store : (s : List ℕ) → length s ≡ 5120
    → let t = after on_store (formatting order ∷ calls) s in
    altered t (run_store (removing (move 0)) t).state ≡ touched
unfolding after run_index
eight-store s e =
    subst (λ (t : List ℕ). altered t (run_store (removing (move 0)) t).state ≡ touched)
    (sym (ap (after on_store calls) (formats s e) ∙ made-before.1))
    (ap (λ (a : Ran (List ℕ)). altered (encode before) a.state)
    (run-encode (removing (move 0)) before made-before.0)
    ∙ ap (λ (a : Result). altered (encode before) (encode (settled before a).state)) removed
    ∙ eight)
