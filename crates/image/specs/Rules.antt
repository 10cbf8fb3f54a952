-- The sound-store rules (docs/RULES.md 5; rule n is 5.n) as tests of a store's bytes, and the verdict. Each rule is
-- tested when those before it hold.
use Rattle.std.specs.Prelude.{Bool, true, false, cond, not, ◌&&◌, ◌||◌, List, [], ◌∷◌, ℕ, zero, suc, ◌-◌, ◌%◌, leb, ltb, eqb, length, get_or, drop}
use Rattle.std.specs.Bool.{beq}
use Rattle.std.proofs.Math.Option
use Rattle.std.proofs.Math.Option.{Option, none, some}
use Rattle.lists.specs.Lists.{b2n, any, all, tally, find, bind, up_from}
use Rattle.lists.specs.Bytes.{part, all_zero}
use Rattle.lists.specs.Block.{blocks, block}
use Rattle.endian.specs.Endian.{u16_at, u32_at}
use Rattle.address.specs.Address.{high_mask, low_mask, split_from, last_split, point, bit_block, made}
use Rattle.address.specs.Role.{Role, meta, bucket_page, bit_page, unmade}
use Rattle.page.specs.declared.Entry.{Entry}
use Rattle.page.specs.Pair.{is}
use Rattle.page.specs.Rule.{page_ok}
use Rattle.store.specs.Flags.{overflow_flags, bucket_flags, bitmap_flags, meta_flags}
use Rattle.store.specs.Flags.{populated_flags, split_flags, cleanup_flags, page_id}
use Rattle.store.specs.Store.{prev_at, next_at, bucket_at, flags_at, id_at, checked}
use Rattle.model.specs.Index.{Job, idle, copying, clearing, Index, entries_at, bucket, new_bucket, old_bucket}
use Rattle.model.specs.Pages.{free_of}
use Rattle.model.specs.Held.{count}
use Rattle.model.specs.Calls.{size_ok, fill_ok}
use Rattle.image.specs.declared.Meta.{Meta}
use Rattle.store.specs.Flags.{no_link}
use Rattle.image.specs.Decode.{bit_of, meta_at, max_at, point_at, spares_at, role_at, block_of, trail, new_flags}
use Rattle.image.specs.Decode.{old_flags, decode}

-- "store not a multiple of 512 bytes, or N outside 4..1024"
unfoldable pub length_ok : List ℕ → Bool
length_ok s = eqb (length s % 512) 0 && size_ok (blocks s)

-- ---- rules 1 and 2, of the meta block's bytes and fields

-- (1) "magic, edition, N, zero bytes of meta": those that no field has, 14..15 and 108..491
unfoldable pub front_ok : (size : ℕ) → List ℕ → Bool
front_ok n l =
    eqb (u32_at l 0) 0x06440640
    && (eqb (u32_at l 4) 512 && (eqb (u32_at l 36) n && (all_zero (part 14 16 l) && all_zero (part 108 492 l))))

-- "spares[0] zero, spares[1..s] at least 1 and not falling, zero above s"
unfoldable pub spares_ok : (s : ℕ) → List ℕ → Bool
spares_ok s sp =
    eqb (get_or sp 0 0) 0
    && (leb 1 (get_or sp 1 0)
    && (all (λ i. leb (get_or sp i 0) (get_or sp (suc i) 0)) (up_from 1 (s - 1)) && all_zero (drop (suc s) sp)))

-- (2) "fill, max bucket at least 1, masks, s, .. made blocks at most N"
unfoldable pub meta_ok : (size : ℕ) → Meta → Bool
meta_ok n m =
    fill_ok m.fill
    && (leb 1 m.max && (eqb m.high (high_mask m.max) && (eqb m.low (low_mask m.max)
    && (eqb m.point (point m.max)
    && (spares_ok (point m.max) m.spares && leb (made m.spares (point m.max)) n)))))

-- ---- rule 3, of one block against its role

-- "unused blocks are zero"
abbrev pub unused : List ℕ → Bool
unused l = all_zero (part 0 508 l)

-- "meta and bitmap have no links", nor a bucket
abbrev pub unlinked : (flags : ℕ) → List ℕ → Bool
unlinked flags l =
    eqb (flags_at l) flags
    && (eqb (id_at l) page_id && (eqb (prev_at l) no_link && (eqb (next_at l) no_link && eqb (bucket_at l) no_link)))

-- "job flags stand only on max bucket (populated) and the bucket that it split off from (split ..
-- or cleanup alone)"
abbrev pub bucket_flags_ok : (max b flags : ℕ) → Bool
bucket_flags_ok max b f =
    eqb f bucket_flags
    || ((eqb b max && eqb f populated_flags) || (eqb b (split_from max) && (eqb f split_flags || eqb f cleanup_flags)))

-- "each block's flags, id and bucket fit its role .. any made overflow block but the bitmap is an overflow page
-- (flags 1) or unused (flags 0), as its flags say, with a bucket at most max bucket"
unfoldable pub fits : (max : ℕ) → Role → List ℕ → Bool
fits max meta l = unlinked meta_flags l
fits max (bucket_page b) l =
    cond (leb b max) (bucket_flags_ok max b (flags_at l) && (eqb (id_at l) page_id && eqb (bucket_at l) b)) (unused l)
fits max (bit_page zero) l = unlinked bitmap_flags l
fits max (bit_page (suc n)) l =
    cond (eqb (flags_at l) overflow_flags) (eqb (id_at l) page_id && leb (bucket_at l) max) (unused l)
fits max unmade l = unused l

-- a made overflow block, but for the bitmap, with the flags of an overflow page
unfoldable pub overflow_as : Role → List ℕ → Bool
overflow_as meta l = false
overflow_as (bucket_page b) l = false
overflow_as (bit_page zero) l = false
overflow_as (bit_page (suc n)) l = eqb (flags_at l) overflow_flags
overflow_as unmade l = false

-- ---- rules 5 and 7, of entries

-- "no pair twice"
abbrev pub distinct : List Entry → Bool
distinct [] = true
distinct (e ∷ es) = not (any (is e.pair) es) && distinct es

-- "each entry stands in its bucket, but the old bucket of a job may hold entries of the new one": of chain b, that
-- maps to h
abbrev pub placed : Job → (new old h b : ℕ) → Bool
placed idle new old h b = eqb h b
placed copying new old h b = eqb h b || (eqb b old && eqb h new)
placed clearing new old h b = eqb h b || (eqb b old && eqb h new)

-- "while copying, each moved entry of the new bucket stands in the old too, and no unmoved one does"
abbrev pub copied : Job → (new old : List Entry) → Bool
copied idle new old = true
copied clearing new old = true
copied copying new old = all (λ (e : Entry). beq e.moved (any (is e.pair) old)) new

module _ (s : List ℕ) where
  abbrev pub buckets : List ℕ
  buckets = up_from 0 (suc (max_at s))

  abbrev pub is_overflow : ℕ → Bool
  is_overflow k = overflow_as (role_at s k) (block s k)

  unfoldable pub rule1 : Bool
  rule1 = front_ok (blocks s) (block s 0)

  unfoldable pub rule2 : Bool
  rule2 = meta_ok (blocks s) (meta_at s)

  -- "(split exactly with it, ..)"
  unfoldable pub rule3 : Bool
  rule3 =
      all (λ k. fits (max_at s) (role_at s k) (block s k)) (up_from 0 (blocks s))
      && beq (eqb (new_flags s) populated_flags) (eqb (old_flags s) split_flags)

  -- the chain of bucket b may go on from block k to block j: "an overflow page whose previous names the page it came
  -- from", of the chain's own bucket, and "none is empty"
  abbrev pub link_ok : (b k j : ℕ) → Bool
  link_ok b k j =
      is_overflow j && (eqb (prev_at (block s j)) k && (eqb (bucket_at (block s j)) b && ltb 0 (u16_at (block s j) 0)))

  -- it goes on from block k to the blocks js: "every next is none or .."
  unfoldable pub linked : (b k : ℕ) → List ℕ → Bool
  linked b k [] = eqb (next_at (block s k)) no_link
  linked b k (j ∷ js) = eqb (next_at (block s k)) j && (link_ok b k j && linked b j js)

  -- (4) "each overflow page stands in one chain"
  unfoldable pub rule4 : Bool
  rule4 =
      all (λ b. linked b (block_of s b) (trail s b)) buckets
      && all (λ k. eqb (tally (eqb k) (bind buckets (trail s))) (b2n (is_overflow k))) (up_from 0 (blocks s))

  -- (5) "pages as above, no pair twice in a chain"
  unfoldable pub rule5 : Bool
  rule5 =
      all (λ b. all (λ k. page_ok (block s k)) (block_of s b ∷ trail s b)) buckets
      && all (λ b. distinct (entries_at (decode s) b)) buckets

  abbrev pub map_at : List ℕ
  map_at = block s (bit_block (spares_at s) (point_at s) 0)

  -- bit n of the bitmap
  abbrev pub bit_at : ℕ → ℕ
  bit_at n = bit_of map_at n

  abbrev pub top_at : ℕ
  top_at = get_or (spares_at s) (point_at s) 0

  -- "free to use again", where blocks with the flags of an overflow page are used
  abbrev pub free_at : ℕ → Bool
  free_at n = free_of top_at (is_overflow (bit_block (spares_at s) (point_at s) n)) n

  -- "Bit 1 means in use or not yet made, 0 means free to use again.": no 0 bit past the made ones
  abbrev pub bit_ok : ℕ → Bool
  bit_ok n = eqb (bit_at n) (b2n (not (free_at n)))

  -- "first free is the lowest 0 bit or, without one, spares[s]"
  abbrev pub first_free_ok : Bool
  first_free_ok = eqb (meta_at s).free (Option.get_or (find (λ n. eqb (bit_at n) 0) (up_from 0 2048)) top_at)

  -- (6) "bitmap bits and zero bytes, and first free"
  unfoldable pub rule6 : Bool
  rule6 = all bit_ok (up_from 0 2048) && (all_zero (part 256 492 map_at) && first_free_ok)

  unfoldable pub rule7 : Bool
  rule7 =
      let x = decode s in
      all (λ b. all (λ e. placed x.job (new_bucket x) (old_bucket x) (bucket x e.pair) b) (entries_at x b)) buckets
      && copied x.job (entries_at x (new_bucket x)) (entries_at x (old_bucket x))

  -- (8) "bucket pages' previous fields, count"
  unfoldable pub rule8 : Bool
  rule8 =
      all (λ b. eqb (prev_at (block s (block_of s b))) (last_split (max_at s) b)) buckets
      && eqb (meta_at s).count (count (decode s))

  -- the rules by their numbers
  unfoldable pub rules : List Bool
  rules = rule1 ∷ rule2 ∷ rule3 ∷ rule4 ∷ rule5 ∷ rule6 ∷ rule7 ∷ rule8 ∷ []

-- ---- the verdict, of a store of legal length

pub data Judged : Type 0 where
  damaged : (block : ℕ) → Judged
  not_index : (rule : ℕ) → Judged
  sound : Index → Judged

unfoldable pub lowest_damaged : List ℕ → Option ℕ
lowest_damaged s = find (λ k. not (checked s k)) (up_from 0 (blocks s))

unfoldable pub lowest_broken : List ℕ → Option ℕ
lowest_broken s = find (λ r. not (get_or (rules s) (r - 1) true)) (up_from 1 8)

abbrev pub judge : (damage broken : Option ℕ) → Index → Judged
judge (some k) broken x = damaged k
judge none (some r) x = not_index r
judge none none x = sound x

unfoldable pub verdict : List ℕ → Judged
verdict s = judge (lowest_damaged s) (lowest_broken s) (decode s)
