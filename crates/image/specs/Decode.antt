-- A store read as an index: total on all bytes, with links followed as far as the fuel lasts.
use Rattle.std.specs.Prelude.{true, false, cond, List, [], ◌∷◌, map, ℕ, zero, suc, ◌+◌, ◌/◌, ◌%◌, ◌^◌, eqb, get_or, take}
use Rattle.lists.specs.Lists.{up_from}
use Rattle.lists.specs.Block.{blocks, block}
use Rattle.endian.specs.Endian.{u16_at, u32_at}
use Rattle.address.specs.Address.{split_from, point, bucket_block}
use Rattle.address.specs.Role.{Role, meta, bucket_page, bit_page, unmade, role_of}
use Rattle.page.specs.Entries.{entries_of}
use Rattle.store.specs.Flags.{populated_flags, cleanup_flags}
use Rattle.store.specs.Store.{next_at, flags_at}
use Rattle.model.specs.Index.{Page, Chain, Job, idle, copying, clearing, Index}
use Rattle.image.specs.declared.Meta.{Meta}
use Rattle.store.specs.Flags.{no_link}

-- bit n of the bytes l, "lowest bit of a byte first"
abbrev pub bit_of : List ℕ → ℕ → ℕ
bit_of l n = get_or l (n / 8) 0 / 2 ^ (n % 8) % 2

-- n numbers, four bytes each, from place i on
unfoldable pub words_at : List ℕ → (i n : ℕ) → List ℕ
words_at l i zero = []
words_at l i (suc n) = u32_at l i ∷ words_at l (i + 4) n

unfoldable pub read_meta : List ℕ → Meta
read_meta l =
    record {
      count = u32_at l 8;
      fill = u16_at l 12;
      max = u32_at l 16;
      high = u32_at l 20;
      low = u32_at l 24;
      point = u32_at l 28;
      free = u32_at l 32;
      size = u32_at l 36;
      spares = words_at l 40 16;
      number = u32_at l 104;
    }

-- the blocks that the next fields lead to from block k
unfoldable pub follow : List ℕ → (fuel k : ℕ) → List ℕ
follow s zero k = []
follow s (suc f) k =
    elim (eqb (next_at (block s k)) no_link) [ true ↦ [] | false ↦ next_at (block s k) ∷ follow s f (next_at (block s k)) ]

abbrev pub bit_from : Role → ℕ
bit_from meta = 0
bit_from (bucket_page b) = 0
bit_from (bit_page n) = n
bit_from unmade = 0

-- by the flags of the max bucket's page and of the page of the bucket that it split off from
abbrev pub job_from : (new old : ℕ) → Job
job_from new old = cond (eqb new populated_flags) copying (cond (eqb old cleanup_flags) clearing idle)

module _ (s : List ℕ) where
  abbrev pub meta_at : Meta
  meta_at = read_meta (block s 0)

  abbrev pub max_at : ℕ
  max_at = meta_at.max

  abbrev pub point_at : ℕ
  point_at = point max_at

  -- spares[0..s]
  abbrev pub spares_at : List ℕ
  spares_at = take (suc point_at) meta_at.spares

  abbrev pub role_at : ℕ → Role
  role_at k = role_of spares_at point_at k

  -- the block of bucket b, and the blocks that follow it in its chain
  abbrev pub block_of : ℕ → ℕ
  block_of b = bucket_block spares_at b

  abbrev pub trail : ℕ → List ℕ
  trail b = follow s (blocks s) (block_of b)

  abbrev pub read_page : ℕ → Page
  read_page k = record { bit = bit_from (role_at k); entries = entries_of (block s k) }

  abbrev pub read_chain : ℕ → Chain
  read_chain b = record { first = entries_of (block s (block_of b)); more = map read_page (trail b) }

  abbrev pub new_flags : ℕ
  new_flags = flags_at (block s (block_of max_at))

  abbrev pub old_flags : ℕ
  old_flags = flags_at (block s (block_of (split_from max_at)))

  unfoldable pub decode : Index
  decode =
      record {
        size = blocks s;
        fill = meta_at.fill;
        number = meta_at.number;
        max_bucket = max_at;
        spares = spares_at;
        job = job_from new_flags old_flags;
        chains = map read_chain (up_from 0 (suc max_at));
      }
