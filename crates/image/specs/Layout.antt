-- The bytes of an index: docs/RULES.md 3, "Blocks", and 4, "Where things stand".
use Rattle.std.specs.Prelude.{cond, not, List, [], ◌∷◌, ◌++◌, map, ℕ, zero, suc, ◌+◌, ◌-◌, ◌*◌, leb, eqb, length, replicate}
use Rattle.std.proofs.Math.Option.{Option, none, some}
use Rattle.lists.specs.Lists.{b2n, find, bind, up_from}
use Rattle.endian.specs.Endian.{le16, le32}
use Rattle.address.specs.Address.{high_mask, low_mask, split_from, last_split, point, bucket_block, bit_block}
use Rattle.address.specs.Role.{Role, meta, bucket_page, bit_page, unmade, role_of}
use Rattle.page.specs.declared.Entry.{Entry}
use Rattle.page.specs.Entries.{encode_page}
use Rattle.store.specs.Flags.{overflow_flags, bucket_flags, bitmap_flags, meta_flags}
use Rattle.store.specs.Flags.{populated_flags, split_flags, cleanup_flags, no_link}
use Rattle.store.specs.Store.{trailer, sealed}
use Rattle.model.specs.Index.{Page, Chain, Job, idle, copying, clearing, Index, chain}
use Rattle.model.specs.Pages.{is_free, first_free}
use Rattle.model.specs.Held.{count}
use Rattle.image.specs.declared.Meta.{Meta}

-- ---- a block's body, bytes 0..507: the block without its check

-- bytes 0..491 and the trailer
unfoldable pub paged : List ℕ → (prev next bucket flags : ℕ) → List ℕ
paged front prev next bucket flags = front ++ trailer prev next bucket flags

-- an unused block: "bytes 0..507 zero"
unfoldable pub blank : List ℕ
blank = replicate 508 0

-- ---- meta

-- "magic 0x06440640 at 0, edition 512 at 4, count of held pairs at 8, fill (u16) at 12, max bucket at 16, high mask
-- 20, low mask 24, overflow point 28, first free 32, N at 36, spares[0..15] from 40, store number at 104. All else
-- zero"
unfoldable pub meta_front : Meta → List ℕ
meta_front m =
    le32 0x06440640 ++ (le32 512 ++ (le32 m.count ++ (le16 m.fill ++ (le16 0 ++ (le32 m.max ++ (le32 m.high
    ++ (le32 m.low ++ (le32 m.point ++ (le32 m.free ++ (le32 m.size
    ++ (bind m.spares le32 ++ (le32 m.number ++ replicate 384 0))))))))))))

-- spares[0..15]: those up to s, and zeros
unfoldable pub padded : List ℕ → List ℕ
padded sp = sp ++ replicate (16 - length sp) 0

unfoldable pub meta_of : Index → Meta
meta_of x =
    let m = x.max_bucket in
    record {
      count = count x;
      fill = x.fill;
      max = m;
      high = high_mask m;
      low = low_mask m;
      point = point m;
      free = first_free x;
      size = x.size;
      spares = padded x.spares;
      number = x.number;
    }

-- ---- bitmap

-- a number of binary digits, the lowest first
abbrev pub from_bits : List ℕ → ℕ
from_bits [] = 0
from_bits (b ∷ bs) = b + 2 * from_bits bs

-- "2,048 bits in bytes 0..255, lowest bit of a byte first; the rest zero"
unfoldable pub map_front : (ℕ → ℕ) → List ℕ
map_front bit = map (λ (i : ℕ). from_bits (map bit (up_from (8 * i) 8))) (up_from 0 256) ++ replicate 236 0

-- "Bit 1 means in use or not yet made, 0 means free to use again."
abbrev pub map_bit : Index → ℕ → ℕ
map_bit x n = b2n (not (is_free x n))

-- ---- pages with their links

-- the flags of bucket b's page: "bucket 2, .. being populated 16, being split 32, needs split cleanup 64"
abbrev pub flags_in : Job → (new old b : ℕ) → ℕ
flags_in idle new old b = bucket_flags
flags_in copying new old b = cond (eqb b new) populated_flags (cond (eqb b old) split_flags bucket_flags)
flags_in clearing new old b = cond (eqb b old) cleanup_flags bucket_flags

unfoldable pub flags_of : Index → ℕ → ℕ
flags_of x b = flags_in x.job x.max_bucket (split_from x.max_bucket) b

-- An overflow page with its links.
pub record LinkedPage : Type 0 where
  pub bit : ℕ
  pub bucket : ℕ
  pub prev : ℕ
  pub next : ℕ
  pub entries : List Entry

module _ (sp : List ℕ) (s : ℕ) where
  abbrev pub next_of : List Page → ℕ
  next_of [] = no_link
  next_of (g ∷ gs) = bit_block sp s g.bit

  -- the overflow pages after the block `prev` in the chain of bucket b
  abbrev pub linked_of : (b prev : ℕ) → List Page → List LinkedPage
  linked_of b prev [] = []
  linked_of b prev (g ∷ gs) =
      record { bit = g.bit; bucket = b; prev = prev; next = next_of gs; entries = g.entries }
      ∷ linked_of b (bit_block sp s g.bit) gs

  -- those of the chains from bucket b on
  abbrev pub linked_from : ℕ → List Chain → List LinkedPage
  linked_from b [] = []
  linked_from b (c ∷ cs) = linked_of b (bucket_block sp b) c.more ++ linked_from (suc b) cs

abbrev pub linked_pages : Index → List LinkedPage
linked_pages x = linked_from x.spares (point x.max_bucket) 0 x.chains

-- ---- the store

-- "A bucket page's previous field holds the highest m .. with m = b or m split off from b"
unfoldable pub bucket_image : Index → ℕ → List ℕ
bucket_image x b =
    paged (encode_page (chain x b).first []) (last_split x.max_bucket b)
    (next_of x.spares (point x.max_bucket) (chain x b).more) b (flags_of x b)

abbrev pub overflow_image : Option LinkedPage → List ℕ
overflow_image none = blank
overflow_image (some g) = paged (encode_page g.entries []) g.prev g.next g.bucket overflow_flags

-- the body of a role's block; a bucket's block above max bucket is kept for it, and unused
unfoldable pub image : Index → Role → List ℕ
image x meta = paged (meta_front (meta_of x)) no_link no_link no_link meta_flags
image x (bucket_page b) = cond (leb b x.max_bucket) (bucket_image x b) blank
image x (bit_page zero) = paged (map_front (map_bit x)) no_link no_link no_link bitmap_flags
image x (bit_page (suc n)) = overflow_image (find (λ g. eqb (suc n) g.bit) (linked_pages x))
image x unmade = blank

-- the body of block k
unfoldable pub encode_block : Index → ℕ → List ℕ
encode_block x k = image x (role_of x.spares (point x.max_bucket) k)

-- block k, with its check
unfoldable pub sealed_block : Index → ℕ → List ℕ
sealed_block x k = sealed x.number k (encode_block x k)

unfoldable pub encode : Index → List ℕ
encode x = bind (up_from 0 x.size) (sealed_block x)
