-- The pages of the job's buckets with other flags, and the drafts of the ends of copying and clearing.
use Rattle.std.specs.Prelude.{List, ℕ}
use Rattle.std.proofs.lemmas.List.Edits.{sets}
use Rattle.lists.specs.Block.{block, set_block}
use Rattle.endian.specs.Endian.{le16}
use Rattle.address.specs.Address.{bucket_block}
use Rattle.image.specs.Decode.{decode}

module _ (s : List ℕ) where
  -- the block of bucket b's page
  abbrev pub bucket_at : (b : ℕ) → ℕ
  bucket_at b = bucket_block (decode s).spares b

  -- the page of bucket b with the flags v
  abbrev pub flagged : (b v : ℕ) → List ℕ
  flagged b v = sets (block s (bucket_at b)) 504 (le16 v)

  -- "clear both flags and set cleanup on the old"; "clear the flag"
  abbrev pub copied_draft : (new old : ℕ) → List ℕ
  copied_draft new old = set_block (set_block s (bucket_at new) (flagged new 2)) (bucket_at old) (flagged old 66)

  abbrev pub cleared_draft : (old : ℕ) → List ℕ
  cleared_draft old = set_block s (bucket_at old) (flagged old 2)
