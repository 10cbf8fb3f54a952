-- The bodies of a formatted store's blocks, spelt out. docs/RULES.md 6.1: "meta, buckets 0 and 1 in blocks 1 and 2,
-- bitmap in block 3, spares[1] = 1, first free 1, bits all 1, no entries."
use Rattle.std.specs.Prelude.{List, ◌++◌, ℕ, zero, suc, replicate}
use Rattle.endian.specs.Endian.{le16, le32}
use Rattle.store.specs.Flags.{bucket_flags, bitmap_flags, meta_flags}
use Rattle.model.specs.declared.Order.{Order}
use Rattle.image.specs.Layout.{paged, blank}
use Rattle.store.specs.Flags.{no_link}

-- magic and edition, count 0, fill, max bucket 1, masks 3 and 1, overflow point 1, first free 1, N, spares[0] = 0,
-- spares[1] = 1, store number
unfoldable pub format_meta : (n : ℕ) → Order → List ℕ
format_meta n o =
    le32 0x06440640 ++ (le32 512 ++ (le32 0 ++ (le16 o.fill ++ (le16 0 ++ (le32 1 ++ (le32 3 ++ (le32 1 ++ (le32 1
    ++ (le32 1 ++ (le32 n ++ (le32 0 ++ (le32 1
    ++ (replicate 56 0 ++ (le32 o.number ++ replicate 384 0))))))))))))))

-- the body of block k; a bucket page has previous 1, no next, and flags 2
unfoldable pub format_block : (n : ℕ) → Order → (k : ℕ) → List ℕ
format_block n o zero = paged (format_meta n o) no_link no_link no_link meta_flags
format_block n o (suc zero) = paged (replicate 492 0) 1 no_link 0 bucket_flags
format_block n o (suc (suc zero)) = paged (replicate 492 0) 1 no_link 1 bucket_flags
format_block n o (suc (suc (suc zero))) =
    paged (replicate 256 255 ++ replicate 236 0) no_link no_link no_link bitmap_flags
format_block n o (suc (suc (suc (suc k)))) = blank
