-- A block's bytes have different checks under two store numbers, and at two places. Where number and place are both
-- other ones the checks may be the same: CheckExamples has such a pair.
use Rattle.std.specs.Prelude.{◌≡◌, ◌≢◌, List, ◌++◌, ℕ, ◌^◌, ◌<◌}
use Rattle.lists.specs.Bytes.{Bytes}
use Rattle.lists.specs.BytesLaws.{Bytes-append, Bytes-take}
use Rattle.endian.specs.Endian.{le32}
use Rattle.endian.proofs.EndianLaws.{Bytes-le32}
use Rattle.crc32c.specs.Crc.{crc_of}
use Rattle.crc32c.proofs.InjectiveLaws.{crc_of-first-inj, crc_of-second-inj, crc_of-zeros}
use Rattle.store.specs.Store.{covered, check_of}

-- one check at one place: one store number
pub check_of-number-inj : (number other k : ℕ) (l : List ℕ) → Bytes l → number < 2 ^ 32 → other < 2 ^ 32
    → check_of number k l ≡ check_of other k l → number ≡ other
unfolding check_of covered
check_of-number-inj number other k l bytes hn ho e =
    crc_of-first-inj number other (le32 k ++ covered l)
    (Bytes-append (le32 k) (covered l) (Bytes-le32 k) (Bytes-take 508 l bytes)) hn ho e

-- one check under one store number: one place
pub check_of-place-inj : (number k j : ℕ) (l : List ℕ) → Bytes l → k < 2 ^ 32 → j < 2 ^ 32
    → check_of number k l ≡ check_of number j l → k ≡ j
unfolding check_of covered
check_of-place-inj number k j l bytes hk hj e =
    crc_of-second-inj number k j (covered l) (Bytes-take 508 l bytes) hk hj e

-- a check of document 01, of the bytes alone, is never that of block 0 of the store with number 0
pub check_of-before : (l : List ℕ) → Bytes l → crc_of (covered l) ≢ check_of 0 0 l
unfolding check_of covered
check_of-before l bytes e = crc_of-zeros (covered l) (Bytes-take 508 l bytes) e
