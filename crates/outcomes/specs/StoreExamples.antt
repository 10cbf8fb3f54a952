-- Verdicts of small whole stores, computed byte by byte: four of the tests' stores, which two independent
-- implementations judged so, each with a store number and with the checks that the number asks for.
use Rattle.std.specs.Prelude.{◌≡◌, refl, List, [], ◌∷◌, ◌++◌, ℕ, replicate}
use Rattle.lists.specs.Bytes.{part, all_zero}
use Rattle.lists.specs.Block.{blocks, block}
use Rattle.endian.specs.Endian.{le16, le32, u16_at, u32_at}
use Rattle.crc32c.specs.Crc.{crc_bit, crc_bits, crc_byte, crc_bytes, crc_of}
use Rattle.address.specs.Address.{buckets_at, mask_digits, high_mask, low_mask, bucket_of, bit_length, split_from, last_split}
use Rattle.address.specs.Address.{point, bucket_point, bucket_block, bit_block, made}
use Rattle.address.specs.Role.{role_of}
use Rattle.page.specs.Entries.{read_entry, entry_at, entries_from, entries_of}
use Rattle.page.specs.Rule.{number_ok, flags_ok, numbers_ok, order_ok, rest_zero, page_ok}
use Rattle.store.specs.Store.{covered, check_of, checks, number_at, checked}
use Rattle.model.specs.Held.{count}
use Rattle.image.specs.declared.Verdict.{Verdict}
use Rattle.image.specs.Decode.{words_at, read_meta, follow, decode}
use Rattle.image.specs.Rules.{front_ok, spares_ok, meta_ok, fits, overflow_as, rule1, rule2, rule3, linked, rule4}
use Rattle.image.specs.Rules.{rule5, rule6, rule7, rule8, rules, lowest_damaged, lowest_broken, verdict}
use Rattle.outcomes.specs.Outcomes.{verify_outcome}
use Rattle.image.specs.Rules.{length_ok}

-- what verify answers, with all that it takes to compute it
unfoldable pub answer : List ℕ → Verdict
unfolding verify_outcome length_ok part all_zero blocks block le16 le32 u16_at u32_at crc_bit crc_bits crc_byte crc_bytes
    crc_of buckets_at mask_digits high_mask low_mask bucket_of bit_length split_from last_split point bucket_point bucket_block
    bit_block made role_of read_entry entry_at entries_from entries_of number_ok flags_ok numbers_ok order_ok rest_zero
    page_ok covered check_of checks number_at checked count words_at read_meta follow decode front_ok spares_ok meta_ok fits
    overflow_as rule1 rule2 rule3 linked rule4 rule5 rule6 rule7 rule8 rules lowest_damaged lowest_broken verdict
answer s = verify_outcome s

-- no entries, and a job that no list of calls leaves with max bucket 1; store number 7: sound
unfoldable pub bare : List ℕ
bare =
    (64 ∷ 6 ∷ 68 ∷ 6 ∷ 0 ∷ 2 ∷ 0 ∷ 0 ∷ 0 ∷ 0 ∷ 0 ∷ 0 ∷ 40 ∷ 0 ∷ 0 ∷ 0 ∷ 1 ∷ 0 ∷ [])
    ++ ((0 ∷ 0 ∷ 3 ∷ 0 ∷ 0 ∷ 0 ∷ 1 ∷ 0 ∷ 0 ∷ 0 ∷ 1 ∷ 0 ∷ 0 ∷ 0 ∷ 1 ∷ 0 ∷ 0 ∷ 0 ∷ [])
    ++ ((4 ∷ 0 ∷ 0 ∷ 0 ∷ 0 ∷ 0 ∷ 0 ∷ 0 ∷ 1 ∷ [])
    ++ (replicate 59 0
    ++ ((7 ∷ [])
    ++ (replicate 387 0
    ++ (replicate 12 255
    ++ ((8 ∷ 0 ∷ 128 ∷ 255 ∷ 10 ∷ 226 ∷ 232 ∷ 135 ∷ [])
    ++ (replicate 492 0
    ++ ((1 ∷ 0 ∷ 0 ∷ 0 ∷ 255 ∷ 255 ∷ 255 ∷ 255 ∷ 0 ∷ 0 ∷ 0 ∷ 0 ∷ 66 ∷ 0 ∷ 128 ∷ 255 ∷ 172 ∷ 4 ∷ [])
    ++ ((17 ∷ 44 ∷ [])
    ++ (replicate 492 0
    ++ ((1 ∷ 0 ∷ 0 ∷ 0 ∷ 255 ∷ 255 ∷ 255 ∷ 255 ∷ 1 ∷ 0 ∷ 0 ∷ 0 ∷ 2 ∷ 0 ∷ 128 ∷ 255 ∷ 149 ∷ 210 ∷ [])
    ++ ((215 ∷ 12 ∷ [])
    ++ (replicate 256 255
    ++ (replicate 236 0
    ++ (replicate 12 255
    ++ ((4 ∷ 0 ∷ 128 ∷ 255 ∷ 109 ∷ 193 ∷ 10 ∷ 84 ∷ []))))))))))))))))))

bare-verdict : answer bare ≡ Verdict.Sound
unfolding answer bare
bare-verdict = refl

-- an overflow page in block 5, a free one in block 4; store number 4294967295: sound
chained : List ℕ
chained =
    (64 ∷ 6 ∷ 68 ∷ 6 ∷ 0 ∷ 2 ∷ 0 ∷ 0 ∷ 4 ∷ 0 ∷ 0 ∷ 0 ∷ 40 ∷ 0 ∷ 0 ∷ 0 ∷ 1 ∷ 0 ∷ [])
    ++ ((0 ∷ 0 ∷ 3 ∷ 0 ∷ 0 ∷ 0 ∷ 1 ∷ 0 ∷ 0 ∷ 0 ∷ 1 ∷ 0 ∷ 0 ∷ 0 ∷ 1 ∷ 0 ∷ 0 ∷ 0 ∷ [])
    ++ ((6 ∷ 0 ∷ 0 ∷ 0 ∷ 0 ∷ 0 ∷ 0 ∷ 0 ∷ 3 ∷ [])
    ++ (replicate 59 0
    ++ ((255 ∷ 255 ∷ 255 ∷ 255 ∷ [])
    ++ (replicate 384 0
    ++ (replicate 12 255
    ++ ((8 ∷ 0 ∷ 128 ∷ 255 ∷ 180 ∷ 114 ∷ 106 ∷ 248 ∷ 2 ∷ 0 ∷ 0 ∷ 0 ∷ 98 ∷ 31 ∷ 42 ∷ 53 ∷ 0 ∷ 0 ∷ [])
    ++ ((0 ∷ 0 ∷ 227 ∷ 167 ∷ 0 ∷ 0 ∷ 96 ∷ 197 ∷ 86 ∷ 186 ∷ 127 ∷ 80 ∷ 103 ∷ 215 ∷ 2 ∷ 181 ∷ [])
    ++ (replicate 466 0
    ++ ((1 ∷ 0 ∷ 0 ∷ 0 ∷ 255 ∷ 255 ∷ 255 ∷ 255 ∷ 0 ∷ 0 ∷ 0 ∷ 0 ∷ 66 ∷ 0 ∷ 128 ∷ 255 ∷ 32 ∷ 245 ∷ [])
    ++ ((4 ∷ 237 ∷ 1 ∷ 0 ∷ 0 ∷ 0 ∷ 39 ∷ 173 ∷ 88 ∷ 115 ∷ 81 ∷ 131 ∷ 34 ∷ 136 ∷ 167 ∷ 141 ∷ 0 ∷ 32 ∷ [])
    ++ (replicate 476 0
    ++ ((1 ∷ 0 ∷ 0 ∷ 0 ∷ 5 ∷ 0 ∷ 0 ∷ 0 ∷ 1 ∷ 0 ∷ 0 ∷ 0 ∷ 2 ∷ 0 ∷ 128 ∷ 255 ∷ 229 ∷ 115 ∷ [])
    ++ ((194 ∷ 165 ∷ 253 ∷ [])
    ++ (replicate 255 255
    ++ (replicate 236 0
    ++ (replicate 12 255
    ++ ((4 ∷ 0 ∷ 128 ∷ 255 ∷ 53 ∷ 221 ∷ 134 ∷ 136 ∷ [])
    ++ (replicate 508 0
    ++ ((253 ∷ 21 ∷ 153 ∷ 1 ∷ 1 ∷ 0 ∷ 0 ∷ 0 ∷ 37 ∷ 173 ∷ 88 ∷ 115 ∷ 225 ∷ 180 ∷ 229 ∷ 214 ∷ 50 ∷ 98 ∷ [])
    ++ ((0 ∷ 32 ∷ [])
    ++ (replicate 476 0
    ++ ((2 ∷ 0 ∷ 0 ∷ 0 ∷ 255 ∷ 255 ∷ 255 ∷ 255 ∷ 1 ∷ 0 ∷ 0 ∷ 0 ∷ 1 ∷ 0 ∷ 128 ∷ 255 ∷ 50 ∷ 103 ∷ [])
    ++ ((114 ∷ 139 ∷ [])))))))))))))))))))))))))

chained-verdict : answer chained ≡ Verdict.Sound
unfolding answer chained
chained-verdict = refl

-- blocks 1 and 3 have other bytes than their checks say; store number 0: the lowest counts
altered : List ℕ
altered =
    (64 ∷ 6 ∷ 68 ∷ 6 ∷ 0 ∷ 2 ∷ 0 ∷ 0 ∷ 4 ∷ 0 ∷ 0 ∷ 0 ∷ 1 ∷ 0 ∷ 0 ∷ 0 ∷ 2 ∷ 0 ∷ [])
    ++ ((0 ∷ 0 ∷ 3 ∷ 0 ∷ 0 ∷ 0 ∷ 1 ∷ 0 ∷ 0 ∷ 0 ∷ 2 ∷ 0 ∷ 0 ∷ 0 ∷ 1 ∷ 0 ∷ 0 ∷ 0 ∷ [])
    ++ ((6 ∷ 0 ∷ 0 ∷ 0 ∷ 0 ∷ 0 ∷ 0 ∷ 0 ∷ 1 ∷ 0 ∷ 0 ∷ 0 ∷ 1 ∷ [])
    ++ (replicate 443 0
    ++ (replicate 12 255
    ++ ((8 ∷ 0 ∷ 128 ∷ 255 ∷ 148 ∷ 193 ∷ 138 ∷ 88 ∷ 3 ∷ 0 ∷ 0 ∷ 0 ∷ 238 ∷ 243 ∷ 217 ∷ 85 ∷ 0 ∷ 0 ∷ [])
    ++ ((0 ∷ 0 ∷ 255 ∷ 255 ∷ 0 ∷ 32 ∷ 238 ∷ 243 ∷ 217 ∷ 85 ∷ 3 ∷ 182 ∷ 154 ∷ 253 ∷ 183 ∷ 227 ∷ 0 ∷ 32 ∷ [])
    ++ ((230 ∷ 111 ∷ 73 ∷ 120 ∷ 1 ∷ 0 ∷ 0 ∷ 0 ∷ 197 ∷ 214 ∷ [])
    ++ (replicate 454 0
    ++ ((2 ∷ 0 ∷ 0 ∷ 0 ∷ 255 ∷ 255 ∷ 255 ∷ 255 ∷ 0 ∷ 0 ∷ 0 ∷ 0 ∷ 2 ∷ 0 ∷ 128 ∷ 255 ∷ 229 ∷ 48 ∷ [])
    ++ ((147 ∷ 217 ∷ 1 ∷ 0 ∷ 0 ∷ 0 ∷ 31 ∷ 183 ∷ 11 ∷ 38 ∷ 205 ∷ 34 ∷ 164 ∷ 209 ∷ 148 ∷ 225 ∷ [])
    ++ (replicate 478 0
    ++ ((1 ∷ 0 ∷ 0 ∷ 0 ∷ 255 ∷ 255 ∷ 255 ∷ 255 ∷ 1 ∷ 0 ∷ 0 ∷ 0 ∷ 2 ∷ 0 ∷ 128 ∷ 255 ∷ 103 ∷ 136 ∷ [])
    ++ ((187 ∷ 109 ∷ 254 ∷ [])
    ++ (replicate 255 255
    ++ (replicate 236 0
    ++ (replicate 12 255
    ++ ((4 ∷ 0 ∷ 128 ∷ 255 ∷ 48 ∷ 202 ∷ 214 ∷ 25 ∷ 3 ∷ 0 ∷ 0 ∷ 0 ∷ 238 ∷ 243 ∷ 217 ∷ 85 ∷ 0 ∷ 0 ∷ [])
    ++ ((0 ∷ 0 ∷ 255 ∷ 255 ∷ 0 ∷ 32 ∷ 238 ∷ 243 ∷ 217 ∷ 85 ∷ 3 ∷ 182 ∷ 154 ∷ 253 ∷ 183 ∷ 227 ∷ 0 ∷ 32 ∷ [])
    ++ ((230 ∷ 111 ∷ 73 ∷ 120 ∷ 1 ∷ 0 ∷ 0 ∷ 0 ∷ 197 ∷ 214 ∷ [])
    ++ (replicate 454 0
    ++ ((2 ∷ 0 ∷ 0 ∷ 0 ∷ 255 ∷ 255 ∷ 255 ∷ 255 ∷ 2 ∷ 0 ∷ 0 ∷ 0 ∷ 2 ∷ 0 ∷ 128 ∷ 255 ∷ 38 ∷ 169 ∷ [])
    ++ ((2 ∷ 9 ∷ [])
    ++ (replicate 508 0
    ++ ((97 ∷ 119 ∷ 71 ∷ 251 ∷ [])))))))))))))))))))))))))

altered-verdict : answer altered ≡ Verdict.Damaged 1
unfolding answer altered
altered-verdict = refl

-- the previous field of bucket 2 is 1; store number 1: rule 8
unsplit : List ℕ
unsplit =
    (64 ∷ 6 ∷ 68 ∷ 6 ∷ 0 ∷ 2 ∷ 0 ∷ 0 ∷ 4 ∷ 0 ∷ 0 ∷ 0 ∷ 40 ∷ 0 ∷ 0 ∷ 0 ∷ 2 ∷ 0 ∷ [])
    ++ ((0 ∷ 0 ∷ 3 ∷ 0 ∷ 0 ∷ 0 ∷ 1 ∷ 0 ∷ 0 ∷ 0 ∷ 2 ∷ 0 ∷ 0 ∷ 0 ∷ 1 ∷ 0 ∷ 0 ∷ 0 ∷ [])
    ++ ((6 ∷ 0 ∷ 0 ∷ 0 ∷ 0 ∷ 0 ∷ 0 ∷ 0 ∷ 1 ∷ 0 ∷ 0 ∷ 0 ∷ 1 ∷ [])
    ++ (replicate 55 0
    ++ ((1 ∷ [])
    ++ (replicate 387 0
    ++ (replicate 12 255
    ++ ((8 ∷ 0 ∷ 128 ∷ 255 ∷ 72 ∷ 5 ∷ 28 ∷ 252 ∷ [])
    ++ (replicate 492 0
    ++ ((2 ∷ 0 ∷ 0 ∷ 0 ∷ 255 ∷ 255 ∷ 255 ∷ 255 ∷ 0 ∷ 0 ∷ 0 ∷ 0 ∷ 2 ∷ 0 ∷ 128 ∷ 255 ∷ 177 ∷ 148 ∷ [])
    ++ ((46 ∷ 172 ∷ 1 ∷ 0 ∷ 0 ∷ 0 ∷ 31 ∷ 183 ∷ 11 ∷ 38 ∷ 205 ∷ 34 ∷ 164 ∷ 209 ∷ 148 ∷ 225 ∷ [])
    ++ (replicate 478 0
    ++ ((1 ∷ 0 ∷ 0 ∷ 0 ∷ 255 ∷ 255 ∷ 255 ∷ 255 ∷ 1 ∷ 0 ∷ 0 ∷ 0 ∷ 2 ∷ 0 ∷ 128 ∷ 255 ∷ 51 ∷ 44 ∷ [])
    ++ ((6 ∷ 24 ∷ [])
    ++ (replicate 256 255
    ++ (replicate 236 0
    ++ (replicate 12 255
    ++ ((4 ∷ 0 ∷ 128 ∷ 255 ∷ 100 ∷ 110 ∷ 107 ∷ 108 ∷ 3 ∷ 0 ∷ 0 ∷ 0 ∷ 238 ∷ 243 ∷ 217 ∷ 85 ∷ 0 ∷ 0 ∷ [])
    ++ ((0 ∷ 0 ∷ 255 ∷ 255 ∷ 0 ∷ 32 ∷ 238 ∷ 243 ∷ 217 ∷ 85 ∷ 3 ∷ 182 ∷ 154 ∷ 253 ∷ 183 ∷ 227 ∷ 0 ∷ 32 ∷ [])
    ++ ((230 ∷ 111 ∷ 73 ∷ 120 ∷ 1 ∷ 0 ∷ 0 ∷ 0 ∷ 197 ∷ 214 ∷ [])
    ++ (replicate 454 0
    ++ ((1 ∷ 0 ∷ 0 ∷ 0 ∷ 255 ∷ 255 ∷ 255 ∷ 255 ∷ 2 ∷ 0 ∷ 0 ∷ 0 ∷ 2 ∷ 0 ∷ 128 ∷ 255 ∷ 129 ∷ 109 ∷ [])
    ++ ((71 ∷ 111 ∷ [])
    ++ (replicate 508 0
    ++ ((53 ∷ 211 ∷ 250 ∷ 142 ∷ [])))))))))))))))))))))))))

unsplit-verdict : answer unsplit ≡ Verdict.NotIndex 8
unfolding answer unsplit
unsplit-verdict = refl
