-- The bytes of a formatted index are the blocks spelt out.
use Rattle.std.specs.Prelude.{◌≡◌}
use Rattle.std.proofs.Common.{sym, ◌∙◌, arith}
use Rattle.std.proofs.Math.Path.{ap}
use Prim.Native.Nat.{ℕ, zero, suc, ◌≤◌}
use Rattle.lists.specs.Lists.{bind, up_from}
use Rattle.endian.specs.Endian.{le16, le32}
use Rattle.address.specs.Address.{
  mask_digits,
  high_mask,
  low_mask,
  last_split,
}
use Rattle.address.specs.Role.{role_of}
use Rattle.address.specs.FormatLaws.{point-first, role-first, role-second, role-bitmap, role-past}
use Rattle.page.specs.Entries.{encode_page}
use Rattle.store.specs.Store.{sealed}
use Rattle.model.specs.declared.Order.{Order}
use Rattle.model.specs.Pages.{free_bit, first_free}
use Rattle.model.specs.Held.{count}
use Rattle.model.specs.Calls.{format}
use Rattle.image.specs.Layout.{
  blank,
  meta_front,
  padded,
  meta_of,
  map_front,
  flags_of,
  bucket_image,
  image,
  encode_block,
  sealed_block,
  encode,
}
use Rattle.outcomes.specs.Format.{format_meta, format_block}
use Rattle.lists.specs.TestLaws.{bind-cong}

module _ (n : ℕ) (o : Order) where
  meta-format : encode_block (format n o) 0 ≡ format_block n o 0
  unfolding encode_block image role_of format format_block format_meta meta_front meta_of padded count first_free free_bit
      high_mask mask_digits low_mask le32 le16
  meta-format = rw point-first

  first-format : encode_block (format n o) 1 ≡ format_block n o 1
  unfolding encode_block image format format_block bucket_image flags_of last_split encode_page le16
  first-format = ap (image (format n o)) role-first

  second-format : encode_block (format n o) 2 ≡ format_block n o 2
  unfolding encode_block image format format_block bucket_image flags_of last_split encode_page le16
  second-format = ap (image (format n o)) role-second

  bitmap-format : encode_block (format n o) 3 ≡ format_block n o 3
  unfolding encode_block image format format_block map_front
  bitmap-format = ap (image (format n o)) role-bitmap ∙ rw point-first

  past : (k : ℕ) → 4 ≤ k → encode_block (format n o) k ≡ blank
  unfolding encode_block image format
  past k h = ap (image (format n o)) (role-past k h)

  pub format-block : (k : ℕ) → encode_block (format n o) k ≡ format_block n o k
  unfolding format_block
  format-block zero = meta-format
  format-block (suc zero) = first-format
  format-block (suc (suc zero)) = second-format
  format-block (suc (suc (suc zero))) = bitmap-format
  format-block (suc (suc (suc (suc k)))) = past (suc (suc (suc (suc k)))) (omega arith)

  pub format-unused : (k : ℕ) → 4 ≤ k → format_block n o k ≡ blank
  format-unused k h = sym (format-block k) ∙ past k h

  pub format-bytes : encode (format n o) ≡ bind (up_from 0 n) (λ k. sealed o.number k (format_block n o k))
  unfolding encode sealed_block format
  format-bytes =
      bind-cong (sealed_block (format n o)) (λ k. sealed o.number k (format_block n o k)) (up_from 0 n)
      (λ k. ap (sealed o.number k) (format-block k))
