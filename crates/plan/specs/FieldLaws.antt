-- The meta block's fields of a store that is read as an index: its overflow point, first free, size and spares, and
-- where its overflow bits stand.
use Rattle.std.specs.Prelude.{◌≡◌, ℕ, ◌^◌, ◌≤◌, ◌<◌}
use Rattle.std.proofs.Math.Path.{ap}
use Rattle.std.proofs.Common.{◌∙◌, arith}
use mathlib.Core.List.{List}
use Rattle.std.proofs.Math.ListN.{get_or, get_or-append}
use Rattle.address.specs.Address.{point, bit_block, made}
use Rattle.address.specs.AgreeLaws.{bit-same, made-same}
use Rattle.model.specs.Index.{Index, top_bit}
use Rattle.model.specs.Pages.{first_free}
use Rattle.model.proofs.BoundLaws.{laid-point}
use Rattle.image.specs.declared.Meta.{Meta}
use Rattle.image.specs.Layout.{padded, meta_of}
use Rattle.image.specs.Decode.{decode}
use Rattle.image.proofs.EncodeLaws.{bit-inside}
use Rattle.frame.specs.Frame.{block_of_bit}
use Rattle.view.specs.Reads.{Reads}
use Rattle.view.specs.ReadsLaws.{reads-laid, reads-meta}

module _ {s : List ℕ} {m : Meta} (r : Reads s m) where
  abbrev x : Index
  x = decode s

  pub read-point : m.point ≡ point (decode s).max_bucket
  unfolding meta_of
  read-point = ap (λ (n : Meta). n.point) (reads-meta r)

  pub read-free : m.free ≡ first_free (decode s)
  unfolding meta_of
  read-free = ap (λ (n : Meta). n.free) (reads-meta r)

  pub read-size : m.size ≡ (decode s).size
  unfolding meta_of
  read-size = ap (λ (n : Meta). n.size) (reads-meta r)

  pub read-spares : m.spares ≡ padded (decode s).spares
  unfolding meta_of
  read-spares = ap (λ (n : Meta). n.spares) (reads-meta r)

  pub point-low : m.point ≤ 15
  point-low = omega (arith, read-point, laid-point x (reads-laid r))

  -- ---- overflow bits

  pub read-spare : (i : ℕ) → i ≤ m.point → get_or m.spares i 0 ≡ get_or (decode s).spares i 0
  unfolding padded
  read-spare i h =
      ap (λ (sp : List ℕ). get_or sp i 0) read-spares
      ∙ get_or-append x.spares _ 0 i (omega (arith, (reads-laid r).spares.points, read-point))

  pub read-top : get_or m.spares m.point 0 ≡ top_bit (decode s)
  read-top = read-spare m.point (omega arith) ∙ ap (λ (i : ℕ). get_or x.spares i 0) read-point

  pub read-bit : (n : ℕ) → bit_block m.spares m.point n ≡ block_of_bit (decode s) n
  read-bit n =
      bit-same m.spares x.spares m.point read-spare n ∙ ap (λ (i : ℕ). bit_block x.spares i n) read-point

  -- the block of a made bit fits its number
  pub bit-fits : (n : ℕ) → n < top_bit (decode s)
      → (m.point ≤ 16) × (bit_block m.spares m.point n < 2 ^ 32)
  bit-fits n h = (
    omega (arith, point-low),
    omega (arith, read-bit n, bit-inside x (reads-laid r) n h, (reads-laid r).size),
  )

  pub read_made : made m.spares m.point ≡ made (decode s).spares (point (decode s).max_bucket)
  read_made =
      made-same m.spares x.spares m.point read-spare ∙ ap (made x.spares) read-point
