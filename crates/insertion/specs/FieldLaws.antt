-- The meta block's fields after a put: one spare more, and the fields of an index with another chain.
use Rattle.std.specs.Prelude.{◌≡◌}
use Rattle.std.proofs.Common.{sym, ◌∙◌, arith, length-set}
use Rattle.std.proofs.Math.Path.{ap, ap₂}
use mathlib.Core.List.{List, ◌++◌}
use Prim.Native.Nat.{ℕ, suc, ◌-◌}
use Rattle.std.proofs.Math.ListN.{length, set, replicate}
use Rattle.std.proofs.Math.Seq.{set-append_left}
use Rattle.address.specs.Address.{point}
use Rattle.model.specs.Index.{Chain, Index, top_bit, set_chain}
use Rattle.model.specs.Pages.{first_free}
use Rattle.model.specs.Held.{count}
use Rattle.image.specs.declared.Meta.{Meta}
use Rattle.image.specs.Layout.{padded, meta_of}
use Rattle.image.specs.Decode.{decode}
use Rattle.frame.specs.FreshLaws.{more_spares}
use Rattle.view.specs.Reads.{Reads}
use Rattle.view.specs.ReadsLaws.{reads-laid, reads-meta}
use Rattle.plan.specs.Fields.{fields_of}
use Rattle.plan.specs.FieldLaws.{read-point, read-spares}

module _ {s : List ℕ} {m : Meta} (r : Reads s m) where
  abbrev x : Index
  x = decode s

  -- one spare more
  pub more-spares : set m.spares m.point (suc (top_bit (decode s))) ≡ padded (more_spares (decode s))
  unfolding padded
  more-spares =
      let v : ℕ = suc (top_bit x) in
      let p : ℕ = point x.max_bucket in
      ap₂ (λ (sp : List ℕ) (i : ℕ). set sp i v) (read-spares r) (read-point r)
      ∙ set-append_left x.spares (replicate (16 - length x.spares) 0) p v
      (omega (arith, (reads-laid r).spares.points))
      ∙ ap (λ (n : ℕ). set x.spares p v ++ replicate (16 - n) 0) (sym (length-set x.spares p v))

  -- ---- another chain

  pub fields-set : (sp : List ℕ) (b : ℕ) (c : Chain) (n free : ℕ) (spares : List ℕ)
      → count (set_chain (decode s) sp b c) ≡ n
      → free ≡ first_free (set_chain (decode s) sp b c) → spares ≡ padded sp
      → fields_of m n free spares ≡ meta_of (set_chain (decode s) sp b c)
  unfolding meta_of
  fields-set sp b c n free spares held first same =
      let q = reads-meta r in λ i. fields_of (q i) (sym held i) (first i) (same i)
