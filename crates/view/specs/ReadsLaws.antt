-- Which stores are read as an index, and what the meta block's fields say of one.
use Rattle.std.specs.Prelude.{◌≡◌, true, List, ℕ, ◌+◌, ◌*◌, ◌≤◌, ◌<◌, length}
use Rattle.std.proofs.Math.Path.{refl, ap}
use Rattle.std.proofs.Common.{sym, ◌∙◌, subst, arith}
use Rattle.lists.specs.Bytes.{Bytes}
use Rattle.lists.specs.Block.{blocks, block}
use Rattle.address.specs.Limits.{max_blocks}
use Rattle.model.specs.Index.{Index}
use Rattle.model.specs.Held.{count}
use Rattle.model.specs.WellFormed.{WF, Laid}
use Rattle.image.specs.declared.Meta.{Meta}
use Rattle.image.specs.Layout.{meta_of, encode}
use Rattle.image.specs.Decode.{meta_at, decode}
use Rattle.image.specs.Rules.{rule2, sound, verdict, length_ok}
use Rattle.image.proofs.BoundLaws.{max-small}
use Rattle.image.proofs.EncodeLaws.{length_ok-encode}
use Rattle.image.proofs.EncodePagesLaws.{meta-encode}
use Rattle.image.proofs.EncodeDecodeLaws.{decode-encode}
use Rattle.image.proofs.EncodeVerdictLaws.{passes-encode}
use Rattle.image.proofs.BridgeTheorem.{sound-is-encoding}
use Rattle.chain.specs.Walk.{Sized}
use Rattle.reader.specs.Known.{Known2}
use Rattle.reader.specs.KnownLaws.{sized, block-whole, block-full}
use Rattle.view.specs.Reads.{Reads}

-- ---- which stores are read

-- a store that the verdict finds sound
pub sound-reads : (s : List ℕ) (m : Meta) (x : Index) → Bytes s → length_ok s ≡ true → verdict s ≡ sound x → m ≡ meta_at s
    → Reads s m
sound-reads s m x b l v e =
    let a = sound-is-encoding s x b l v in
    record { wf = subst WF a.read a.wf; bytes = a.bytes ∙ ap encode a.read; meta = e }

-- the bytes of a well-formed index
pub encode-reads : (x : Index) → WF x → Reads (encode x) (meta_of x)
encode-reads x w =
    let d = decode-encode x w in
    record { wf = subst WF (sym d) w; bytes = ap encode (sym d); meta = sym (meta-encode x w) }

module _ {s : List ℕ} {m : Meta} (r : Reads s m) where
  -- ---- the store

  pub reads-laid : Laid (decode s)
  reads-laid = r.wf.laid

  pub reads-legal : length_ok s ≡ true
  reads-legal = ap length_ok r.bytes ∙ length_ok-encode (decode s) reads-laid

  -- the store keeps rule 2, which is all that crate reader asks for
  pub reads_known : Known2 s m
  reads_known =
      record {
        whole = reads-legal;
        meta = r.meta;
        holds = ap rule2 r.bytes ∙ (passes-encode (decode s) r.wf).two;
      }

  pub reads_sized : Sized s
  reads_sized = sized reads_known

  pub reads-size : blocks s ≡ (decode s).size
  unfolding decode
  reads-size = refl

  -- block k has 512 bytes
  pub reads_whole : (k : ℕ) → k < blocks s → 512 * k + 512 ≤ length s
  reads_whole = block-whole reads_known

  pub reads-block : (k : ℕ) → k < blocks s → length (block s k) ≡ 512
  reads-block = block-full reads_known

  -- ---- the meta block's fields

  pub reads-meta : m ≡ meta_of (decode s)
  reads-meta = r.meta ∙ ap meta_at r.bytes ∙ meta-encode (decode s) r.wf

  pub reads-max : m.max ≡ (decode s).max_bucket
  unfolding meta_of
  reads-max = ap (λ (n : Meta). n.max) reads-meta

  pub reads-count : m.count ≡ count (decode s)
  unfolding meta_of
  reads-count = ap (λ (n : Meta). n.count) reads-meta

  pub reads-fill : m.fill ≡ (decode s).fill
  unfolding meta_of
  reads-fill = ap (λ (n : Meta). n.fill) reads-meta

  pub reads-low : m.max < max_blocks
  reads-low = omega (arith, reads-max, max-small (decode s) reads-laid)
