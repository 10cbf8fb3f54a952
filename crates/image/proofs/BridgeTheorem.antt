-- The bridge between a store's bytes and the index as a value: bytes of legal length are sound exactly when they are
-- the bytes of a well-formed index, and then they are read as that index.
use Rattle.std.specs.Prelude.{◌≡◌, ◌↔◌, true, List, ℕ, ◌*◌, length}
use Rattle.std.proofs.Common.{sym, ap, ◌∙◌, subst, arith}
use Rattle.lists.specs.Bytes.{Bytes}
use Rattle.lists.specs.Block.{blocks, block}
use Rattle.endian.specs.Endian.{u32_at}
use Rattle.endian.proofs.EndianLaws.{u32_at-take}
use Rattle.model.specs.Index.{Index}
use Rattle.model.specs.Held.{count}
use Rattle.model.specs.WellFormed.{WF}
use Rattle.image.specs.declared.Meta.{Meta}
use Rattle.image.specs.Layout.{meta_of, encode}
use Rattle.image.specs.Decode.{read_meta, decode}
use Rattle.image.specs.Rules.{sound, verdict, length_ok}
use Rattle.image.specs.VerdictLaws.{verdict-passes}
use Rattle.image.proofs.SoundFieldsLaws.{sound-bytes}
use Rattle.image.proofs.SoundIndexLaws.{decode-wf, encode-decode}
use Rattle.image.proofs.EncodeLaws.{length-encode, blocks-encode, Bytes-encode, length_ok-encode}
use Rattle.image.proofs.EncodePagesLaws.{meta-encode}
use Rattle.image.proofs.EncodeDecodeLaws.{decode-encode}
use Rattle.image.proofs.EncodeVerdictLaws.{verdict-encode}

-- ---- from sound bytes to the index

pub record Encoding (s : List ℕ) (x : Index) : Type 0 where
  pub wf : WF x
  pub bytes : s ≡ encode x
  pub read : x ≡ decode s

pub sound-is-encoding : (s : List ℕ) (x : Index) → Bytes s → length_ok s ≡ true → verdict s ≡ sound x → Encoding s x
sound-is-encoding s x b h v =
    let a = verdict-passes s x v in
    let g = sound-bytes s b h a.passes in
    record {
      wf = subst WF (sym a.read) (decode-wf s g);
      bytes = encode-decode s g ∙ ap encode (sym a.read);
      read = a.read;
    }

-- ---- from the index to sound bytes

pub record Sound (x : Index) : Type 0 where
  pub judged : verdict (encode x) ≡ sound x
  pub read : decode (encode x) ≡ x
  pub bytes : Bytes (encode x)
  pub size : length (encode x) ≡ 512 * x.size
  pub number : blocks (encode x) ≡ x.size
  pub legal : length_ok (encode x) ≡ true

pub encoding-is-sound : (x : Index) → WF x → Sound x
encoding-is-sound x w =
    record {
      judged = verdict-encode x w;
      read = decode-encode x w;
      bytes = Bytes-encode x w.laid;
      size = length-encode x w.laid;
      number = blocks-encode x w.laid;
      legal = length_ok-encode x w.laid;
    }

-- ---- both

-- sound exactly when the bytes of a well-formed index
pub sound-iff-encoding : (s : List ℕ) → Bytes s → length_ok s ≡ true → (x : Index)
    → (verdict s ≡ sound x) ↔ (WF x × (s ≡ encode x))
sound-iff-encoding s b h x = (
  λ v. let a = sound-is-encoding s x b h v in (a.wf, a.bytes),
  λ e. ap verdict e.1 ∙ (encoding-is-sound x e.0).judged,
)

-- the stored count
pub count-encode : (x : Index) → WF x → u32_at (encode x) 8 ≡ count x
unfolding read_meta meta_of block
count-encode x w =
    sym (u32_at-take 512 (encode x) 8 (omega arith)) ∙ ap (λ (m : Meta). m.count) (meta-encode x w)
