-- What edits make of a shaped block, and what its body is.
use Rattle.std.specs.Prelude.{◌≡◌, ◌≢◌, Bool, List, [], ◌++◌, ℕ, ◌≤◌, ◌<◌, length, drop}
use Rattle.std.proofs.Common.{sym, ap, ◌∙◌, arith, length-append, length-drop, drop_at}
use Rattle.std.proofs.lemmas.List.Edits.{sets}
use Rattle.lists.specs.Lists.{b2n}
use Rattle.endian.specs.Endian.{le16, le32}
use Rattle.page.specs.declared.Entry.{Entry}
use Rattle.page.specs.Entries.{encode_page}
use Rattle.store.specs.Store.{trailer, covered}
use Rattle.store.specs.TrailerLaws.{length-trailer}
use Rattle.image.specs.Layout.{paged, map_front}
use Rattle.image.specs.PagedLaws.{paged-parts}
use Rattle.image.specs.PageOkLaws.{encode_page-append, length-page_front}
use Rattle.draft.specs.Bits.{put_bit}
use Rattle.draft.specs.BitLaws.{put_bit-map_front}
use Rattle.draft.specs.ShapeLaws.{covered-paged, sets-prev, sets-next, sets-flags}
use Rattle.plan.specs.Shape.{Shaped}

-- a block of a front part and a trailer
pub shaped-paged : {l : List ℕ} (front : List ℕ) (prev next bucket flags : ℕ) → length front ≡ 492 → length l ≡ 512
    → covered l ≡ paged front prev next bucket flags → Shaped l front prev next bucket flags
shaped-paged {l} front prev next bucket flags full whole e =
    record {
      rest = drop 508 l;
      four = omega (arith, length-drop 508 l);
      whole = paged-parts front full prev next bucket flags l e;
    }

module _ {l front : List ℕ} {prev next bucket flags : ℕ} (full : length front ≡ 492)
    (h : Shaped l front prev next bucket flags) where
  length-tail : length (trailer prev next bucket flags ++ h.rest) ≡ 20
  length-tail =
      length-append (trailer prev next bucket flags) h.rest
      ∙ omega (arith, length-trailer prev next bucket flags, h.four)

  pub shaped-length : length l ≡ 512
  shaped-length =
      ap length h.whole ∙ length-append front (trailer prev next bucket flags ++ h.rest)
      ∙ omega (arith, length-tail)

  pub shaped-covered : covered l ≡ paged front prev next bucket flags
  shaped-covered = ap covered h.whole ∙ covered-paged front h.rest full prev next bucket flags

  -- the fields of the trailer
  pub shaped-prev : (v : ℕ) → Shaped (sets l 492 (le32 v)) front v next bucket flags
  shaped-prev v =
      record {
        rest = h.rest;
        four = h.four;
        whole =
            ap (λ (b : List ℕ). sets b 492 (le32 v)) h.whole
            ∙ sets-prev front h.rest full prev next bucket flags v;
      }

  pub shaped-next : (v : ℕ) → Shaped (sets l 496 (le32 v)) front prev v bucket flags
  shaped-next v =
      record {
        rest = h.rest;
        four = h.four;
        whole =
            ap (λ (b : List ℕ). sets b 496 (le32 v)) h.whole
            ∙ sets-next front h.rest full prev next bucket flags v;
      }

  pub shaped-flags : (v : ℕ) → Shaped (sets l 504 (le16 v)) front prev next bucket v
  shaped-flags v =
      record {
        rest = h.rest;
        four = h.four;
        whole =
            ap (λ (b : List ℕ). sets b 504 (le16 v)) h.whole
            ∙ sets-flags front h.rest full prev next bucket flags v;
      }

  -- another front part, as of the meta block
  pub shaped-front : (front' : List ℕ) → Shaped (front' ++ drop 492 l) front' prev next bucket flags
  shaped-front front' =
      record {
        rest = h.rest;
        four = h.four;
        whole =
            ap (λ (b : List ℕ). front' ++ drop 492 b) h.whole
            ∙ ap (λ (b : List ℕ). front' ++ b) (drop_at front (trailer prev next bucket flags ++ h.rest) 492 full);
      }

-- ---- pages

module _ {l : List ℕ} (es : List Entry) {prev next bucket flags : ℕ}
    (h : Shaped l (encode_page es []) prev next bucket flags) where
  pub shaped-page : l ≡ encode_page es (trailer prev next bucket flags ++ h.rest)
  shaped-page = h.whole ∙ encode_page-append es (trailer prev next bucket flags ++ h.rest)

  -- other entries in the page
  pub shaped-entries : (fs : List Entry)
      → Shaped (encode_page fs (trailer prev next bucket flags ++ h.rest)) (encode_page fs []) prev next bucket flags
  shaped-entries fs =
      record {
        rest = h.rest;
        four = h.four;
        whole = sym (encode_page-append fs (trailer prev next bucket flags ++ h.rest));
      }

  pub covered-entries : (fs : List Entry) → length fs ≤ 40
      → covered (encode_page fs (trailer prev next bucket flags ++ h.rest))
      ≡ paged (encode_page fs []) prev next bucket flags
  covered-entries fs few = shaped-covered (length-page_front fs few) (shaped-entries fs)

-- a page written anew over the block b
pub shaped-new : (b : List ℕ) (es : List Entry) (prev next bucket flags : ℕ) → length b ≡ 512
    → Shaped (encode_page es (trailer prev next bucket flags ++ drop 508 b)) (encode_page es []) prev next bucket flags
shaped-new b es prev next bucket flags full =
    record {
      rest = drop 508 b;
      four = omega (arith, length-drop 508 b);
      whole = sym (encode_page-append es (trailer prev next bucket flags ++ drop 508 b));
    }

-- ---- the bitmap: bit n is put, and every other is as before

pub shaped-bit : {l : List ℕ} {prev next bucket flags : ℕ} (bit bit' : ℕ → ℕ) → ((m : ℕ) → bit m < 2)
    → (n : ℕ) (v : Bool) → n < 2048 → bit' n ≡ b2n v → ((m : ℕ) → m < 2048 → m ≢ n → bit' m ≡ bit m)
    → Shaped l (map_front bit) prev next bucket flags
    → Shaped (put_bit l n v) (map_front bit') prev next bucket flags
shaped-bit {prev = prev} {next} {bucket} {flags} bit bit' two n v small here else h =
    record {
      rest = h.rest;
      four = h.four;
      whole =
          ap (λ (b : List ℕ). put_bit b n v) h.whole
          ∙ put_bit-map_front bit bit' two n v small here else (trailer prev next bucket flags ++ h.rest);
    }
