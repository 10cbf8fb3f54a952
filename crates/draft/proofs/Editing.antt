-- One image of a draft is edited.
use mathlib.Core.Path.{◌≡◌, sym, ap, ◌∙◌, subst}
use mathlib.Core.List.{List}
use Prim.Native.Nat.{ℕ, ◌+◌, ◌-◌, ◌*◌, ◌≤◌}
use native.Mathlib.Omega.{arith}
use borrow.Rule.Slice.PartMut.{put_mid}
use lib.ListN.{length, take, drop}
use Rattle.lists.specs.Block.{block, set_block}
use Rattle.lists.specs.BlockLaws.{length-block}
use Rattle.page.specs.declared.Entry.{Entry}
use Rattle.page.specs.Entries.{encode_page}
use Rattle.store.specs.declared.Change.{Change}
use Rattle.store.proofs.Parts.{part-block, put-block}
use Rattle.draft.specs.Draft.{Draft, Ready, Edited, PageEdited}
use Rattle.draft.specs.DraftLaws.{draft-put}
use Rattle.draft.specs.Open.{Opens}
use Rattle.draft.specs.OpenLaws.{opened-block}

module _ {s : List ℕ} {c : Change} {images : List ℕ} {k at : ℕ} {r : Change} {images' : List ℕ}
    (o : Opens s c images k at r images') where
  -- the image as it is lent, and the images after it is given back as b
  abbrev pub lent : List ℕ
  lent = take (512 * at + 512 - 512 * at) (drop (512 * at) images')

  abbrev given : List ℕ → List ℕ
  given b = put_mid (512 * at) (512 * at + 512 - 512 * at) images' b

  pub image-inside : {d : List ℕ} → Ready s c images d k → 512 * at + 512 ≤ length images'
  image-inside {d} g =
      let e = o.draft d g.draft in
      omega (arith, o.inside, e.eight, e.fits.few)

  module _ {d : List ℕ} (g : Draft s c images d) where
    is_block : block images' at ≡ block d k
    is_block = opened-block o g

    drafted : Draft s r images' d
    drafted = o.draft d g

    pub length-opened : length (block images' at) ≡ 512
    length-opened =
        length-block images' at (omega (arith, o.inside, drafted.eight, drafted.fits.few))

    pub lent-block : take (512 * at + 512 - 512 * at) (drop (512 * at) images') ≡ block d k
    lent-block = part-block images' at ∙ is_block

    pub length-lent : length (take (512 * at + 512 - 512 * at) (drop (512 * at) images')) ≡ 512
    length-lent = ap length (part-block images' at) ∙ length-opened

    -- the image is b now, and so is the block
    pub edit-draft : (images'' b : List ℕ) → images'' ≡ set_block images' at b → length b ≡ 512
        → Draft s r images'' (set_block d k b)
    edit-draft images'' b e full =
        subst (λ (x : List ℕ). Draft s r x (set_block d k b)) (sym e)
        (subst (λ (n : ℕ). Draft s r (set_block images' at b) (set_block d n b)) o.names
        (draft-put drafted at o.inside b full))

  -- the image is what f makes of it, and so is the block
  module _ (f : List ℕ → List ℕ) (full : (b : List ℕ) → length b ≡ 512 → length (f b) ≡ 512) where
    pub edit-block : (images'' : List ℕ) → images'' ≡ set_block images' at (f (block images' at))
        → Edited s c images k f r images''
    edit-block images'' e =
        record {
          lists = o.lists;
          draft =
              λ d g.
              subst (λ (b : List ℕ). Draft s r images'' (set_block d k (f b))) (is_block g)
              (edit-draft g images'' (f (block images' at)) e (full (block images' at) (length-opened g)));
        }

    -- the same, where the image was lent
    pub edit-part : (b : List ℕ) → b ≡ f (take (512 * at + 512 - 512 * at) (drop (512 * at) images'))
        → Edited s c images k f r (put_mid (512 * at) (512 * at + 512 - 512 * at) images' b)
    edit-part b e =
        edit-block (given b) (put-block images' at b ∙ ap (set_block images' at) (e ∙ ap f (part-block images' at)))

  -- a page's entries are what f makes of them
  pub edit-page : (f : List Entry → List Entry) (b : List ℕ)
      → length b ≡ length (take (512 * at + 512 - 512 * at) (drop (512 * at) images'))
      → ((es : List Entry) (tail : List ℕ)
      → take (512 * at + 512 - 512 * at) (drop (512 * at) images') ≡ encode_page es tail
      → b ≡ encode_page (f es) tail)
      → PageEdited s c images k f r (put_mid (512 * at) (512 * at + 512 - 512 * at) images' b)
  edit-page f b same becomes =
      record {
        lists = o.lists;
        draft =
            λ d g es tail e.
            let is : b ≡ encode_page (f es) tail = becomes es tail (lent-block g ∙ e) in
            edit-draft g (given b) (encode_page (f es) tail) (put-block images' at b ∙ ap (set_block images' at) is)
            (ap length (sym is) ∙ same ∙ ap length (part-block images' at) ∙ length-opened g);
      }
