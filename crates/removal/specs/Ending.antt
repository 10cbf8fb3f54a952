-- The end of a cut: bits of the bitmap are set to 0, and the meta block's count and first free bit are written.
use Rattle.std.specs.Prelude.{◌≡◌, ◌≢◌, ◌⊎◌, List, ℕ, ◌<◌}
use Rattle.lists.specs.Block.{blocks, block}
use Rattle.store.specs.declared.Change.{Change}
use Rattle.model.specs.Index.{Index}
use Rattle.model.specs.WellFormed.{Laid}
use Rattle.image.specs.declared.Meta.{Meta}
use Rattle.image.specs.Layout.{meta_of, map_front, map_bit, encode_block}
use Rattle.store.specs.Flags.{no_link}
use Rattle.image.specs.Decode.{decode}
use Rattle.frame.specs.Frame.{Apart, map_block}
use Rattle.draft.specs.Draft.{Listed}
use Rattle.view.specs.Reads.{Reads}
use Rattle.model.proofs.FrameLaws.{SameStore}
use Rattle.plan.specs.Fields.{fields_after}
use Rattle.plan.specs.Shape.{Shaped}
use Rattle.plan.specs.Sketch.{Sketch}
use Rattle.std.specs.Prelude.{Option}
use Rattle.removal.specs.Freeing.{clears, lowers, Below}
use Rattle.removal.specs.Cutting.{Sketches}

-- the draft d has the bitmap of these bits in block k, and room for it and for the meta block
pub record MapSketch (s : List ℕ) (c : Change) (images : List ℕ) (k : ℕ) (bit : ℕ → ℕ) (d : List ℕ) : Type 0 where
  pub ks : List ℕ
  pub room : Sketch s c images d 6 ks ⊎ (Sketch s c images d 7 ks × Listed c k)
  pub inside : k < blocks s
  pub two : (i : ℕ) → bit i < 2
  pub shape : Shaped (block d k) (map_front bit) no_link no_link no_link 4

-- the bitmap of a draft d is written, and no other block
pub record Cleared (s : List ℕ) (c : Change) (images : List ℕ) (k : ℕ) (bit : ℕ → ℕ) (d : List ℕ) : Type 0 where
  pub d' : List ℕ
  pub sketch : MapSketch s c images k bit d'
  pub rest : (j : ℕ) → j < blocks s → j ≢ k → block d' j ≡ block d j

-- the change shows y, but for two freed bits, the count and the first free bit; js are the blocks that may alter
pub record Ending (s : List ℕ) (m : Meta) (c : Change) (images : List ℕ) (held : ℕ) (f g : Option ℕ) (y : Index)
    : Type 0 where
  pub reads : Reads s m
  pub sketches : Sketches s c images 6 y
  pub laid : Laid y
  pub same : SameStore (decode s) y
  pub map : map_block y ≡ map_block (decode s)
  pub below : Below f × Below g
  pub bits : (i : ℕ) → map_bit y i ≡ clears g (clears f (map_bit (decode s))) i
  pub meta : meta_of y ≡ fields_after m held (lowers g (lowers f m.free))
  pub js : List ℕ
  pub frame : (k : ℕ) → Apart k js → encode_block y k ≡ encode_block (decode s) k
