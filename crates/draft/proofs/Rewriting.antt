-- A page of no entry, into which one is put.
use mathlib.Core.Path.{◌≡◌, refl, sym, subst}
use mathlib.Core.Logic.{inr}
use mathlib.Core.List.{List, [], ◌∷◌, ◌++◌}
use Prim.Native.Nat.{ℕ, ◌+◌, ◌*◌, ◌≤◌, ◌<◌}
use native.Mathlib.Omega.{arith}
use lib.ListN.{length, drop}
use Rattle.lists.specs.Block.{blocks, block, set_block}
use Rattle.lists.specs.BlockLaws.{length-block, block_same}
use Rattle.page.specs.declared.Entry.{Entry}
use Rattle.page.specs.Entries.{encode_page}
use Rattle.page.specs.Places.{insert_at}
use Rattle.page.specs.Gap.{Room}
use Rattle.store.specs.declared.Change.{Change}
use Rattle.draft.specs.Draft.{Draft, Ready, Edited, PageEdited}
use Rattle.draft.specs.SetLaws.{set_block-twice}
use Rattle.draft.specs.ShapeLaws.{room-page}
use Rattle.draft.specs.DraftLaws.{length-draft, lists-again}
use Rattle.draft.proofs.Clearing.{length-empty}

module _ {s : List ℕ} {c : Change} {images : List ℕ} {k : ℕ} {r : Change} {images' : List ℕ} (t : List ℕ)
    (sixteen : length t ≡ 16) (inside : k < blocks s)
    (w : Edited s c images k (λ b. encode_page [] (t ++ drop 508 b)) r images') where
  module _ {d : List ℕ} (g : Draft s c images d) where
    empty : List ℕ
    empty = encode_page [] (t ++ drop 508 (block d k))

    here : 512 * k + 512 ≤ length d
    here = omega (arith, g.whole, length-draft g)

    full : length empty ≡ 512
    unfolding empty
    full = length-empty (block d k) t (length-block d k here) sixteen

    is-empty : block (set_block d k empty) k ≡ empty
    is-empty = block_same d k empty here full

    room : Room empty 0
    unfolding empty
    room = room-page empty [] (t ++ drop 508 (block d k)) full refl 0 (omega arith) (omega arith)

    pub insert-ready : (d' : List ℕ) × Ready s r images' d' k × Room (block d' k) 0
    unfolding empty
    insert-ready = (
      set_block d k empty,
      record { draft = w.draft d g; inside = inside; room = inr w.lists.listed },
      subst (λ (b : List ℕ). Room b 0) (sym is-empty) room,
    )

    one-draft : (e : Entry) (r' : Change) (images'' : List ℕ) → PageEdited s r images' k (insert_at 0 e) r' images''
        → Draft s r' images'' (set_block d k (encode_page (e ∷ []) (t ++ drop 508 (block d k))))
    unfolding empty insert_at
    one-draft e r' images'' p =
        subst (Draft s r' images'') (set_block-twice d k here empty _ full)
        (p.draft (set_block d k empty) (w.draft d g) [] (t ++ drop 508 (block d k)) is-empty)

  pub page-of-one : (e : Entry) (r' : Change) (images'' : List ℕ) → PageEdited s r images' k (insert_at 0 e) r' images''
      → Edited s c images k (λ b. encode_page (e ∷ []) (t ++ drop 508 b)) r' images''
  page-of-one e r' images'' p =
      record { lists = lists-again w.lists p.lists; draft = λ d g. one-draft g e r' images'' p }
