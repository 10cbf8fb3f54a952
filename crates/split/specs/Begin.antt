-- The pages of a begin, in a sketch.
use Rattle.std.specs.Prelude.{List, [], ◌∷◌, ◌++◌, ℕ, suc, drop}
use Rattle.std.proofs.lemmas.List.Edits.{sets}
use Rattle.lists.specs.Block.{block, set_block}
use Rattle.endian.specs.Endian.{le16, le32}
use Rattle.address.specs.Address.{split_from}
use Rattle.page.specs.Entries.{encode_page}
use Rattle.store.specs.declared.Change.{Change}
use Rattle.store.specs.Store.{trailer}
use Rattle.model.specs.Index.{chain}
use Rattle.store.specs.Flags.{no_link}
use Rattle.image.specs.Decode.{decode}
use Rattle.frame.specs.Frame.{page_block}
use Rattle.plan.specs.Shape.{Shaped}
use Rattle.plan.specs.Sketch.{Sketch}
use Rattle.split.specs.Job.{bucket_at}

-- the buckets of a split that begins
abbrev pub next_bucket : List ℕ → ℕ
next_bucket s = suc (decode s).max_bucket

abbrev pub parent_bucket : List ℕ → ℕ
parent_bucket s = split_from (next_bucket s)

-- ---- the drafts, edit by edit

module _ (s : List ℕ) where
  abbrev pub new_page : List ℕ
  new_page =
      encode_page [] (trailer (next_bucket s) no_link (next_bucket s) 18 ++ drop 508 (block s (bucket_at s (next_bucket s))))

  abbrev pub made_draft : List ℕ
  made_draft = set_block s (bucket_at s (next_bucket s)) new_page

  abbrev pub old_linked : List ℕ
  old_linked = sets (block s (bucket_at s (parent_bucket s))) 492 (le32 (next_bucket s))

  abbrev pub linked_draft : List ℕ
  linked_draft = set_block made_draft (bucket_at s (parent_bucket s)) old_linked

  abbrev pub old_page : List ℕ
  old_page = sets old_linked 504 (le16 34)

  abbrev pub begun_draft : List ℕ
  begun_draft = set_block linked_draft (bucket_at s (parent_bucket s)) old_page

-- the draft has the new bucket's page, empty and "being populated", and the old one's, "being split"; both hold the
-- new bucket as their last split
pub record Begun (s : List ℕ) (c : Change) (images : List ℕ) : Type 0 where
  pub made : List ℕ
  pub sketch : Sketch s c images made 2
      (bucket_at s (parent_bucket s) ∷ bucket_at s (parent_bucket s) ∷ bucket_at s (next_bucket s) ∷ [])
  pub new : Shaped (block made (bucket_at s (next_bucket s))) (encode_page [] []) (next_bucket s) no_link (next_bucket s) 18
  pub old : Shaped (block made (bucket_at s (parent_bucket s)))
      (encode_page (chain (decode s) (parent_bucket s)).first [])
      (next_bucket s) (page_block (decode s) (parent_bucket s) 1) (parent_bucket s) 34
