-- The chains of a store that passes rule 4, and of one that passes rule 5: a bucket's walk
-- stays inside the store, and holds pages.
use Rattle.std.specs.Prelude.{◌≡◌, true, List, ◌∷◌, length, take}
use Rattle.std.proofs.Common.{sym, ◌∙◌, arith}
use Rattle.std.proofs.Math.Path.{ap}
use Rattle.std.proofs.Math.Bool.{Bool}
use Prim.Native.Nat.{ℕ, suc, ◌≤◌}
use Rattle.lists.specs.Lists.{all, bind}
use Rattle.lists.specs.ListsLaws.{and_left}
use Rattle.lists.specs.RunLaws.{all-get}
use Rattle.lists.specs.Block.{block}
use Rattle.page.specs.Rule.{page_ok}
use Rattle.model.specs.Index.{entries_at}
use Rattle.image.specs.declared.Meta.{Meta}
use Rattle.image.specs.Decode.{max_at, block_of, trail, decode}
use Rattle.image.specs.Rules.{buckets, rule4, rule5}
use Rattle.chain.specs.Walk.{walk, Walked}
use Rattle.chain.specs.Within.{entries_on, PagesOk, Within}
use Rattle.chain.specs.WalkLaws.{walk-trail}
use Rattle.chain.specs.WithinLaws.{walked-some, walked-within}
use Rattle.chain.proofs.DecodeLaws.{entries-walk}
use Rattle.merge.specs.Merge.{joined}
use Rattle.merge.specs.Heads.{page_at}
use Rattle.merge.specs.WalksLaws.{alone-entries}
use Rattle.shape.specs.Known.{Known4, Known5}
use Rattle.reader.specs.KnownLaws.{sized, bucket-inside}
use Rattle.shape.specs.ChainedLaws.{chained, trail-inside}

module _ {s : List ℕ} (b : ℕ) (made : b ≤ max_at s) where
  pub chain-linked : {m : Meta} → Known4 s m → chained s b ≡ true
  unfolding rule4
  chain-linked k =
      all-get (chained s) 0 (suc (max_at s)) (and_left (all (chained s) (buckets s)) _ k.holds) b (omega arith)
      (omega arith)

  module _ {bs : List ℕ} {n : ℕ} (held : Walked s (block_of s b) bs n) where
    pub walk-within : {m : Meta} → Known4 s m → Within s (take n bs)
    unfolding walk
    walk-within k =
        let two = k.known.known in
        walked-within held (sized two) (bucket-inside two b made, trail-inside two b (chain-linked k))

    pub walk-some : 1 ≤ length (take n bs)
    walk-some = omega (arith, walked-some held, held.count, ap length held.blocks)

    -- the walk's blocks are those that the rules name
    pub walk-blocks : take n bs ≡ block_of s b ∷ trail s b
    walk-blocks = held.blocks ∙ sym (walk-trail s b)

    pub walk-pages : {m : Meta} → Known5 s m → PagesOk s (take n bs)
    unfolding rule5
    walk-pages k =
        let p : ℕ → Bool = λ d. all (λ j. page_ok (block s j)) (block_of s d ∷ trail s d) in
        ap (all (λ j. page_ok (block s j))) walk-blocks
        ∙ all-get p 0 (suc (max_at s)) (and_left (all p (buckets s)) _ k.holds) b (omega arith) (omega arith)

    pub walk-entries : bind (take n bs) (entries_on s) ≡ entries_at (decode s) b
    walk-entries = ap (λ (ks : List ℕ). bind ks (entries_on s)) held.blocks ∙ entries-walk s b made

    -- its pages merged have the chain's entries
    pub walk-merged : joined (page_at s (take n bs)) 0 (length (take n bs)) ≡ entries_at (decode s) b
    walk-merged = alone-entries s (take n bs) ∙ walk-entries
