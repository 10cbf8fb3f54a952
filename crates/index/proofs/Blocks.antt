-- A store that is written block by block.
use mathlib.Core.Path.{◌≡◌, refl, sym, ap, ◌∙◌}
use mathlib.Core.List.{List}
use Prim.Native.Nat.{ℕ, zero, suc, ◌+◌, ◌*◌, ◌≤◌, ◌<◌}
use native.Mathlib.Nat.{zero-add}
use native.Mathlib.Omega.{arith}
use borrow.Author.Count.{below_more}
use lib.ListN.{length, get_or, replicate}
use Rattle.lists.specs.Lists.{bind, up_from}
use Rattle.lists.specs.Block.{block, set_block}
use Rattle.lists.specs.BlockLaws.{length-set_block, block_same, block-other, blocks-ext, length-bind, block-bind}
use Rattle.endian.specs.Endian.{le16, le32}
use Rattle.store.specs.Store.{sealed}
use Rattle.store.specs.Change.{Fits, commits, seals, copies}
use Rattle.store.proofs.ChangeLaws.{block-seals}
use Rattle.store.specs.Finish.{finished_as}
use Rattle.store.proofs.CheckLaws.{length-sealed}
use Rattle.store.specs.Flags.{no_link}
use Rattle.model.specs.declared.Order.{Order}
use Rattle.outcomes.specs.Format.{format_meta, format_block}
use Rattle.image.specs.PagedLaws.{length-paged, length-blank}

-- ---- one block

-- a change of one block fits
pub fits_one : (s numbers : List ℕ) → 512 * get_or numbers 0 0 + 512 ≤ length s → Fits s numbers 1
fits_one s numbers h =
    record { few = omega arith; inside = inside; ascending = λ i j l m. absurd (omega arith) }
  where
    inside : (j : ℕ) → j < 1 → 512 * get_or numbers j 0 + 512 ≤ length s
    inside zero l = h
    inside (suc j) l = absurd (omega arith)

-- its image sealed and stored
pub finished-one : (number : ℕ) (s numbers zeros body images : List ℕ) → length zeros ≡ 4096 → length body ≡ 512
    → images ≡ set_block zeros 0 body
    → finished_as number s (record { count = 1; numbers = numbers }) images
    ≡ set_block s (get_or numbers 0 0) (sealed number (get_or numbers 0 0) body)
unfolding finished_as commits copies
finished-one number s numbers zeros body images lz lb e =
    let fits : 512 * 0 + 512 ≤ length zeros = omega arith in
    let l : length (set_block zeros 0 body) ≡ length zeros = length-set_block zeros 0 body fits lb in
    ap (set_block s (get_or numbers 0 0))
    (ap (λ (x : List ℕ). block (seals number numbers x 1) 0) e
    ∙ block-seals number numbers (set_block zeros 0 body) 1 (omega arith) 0 (omega arith)
    ∙ ap (sealed number (get_or numbers 0 0)) (block_same zeros 0 body fits lb))

-- ---- all blocks, which f gives

module _ (f : ℕ → List ℕ) (whole : (k : ℕ) → length (f k) ≡ 512) where
  -- one more
  pub turn : (s t : List ℕ) (k : ℕ) → t ≡ set_block s k (f k) → 512 * k + 512 ≤ length s
      → ((j : ℕ) → j < k → block s j ≡ f j) → (j : ℕ) → j < k + 1 → block t j ≡ f j
  turn s t k e fits before =
      rw e
      (below_more (λ j. block (set_block s k (f k)) j ≡ f j) k
      (λ j h. block-other s k (f k) fits (whole k) j (omega arith) (λ q. omega arith) ∙ before j h)
      (block_same s k (f k) fits (whole k)))

  -- after the last
  pub written : (n : ℕ) (s : List ℕ) → length s ≡ 512 * n → ((j : ℕ) → j < n → block s j ≡ f j)
      → s ≡ bind (up_from 0 n) f
  written n s ls h =
      blocks-ext n s (bind (up_from 0 n) f) ls (length-bind f whole 0 n)
      (λ k lt. h k lt ∙ ap f (sym (zero-add k)) ∙ sym (block-bind f whole 0 n k lt))

length-format_block : (n : ℕ) (o : Order) (k : ℕ) → length (format_block n o k) ≡ 508
unfolding format_block format_meta le16 le32
length-format_block n o zero = length-paged (format_meta n o) refl no_link no_link no_link 8
length-format_block n o (suc zero) = length-paged (replicate 492 0) refl 1 no_link 0 2
length-format_block n o (suc (suc zero)) = length-paged (replicate 492 0) refl 1 no_link 1 2
length-format_block n o (suc (suc (suc zero))) = length-paged _ refl no_link no_link no_link 4
length-format_block n o (suc (suc (suc (suc k)))) = length-blank

pub length-formatted : (n : ℕ) (o : Order) (k : ℕ) → length (sealed o.number k (format_block n o k)) ≡ 512
length-formatted n o k =
    length-sealed o.number k (format_block n o k) (omega (arith, length-format_block n o k))
