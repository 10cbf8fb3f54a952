-- A change worked out into a lent buffer: the bytes that its block stores write, before any of them is done.
-- docs/RULES.md 11.9: "eleven blocks: the change's head, its end and the wiped head, and then its images".
use Rattle.std.specs.Prelude.{List, [], ◌∷◌, ◌++◌, map, ℕ, zero, suc, ◌+◌, ◌*◌, length, get_or, drop}
use Rattle.lists.specs.Lists.{up_from}
use Rattle.lists.specs.Block.{block}
use Rattle.endian.specs.Endian.{u32_at}
use Rattle.journal.specs.Journal.{BlockStore, image, mark, page, head, ending, wiped, wipe}
use Rattle.journal.specs.Altered.{altered, images_of}

-- the bytes of a buffer: eleven blocks
abbrev pub plan_size : ℕ
plan_size = 5632

-- ---- written

abbrev pub plan_in : (n : ℕ) → (number : ℕ) → (s t : List ℕ) → List ℕ
plan_in zero number s t = []
plan_in (suc n) number s t =
    head number (altered s t) (suc n) ++ (ending number (altered s t) (suc n) ++ (wiped ++ images_of s t))

-- the plan of the change from s to t; one that alters nothing has none
unfoldable pub plan_to : (number : ℕ) → (s t : List ℕ) → List ℕ
plan_to number s t = plan_in (length (altered s t)) number s t

-- the buffer with a plan at its front; the rest of it stays
unfoldable pub plan_over : (plan buffer : List ℕ) → List ℕ
plan_over plan buffer = plan ++ drop (length plan) buffer

-- ---- read

-- the number of images, and the block that image i is of, stand in the head
abbrev pub plan_count : List ℕ → ℕ
plan_count p = u32_at p 4

abbrev pub plan_name : List ℕ → ℕ → ℕ
plan_name p i = u32_at p (8 + 4 * i)

abbrev pub plan_image : List ℕ → ℕ → List ℕ
plan_image p i = block p (3 + i)

-- its block stores, by the number of images
abbrev pub plan_stores_of : (n : ℕ) → List ℕ → List BlockStore
plan_stores_of n p =
    map (λ i. image (1 + i) (plan_image p i)) (up_from 0 n)
    ++ (mark 0 (block p 0)
    ∷ mark 15 (block p 1)
    ∷ (map (λ i. page (plan_name p i) (plan_image p i)) (up_from 0 n) ++ (mark 0 (block p 2) ∷ [])))

unfoldable pub plan_stores : List ℕ → List BlockStore
plan_stores p = plan_stores_of (plan_count p) p

-- its n-th block store
unfoldable pub plan_store : List ℕ → (n : ℕ) → BlockStore
plan_store p n = get_or (plan_stores p) n wipe
