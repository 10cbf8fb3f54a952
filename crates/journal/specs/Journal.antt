-- A journal beside a store. docs/RULES.md 11.1: "a second lent slice of exactly 16 blocks: block 0 the head (u32s:
-- store number, number of images, their block numbers; then zeros), from block 1 up to 14 images, each a store block
-- with its check, block 15 the end, a copy of the head's bytes 0..507. Head and end carry the check of blocks 0 and 15
-- under the store number in their own bytes 0..3; a wiped head is zeros with its check."
use Rattle.std.specs.Prelude.{Bool, true, false, not, ◌&&◌, List, [], ◌∷◌, ◌++◌, map, ℕ, ◌+◌, ◌*◌, eqb, leb, ltb, length, get_or, take, replicate}
use Rattle.std.proofs.Math.Option.{Option, none, some}
use Rattle.lists.specs.Lists.{all, find, bind, up_from}
use Rattle.lists.specs.Block.{blocks, block, set_block}
use Rattle.endian.specs.Endian.{le32, u32_at}
use Rattle.store.specs.Store.{sealed, checks}

-- A store and its journal.
pub record Disk : Type 0 where
  pub store : List ℕ
  pub journal : List ℕ

abbrev pub disk : (store journal : List ℕ) → Disk
disk s j = record { store = s; journal = j }

-- ---- block stores

-- A store of a whole block: of an image to block `at` of the journal; of a head or an end to block `at` of the journal;
-- of block k to the store.
pub data BlockStore : Type 0 where
  image : (at : ℕ) → List ℕ → BlockStore
  mark : (at : ℕ) → List ℕ → BlockStore
  page : (k : ℕ) → List ℕ → BlockStore

-- the 512 bytes that it writes
abbrev pub bytes_of : BlockStore → List ℕ
bytes_of (image at b) = b
bytes_of (mark at b) = b
bytes_of (page k b) = b

-- the bytes g written where it writes
abbrev pub write : BlockStore → (g : List ℕ) → Disk → Disk
write (image at b) g d = record { store = d.store; journal = set_block d.journal at g }
write (mark at b) g d = record { store = d.store; journal = set_block d.journal at g }
write (page k b) g d = record { store = set_block d.store k g; journal = d.journal }

-- the store done
abbrev pub do_store : BlockStore → Disk → Disk
do_store p d = write p (bytes_of p) d

-- one after the other
abbrev pub run : List BlockStore → Disk → Disk
run [] d = d
run (p ∷ ps) d = run ps (do_store p d)

-- ---- the journal's blocks

-- the head's bytes 0..507, of the first n of `numbers`
unfoldable pub head_bytes : (number : ℕ) → (numbers : List ℕ) → (n : ℕ) → List ℕ
head_bytes number numbers n = take 508 (le32 number ++ (le32 n ++ (bind (take n numbers) le32 ++ replicate 508 0)))

unfoldable pub head : (number : ℕ) → (numbers : List ℕ) → (n : ℕ) → List ℕ
head number numbers n = sealed number 0 (head_bytes number numbers n)

unfoldable pub ending : (number : ℕ) → (numbers : List ℕ) → (n : ℕ) → List ℕ
ending number numbers n = sealed number 15 (head_bytes number numbers n)

unfoldable pub wiped : List ℕ
wiped = sealed 0 0 (replicate 508 0)

-- the head wiped
abbrev pub wipe : BlockStore
wipe = mark 0 wiped

-- ---- the block stores of a change: the first n of `numbers` are to become the blocks of `images`

abbrev pub image_stores : (images : List ℕ) → (i n : ℕ) → List BlockStore
image_stores images i n = map (λ j. image (1 + j) (block images j)) (up_from i n)

abbrev pub page_stores : (numbers images : List ℕ) → (i n : ℕ) → List BlockStore
page_stores numbers images i n = map (λ j. page (get_or numbers j 0) (block images j)) (up_from i n)

-- "images of exactly the blocks that it alters, in ascending order of number, head, end, then the store's blocks in
-- that order, then the head wiped"
unfoldable pub stores : (number : ℕ) → (numbers images : List ℕ) → (n : ℕ) → List BlockStore
stores number numbers images n =
    image_stores images 0 n
    ++ (mark 0 (head number numbers n)
    ∷ mark 15 (ending number numbers n)
    ∷ (page_stores numbers images 0 n ++ (wipe ∷ [])))

-- ---- a journal read

-- "exactly 16 blocks"
abbrev pub sixteen : (journal : List ℕ) → Bool
sixteen j = eqb (length j) 8192

abbrev pub head_of : List ℕ → List ℕ
head_of j = block j 0

abbrev pub end_of : List ℕ → List ℕ
end_of j = block j 15

-- whether two lists are equal
abbrev pub equal : List ℕ → List ℕ → Bool
equal [] [] = true
equal [] (y ∷ ys) = false
equal (x ∷ xs) [] = false
equal (x ∷ xs) (y ∷ ys) = eqb x y && equal xs ys

-- "while the head isn't wiped": all its bytes are compared
unfoldable pub head_wiped : List ℕ → Bool
head_wiped j = equal (head_of j) wiped

-- the head's store number, its number of images, and the block that image i is of
abbrev pub number_in : List ℕ → ℕ
number_in j = u32_at (head_of j) 0

abbrev pub count_in : List ℕ → ℕ
count_in j = u32_at (head_of j) 4

abbrev pub name_in : List ℕ → ℕ → ℕ
name_in j i = u32_at (head_of j) (8 + 4 * i)

abbrev pub image_in : List ℕ → ℕ → List ℕ
image_in j i = block j (1 + i)

-- ---- recovery: "copies the images if head (1 to 14 images), end and all images have right checks under the head's
-- store number, end copies head, and the blocks named differ and are below N"

abbrev pub images_good : Disk → Bool
images_good d =
    let j = d.journal in all (λ i. checks (number_in j) (name_in j i) (image_in j i)) (up_from 0 (count_in j))

abbrev pub names_below : Disk → Bool
names_below d = let j = d.journal in all (λ i. ltb (name_in j i) (blocks d.store)) (up_from 0 (count_in j))

abbrev pub names_differ : Disk → Bool
names_differ d =
    let j = d.journal in
    all (λ l. all (λ i. not (eqb (name_in j i) (name_in j l))) (up_from 0 l)) (up_from 0 (count_in j))

abbrev pub end_copies : List ℕ → Bool
end_copies j = equal (take 508 (end_of j)) (take 508 (head_of j))

-- the number of images is tested first: no more than 14 are looked at
abbrev pub holds_in : (few : Bool) → Disk → Bool
holds_in true d =
    let j = d.journal in
    checks (number_in j) 0 (head_of j)
    && (checks (number_in j) 15 (end_of j) && (end_copies j && (images_good d && (names_below d && names_differ d))))
holds_in false d = false

-- whether the journal holds a change of the store
unfoldable pub holds : Disk → Bool
holds d = holds_in (leb 1 (count_in d.journal) && leb (count_in d.journal) 14) d

-- "otherwise leaves the store alone"
abbrev pub copy_stores : (holds : Bool) → Disk → List BlockStore
copy_stores true d =
    let j = d.journal in map (λ i. page (name_in j i) (image_in j i)) (up_from 0 (count_in j))
copy_stores false d = []

-- "and ends by wiping the head"
unfoldable pub recovery_stores : Disk → List BlockStore
recovery_stores d = copy_stores (holds d) d ++ (wipe ∷ [])

unfoldable pub recover : Disk → Disk
recover d = run (recovery_stores d) d

-- ---- look: "a block is handed out as it will stand, a part of the journal where it holds that block and else a part
-- of the store"

-- the image of block k, if the journal holds it
abbrev pub image_for : (holds : Bool) → (journal : List ℕ) → (k : ℕ) → Option ℕ
image_for true j k = find (λ i. eqb (name_in j i) k) (up_from 0 (count_in j))
image_for false j k = none

abbrev pub look_at : Option ℕ → Disk → (k : ℕ) → List ℕ
look_at (some i) d k = image_in d.journal i
look_at none d k = block d.store k

unfoldable pub look : Disk → (k : ℕ) → List ℕ
look d k = look_at (image_for (holds d) d.journal k) d k
