-- The journal when the images of a change are in it, when its head is, and when its end is.
use Rattle.std.specs.Prelude.{◌≡◌, refl, ◌⊎◌, Bool, false, ℕ, ◌+◌, ◌*◌, ◌≤◌, ◌<◌, get_or, take}
use Rattle.std.proofs.Math.Path.{sym, ap, ap₂}
use Rattle.std.proofs.Common.{◌∙◌, inl, inr}
use Rattle.std.proofs.Math.Bool.{true}
use mathlib.Core.List.{List}
use native.Mathlib.Omega.{arith}
use Rattle.std.proofs.Math.ListN.{length}
use Rattle.lists.specs.Block.{blocks, block, set_block}
use Rattle.lists.specs.BlockLaws.{length-block, length-set_block, block_same, block-other}
use Rattle.store.specs.Store.{checks}
use Rattle.store.specs.Change.{copies, commits}
use Rattle.store.proofs.CheckLaws.{checks-sealed}
use Rattle.store.specs.CopyLaws.{Copying, length-copies, block-copies, block-copies-rest}
use Rattle.journal.specs.Journal.{Disk, run, head_of, end_of, number_in, count_in, name_in, image_in}
use Rattle.journal.specs.Journal.{head_bytes, head, ending, wiped, image_stores, holds, recover}
use Rattle.journal.specs.Cut.{Whole, Ready}
use Rattle.journal.specs.CopyLaws.{copies-cong, run-images}
use Rattle.journal.specs.HeadLaws.{
  length-head_bytes,
  take-sealed,
  number-head,
  count_head,
  name-head,
  length-head,
  length-ending,
}
use Rattle.journal.proofs.ValidLaws.{Held, held-holds}
use Rattle.journal.proofs.RecoverLaws.{recover-no, recover-yes}

-- a change of the first n of `numbers`, ascending, with its images, of a store of m blocks
pub record Changes (d : Disk) (m number : ℕ) (numbers images : List ℕ) (n : ℕ) : Type 0 where
  pub size : length d.store ≡ 512 * m
  pub some : 1 ≤ n
  pub few : n ≤ 14
  pub inside : (j : ℕ) → j < n → 512 * get_or numbers j 0 + 512 ≤ length d.store
  pub ascending : (i j : ℕ) → i < j → j < n → get_or numbers i 0 < get_or numbers j 0
  pub listed : n ≤ length numbers
  pub named : (j : ℕ) → j < n → get_or numbers j 0 < 4294967296
  pub numbered : number < 4294967296
  pub full : 512 * n ≤ length images
  pub good : (j : ℕ) → j < n → checks number (get_or numbers j 0) (block images j) ≡ true

-- ---- the journal with the images of a change in it, with the head too, and with the end

unfoldable pub with_images : (journal images : List ℕ) → (n : ℕ) → List ℕ
with_images j images n = copies j (λ i. 1 + i) (block images) n

unfoldable pub with_head : (journal : List ℕ) → (number : ℕ) → (numbers images : List ℕ) → (n : ℕ) → List ℕ
with_head j number numbers images n = set_block (with_images j images n) 0 (head number numbers n)

unfoldable pub with_end : (journal : List ℕ) → (number : ℕ) → (numbers images : List ℕ) → (n : ℕ) → List ℕ
with_end j number numbers images n = set_block (with_head j number numbers images n) 15 (ending number numbers n)

module _ {d : Disk} {m number : ℕ} {numbers images : List ℕ} {n : ℕ} (r : Ready d)
    (c : Changes d m number numbers images n) where
  abbrev at : ℕ → ℕ
  at j = get_or numbers j 0

  abbrev b : ℕ → List ℕ
  b = block images

  abbrev s : List ℕ
  s = d.store

  abbrev after : List ℕ
  after = commits s numbers images n

  abbrev disk : List ℕ → List ℕ → Disk
  disk x y = record { store = x; journal = y }

  pub copying-images : Copying d.journal (λ j. 1 + j) b n
  copying-images =
      let e = r.sixteen in
      let f = c.full in
      let g = c.few in
      record {
        inside = λ j h. omega arith;
        whole = λ j h. length-block images j (omega arith);
        apart = λ i j h k q. omega arith;
      }

  pub copying-pages : Copying s at b n
  copying-pages =
      record {
        inside = c.inside;
        whole = copying-images.whole;
        apart = λ i j h k q. omega (arith, c.ascending i j h k);
      }

  abbrev imaged : List ℕ
  imaged = with_images d.journal images n

  abbrev headed : List ℕ
  headed = with_head d.journal number numbers images n

  abbrev filled : List ℕ
  filled = with_end d.journal number numbers images n

  abbrev head_block : List ℕ
  head_block = head number numbers n

  abbrev end_block : List ℕ
  end_block = ending number numbers n

  long-head : length head_block ≡ 512
  long-head = length-head number numbers n

  long-end : length end_block ≡ 512
  long-end = length-ending number numbers n

  pub length-imaged : length imaged ≡ 8192
  unfolding with_images
  length-imaged = length-copies copying-images n (omega arith) ∙ r.sixteen

  pub length-headed : length headed ≡ 8192
  unfolding with_head
  length-headed = length-set_block imaged 0 head_block (omega (arith, length-imaged)) long-head ∙ length-imaged

  pub length-filled : length filled ≡ 8192
  unfolding with_end
  length-filled = length-set_block headed 15 end_block (omega (arith, length-headed)) long-end ∙ length-headed

  pub images-run : run (image_stores images 0 n) d ≡ disk s imaged
  unfolding with_images copies
  images-run = run-images s d.journal b 0 n ∙ ap (λ (k : ℕ). disk s (copies d.journal (λ j. 1 + j) b k)) z
    where
      z : 0 + n ≡ n
      z = omega arith

  pub head-imaged : head_of imaged ≡ wiped
  unfolding with_images
  head-imaged =
      block-copies-rest copying-images n 0 (omega arith) (omega (arith, r.sixteen)) (λ j h q. omega arith)
      ∙ r.clean

  image-imaged : (i : ℕ) → i < n → image_in imaged i ≡ b i
  unfolding with_images
  image-imaged i h = block-copies copying-images n i (omega arith) h

  -- another block 0: the images stay
  image-head : (g : List ℕ) → length g ≡ 512 → (i : ℕ) → i < n → image_in (set_block imaged 0 g) i ≡ b i
  image-head g w i h =
      let l = length-imaged in
      block-other imaged 0 g (omega arith) w (1 + i) (omega (arith, c.few)) (λ q. omega arith) ∙ image-imaged i h

  pub head-headed : head_of headed ≡ head_block
  unfolding with_head
  head-headed = block_same imaged 0 head_block (omega (arith, length-imaged)) long-head

  pub image-headed : (i : ℕ) → i < n → image_in headed i ≡ b i
  unfolding with_head
  image-headed = image-head head_block long-head

  pub head-filled : head_of filled ≡ head_block
  unfolding with_end
  head-filled =
      block-other headed 15 end_block (omega (arith, length-headed)) long-end 0 (omega (arith, length-headed))
      (λ q. omega arith)
      ∙ head-headed

  end-filled : end_of filled ≡ end_block
  unfolding with_end
  end-filled = block_same headed 15 end_block (omega (arith, length-headed)) long-end

  pub image-filled : (i : ℕ) → i < n → image_in filled i ≡ b i
  unfolding with_end
  image-filled i h =
      block-other headed 15 end_block (omega (arith, length-headed)) long-end (1 + i)
      (omega (arith, length-headed, c.few)) (λ q. omega (arith, c.few))
      ∙ image-headed i h

  -- ---- a journal that has this head and these images, if it holds a change, holds this one

  module _ (j : List ℕ) (hd : head_of j ≡ head_block) (im : (i : ℕ) → i < n → image_in j i ≡ b i) where
    num : number_in j ≡ number
    num = number-head number numbers n c.numbered c.few c.listed c.named j hd

    pub cnt : count_in j ≡ n
    cnt = count_head number numbers n c.numbered c.few c.listed c.named j hd

    pub nam : (i : ℕ) → i < n → name_in j i ≡ at i
    nam = name-head number numbers n c.numbered c.few c.listed c.named j hd

    copies-after : copies s (name_in j) (image_in j) (count_in j) ≡ after
    unfolding commits
    copies-after = ap (copies s (name_in j) (image_in j)) cnt ∙ copies-cong s (name_in j) at (image_in j) b n nam im

    pub recover-after : holds (disk s j) ≡ true → (recover (disk s j)).store ≡ after
    recover-after h = ap (λ (x : Disk). x.store) (recover-yes (disk s j) h) ∙ copies-after

    pub recover-either : ((recover (disk s j)).store ≡ s) ⊎ ((recover (disk s j)).store ≡ after)
    recover-either = go (holds (disk s j)) refl
      where
        go : (t : Bool) → holds (disk s j) ≡ t → ((recover (disk s j)).store ≡ s) ⊎ ((recover (disk s j)).store ≡ after)
        go true h = inr (recover-after h)
        go false h = inl (ap (λ (x : Disk). x.store) (recover-no (disk s j) h))

  held-filled : Held (disk s filled)
  unfolding blocks head ending
  held-filled =
      let few = c.few in
      let cn = cnt filled head-filled image-filled in
      let nu = num filled head-filled image-filled in
      let na = nam filled head-filled image-filled in
      let hb = head_bytes number numbers n in
      let l : 508 ≤ length hb = omega (arith, length-head_bytes number numbers n) in
      record {
        some = omega (arith, c.some);
        few = omega arith;
        head = ap₂ (λ (k : ℕ) (x : List ℕ). checks k 0 x) nu head-filled ∙ checks-sealed number 0 hb l;
        end = ap₂ (λ (k : ℕ) (x : List ℕ). checks k 15 x) nu end-filled ∙ checks-sealed number 15 hb l;
        copy =
            ap (take 508) end-filled ∙ take-sealed number 15 hb l
            ∙ sym (take-sealed number 0 hb l) ∙ sym (ap (take 508) head-filled);
        images = λ i h. images-good i (omega arith);
        below = λ i h. omega (arith, na i (omega arith), c.inside i (omega arith), c.size);
        differ = λ i j h k q.
            copying-pages.apart i j h (omega arith) (sym (na i (omega arith)) ∙ q ∙ na j (omega arith));
      }
    where
      images-good : (i : ℕ) → i < n → checks (number_in filled) (name_in filled i) (image_in filled i) ≡ true
      images-good i h =
          ap (λ (k : ℕ). checks k (name_in filled i) (image_in filled i)) (num filled head-filled image-filled)
          ∙ ap₂ (λ (k : ℕ) (x : List ℕ). checks number k x) (nam filled head-filled image-filled i h) (image-filled i h)
          ∙ c.good i h

  pub holds-filled : holds (disk s filled) ≡ true
  holds-filled = held-holds (disk s filled) held-filled

  pub whole-filled : Whole m (disk s filled)
  whole-filled = record { store = c.size; journal = length-filled }
