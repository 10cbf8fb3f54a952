-- A plan as it is written and as it is read.
use Rattle.std.specs.Prelude.{◌≡◌, ℕ, suc, ◌+◌, ◌*◌, ◌≤◌, ◌<◌, length, drop}
use Rattle.std.proofs.Common.{sym, ap₂, ◌∙◌, arith, length-append, take_at, drop-drop}
use Rattle.std.proofs.Math.Path.{ap}
use mathlib.Core.List.{List, [], ◌∷◌, ◌++◌, map, append_assoc}
use Rattle.std.proofs.Math.ListN.{get_or}
use Rattle.std.proofs.Math.Seq.{drop-append-add}
use Rattle.lists.specs.Lists.{up_from}
use Rattle.lists.specs.TestLaws.{map-run}
use Rattle.lists.specs.Block.{block, set_block}
use Rattle.endian.specs.Endian.{u32_at}
use Rattle.endian.proofs.EndianLaws.{u32_at-front}
use Rattle.store.specs.Store.{sealed}
use Rattle.journal.specs.Journal.{BlockStore, image, mark, page, head_bytes, head, ending, wiped, wipe}
use Rattle.journal.specs.Journal.{image_stores, page_stores, stores}
use Rattle.journal.specs.Planned.{plan_count, plan_name, plan_image, plan_stores_of, plan_stores}
use Rattle.journal.specs.PartLaws.{block-first, block-next}
use Rattle.journal.specs.HeadLaws.{
  length-head_bytes,
  count-head_bytes,
  name-head_bytes,
  u32_at-sealed,
  length-head,
  length-ending,
  length-wiped,
}

-- ---- written, block by block

set_block-after : (a y b : List ℕ) (k : ℕ) → length a ≡ 512 * k → set_block (a ++ y) k b ≡ (a ++ b) ++ drop 512 y
unfolding set_block
set_block-after a y b k e =
    let m : 512 * k + 512 ≡ length a + 512 = omega arith in
    ap (λ (l : List ℕ). l ++ (b ++ drop (512 * k + 512) (a ++ y))) (take_at a y (512 * k) e)
    ∙ ap (λ (i : ℕ). a ++ (b ++ drop i (a ++ y))) m
    ∙ ap (λ (l : List ℕ). a ++ (b ++ l)) (drop-append-add a y 512)
    ∙ sym (append_assoc a b (drop 512 y))

three-blocks : (x h e w : List ℕ) → length h ≡ 512 → length e ≡ 512
    → set_block (set_block (set_block x 0 h) 1 e) 2 w ≡ h ++ (e ++ (w ++ drop 1536 x))
three-blocks x h e w lh le =
    ap (λ (l : List ℕ). set_block (set_block l 1 e) 2 w) (set_block-after [] x h 0 (omega arith))
    ∙ ap (λ (l : List ℕ). set_block l 2 w) (set_block-after h (drop 512 x) e 1 (omega arith))
    ∙ set_block-after (h ++ e) (drop 512 (drop 512 x)) w 2 (omega (arith, length-append h e))
    ∙ ap (λ (l : List ℕ). ((h ++ e) ++ w) ++ l)
    (ap (drop 512) (drop-drop 512 512 x) ∙ drop-drop 512 1024 x)
    ∙ append_assoc (h ++ e) w (drop 1536 x)
    ∙ append_assoc h e (w ++ drop 1536 x)

-- head, end and wiped head, before the images
pub plan-written : (number : ℕ) (numbers : List ℕ) (n : ℕ) (x h e w : List ℕ)
    → h ≡ sealed number 0 (head_bytes number numbers n) → e ≡ sealed number 15 (head_bytes number numbers n) → w ≡ wiped
    → set_block (set_block (set_block x 0 h) 1 e) 2 w
    ≡ head number numbers n ++ (ending number numbers n ++ (wiped ++ drop 1536 x))
unfolding head ending
plan-written number numbers n x h e w p q r =
    let lh : length h ≡ 512 = ap length p ∙ length-head number numbers n in
    let le : length e ≡ 512 = ap length q ∙ length-ending number numbers n in
    three-blocks x h e w lh le
    ∙ (λ i. p i ++ (q i ++ (r i ++ drop 1536 x)))

-- ---- read

z : (k : ℕ) → 0 + k ≡ k
z k = omega arith

run-cong : (f g : ℕ → BlockStore) (n : ℕ) → ((k : ℕ) → k < n → f k ≡ g k) → map f (up_from 0 n) ≡ map g (up_from 0 n)
run-cong f g n h = map-run f g 0 0 n (λ k l. ap f (z k) ∙ h k l ∙ ap g (sym (z k)))

-- of the images the first n blocks matter
pub stores-cong : (number : ℕ) (numbers images more : List ℕ) (n : ℕ)
    → ((k : ℕ) → k < n → block images k ≡ block more k)
    → stores number numbers images n ≡ stores number numbers more n
unfolding stores
stores-cong number numbers images more n h =
    ap₂
    (λ (x y : List BlockStore). x
    ++ (mark 0 (head number numbers n) ∷ mark 15 (ending number numbers n) ∷ (y ++ (wipe ∷ []))))
    ims pgs
  where
    ims : image_stores images 0 n ≡ image_stores more 0 n
    ims = run-cong _ _ n (λ k l. ap (image (1 + k)) (h k l))

    pgs : page_stores numbers images 0 n ≡ page_stores numbers more 0 n
    pgs = run-cong _ _ n (λ k l. ap (page (get_or numbers k 0)) (h k l))

-- its block stores, by what its blocks and numbers are
pub plan_stores-by : (p : List ℕ) (n : ℕ) (at : ℕ → ℕ) (b : ℕ → List ℕ) (h e w : List ℕ) → plan_count p ≡ n
    → ((k : ℕ) → k < n → plan_name p k ≡ at k) → ((k : ℕ) → k < n → plan_image p k ≡ b k)
    → block p 0 ≡ h → block p 1 ≡ e → block p 2 ≡ w
    → plan_stores p
    ≡ map (λ i. image (1 + i) (b i)) (up_from 0 n)
    ++ (mark 0 h ∷ mark 15 e ∷ (map (λ i. page (at i) (b i)) (up_from 0 n) ++ (mark 0 w ∷ [])))
unfolding plan_stores
plan_stores-by p n at b h e w count names images first next last =
    ap (λ (k : ℕ). plan_stores_of k p) count
    ∙ (λ i. ims i ++ (mark 0 (first i) ∷ mark 15 (next i) ∷ (pgs i ++ (mark 0 (last i) ∷ []))))
  where
    ims : map (λ j. image (1 + j) (plan_image p j)) (up_from 0 n) ≡ map (λ j. image (1 + j) (b j)) (up_from 0 n)
    ims = run-cong _ _ n (λ k l. ap (image (1 + k)) (images k l))

    pgs : map (λ j. page (plan_name p j) (plan_image p j)) (up_from 0 n) ≡ map (λ j. page (at j) (b j)) (up_from 0 n)
    pgs = run-cong _ _ n (λ k l. ap₂ (λ (x : ℕ) (y : List ℕ). page x y) (names k l) (images k l))

-- that of a change of the first n of `numbers`
module _ (number : ℕ) (numbers images : List ℕ) (n : ℕ) (few : n ≤ 8) (listed : n ≤ length numbers)
    (named : (j : ℕ) → j < n → get_or numbers j 0 < 4294967296) (plan : List ℕ)
    (is : plan ≡ head number numbers n ++ (ending number numbers n ++ (wiped ++ images))) where
  read : (i : ℕ) → i + 4 ≤ 508 → u32_at plan i ≡ u32_at (head_bytes number numbers n) i
  unfolding head
  read i h =
      ap (λ (x : List ℕ). u32_at x i) is
      ∙ u32_at-front (head number numbers n) _ i (omega (arith, length-head number numbers n))
      ∙ u32_at-sealed number 0 (head_bytes number numbers n) i (omega (arith, length-head_bytes number numbers n)) h

  pub count-plan : plan_count plan ≡ n
  count-plan = read 4 (omega arith) ∙ count-head_bytes number numbers n (omega arith)

  pub name-plan : (i : ℕ) → i < n → plan_name plan i ≡ get_or numbers i 0
  name-plan i h =
      read (8 + 4 * i) (omega arith) ∙ name-head_bytes number numbers n (omega arith) listed i h (named i h)

  pub head-plan : block plan 0 ≡ head number numbers n
  head-plan = ap (λ (x : List ℕ). block x 0) is ∙ block-first (head number numbers n) _ (length-head number numbers n)

  later : (k : ℕ) → block plan (suc k) ≡ block (ending number numbers n ++ (wiped ++ images)) k
  later k =
      ap (λ (x : List ℕ). block x (suc k)) is
      ∙ block-next (head number numbers n) _ (length-head number numbers n) k

  pub end-plan : block plan 1 ≡ ending number numbers n
  end-plan = later 0 ∙ block-first (ending number numbers n) (wiped ++ images) (length-ending number numbers n)

  past : (k : ℕ) → block plan (suc (suc k)) ≡ block (wiped ++ images) k
  past k = later (suc k) ∙ block-next (ending number numbers n) (wiped ++ images) (length-ending number numbers n) k

  pub wiped-plan : block plan 2 ≡ wiped
  wiped-plan = past 0 ∙ block-first wiped images length-wiped

  pub image-plan : (i : ℕ) → plan_image plan i ≡ block images i
  image-plan i =
      let e : 3 + i ≡ suc (suc (suc i)) = omega arith in
      ap (block plan) e ∙ past (suc i) ∙ block-next wiped images length-wiped i

  pub plan_stores-plan : plan_stores plan ≡ stores number numbers images n
  unfolding stores
  plan_stores-plan =
      plan_stores-by plan n (λ j. get_or numbers j 0) (block images) (head number numbers n) (ending number numbers n)
      wiped count-plan name-plan (λ k h. image-plan k) head-plan end-plan wiped-plan
