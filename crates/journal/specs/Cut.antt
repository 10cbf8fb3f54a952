-- What a cut may leave. docs/RULES.md 11.6: "Cut after any block store, and allow the block being written to hold
-- anything whose check fails".
use Rattle.std.specs.Prelude.{◌≡◌, true, false, List, ◌∷◌, ℕ, suc, ◌*◌, ◌≤◌, ◌<◌, length}
use Rattle.lists.specs.Block.{block}
use Rattle.endian.specs.Endian.{u32_at}
use Rattle.store.specs.Store.{checks, number_at}
use Rattle.journal.specs.Journal.{Disk, BlockStore, image, mark, page, write, do_store, wiped, recovery_stores}
use Rattle.journal.specs.Altered.{altered}

-- The bytes that may stand where a block was being written. Head and end have their checks under the number in their
-- own bytes 0..3; an image and a block of the store may hold anything at all, with a right check too.
abbrev pub Fails : BlockStore → (g : List ℕ) → Type 0
Fails (image at b) g = Unit {0}
Fails (mark at b) g = checks (u32_at g 0) at g ≡ false
Fails (page k b) g = Unit {0}

pub record Torn (p : BlockStore) (g : List ℕ) : Type 0 where
  pub whole : length g ≡ 512
  pub fails : Fails p g

-- Power fails when n of the block stores are done: between two, or inside the next one.
pub data Cut : Disk → List BlockStore → (n : ℕ) → Disk → Type 0 where
  between : {d : Disk} {ps : List BlockStore} → Cut d ps 0 d
  inside : {d : Disk} {p : BlockStore} {ps : List BlockStore} {g : List ℕ} → Torn p g
      → Cut d (p ∷ ps) 0 (write p g d)
  later : {d e : Disk} {p : BlockStore} {ps : List BlockStore} {n : ℕ} → Cut (do_store p d) ps n e
      → Cut d (p ∷ ps) (suc n) e

-- Recoveries that were cut, one after the other, any number of them.
pub data Tries : Disk → Disk → Type 0 where
  ended : {d : Disk} → Tries d d
  again : {d e f : Disk} {n : ℕ} → Cut d (recovery_stores d) n e → Tries e f → Tries d f

-- a store of m blocks, and a journal of 16
pub record Whole (m : ℕ) (d : Disk) : Type 0 where
  pub store : length d.store ≡ 512 * m
  pub journal : length d.journal ≡ 8192

-- a journal of 16 blocks whose head is wiped
pub record Ready (d : Disk) : Type 0 where
  pub sixteen : length d.journal ≡ 8192
  pub clean : block d.journal 0 ≡ wiped

-- A store of m blocks is to become t, of as many, all of which have right checks under the store's number; at most 14
-- of them are altered.
pub record Becomes (d : Disk) (m : ℕ) (t : List ℕ) : Type 0 where
  pub size : length d.store ≡ 512 * m
  pub same : length t ≡ 512 * m
  pub small : m ≤ 4294967296
  pub numbered : number_at d.store < 4294967296
  pub few : length (altered d.store t) ≤ 14
  pub good : (k : ℕ) → k < m → checks (number_at d.store) k (block t k) ≡ true
