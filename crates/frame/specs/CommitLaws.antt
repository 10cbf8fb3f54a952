-- A change that names the altered blocks, with their images, makes the bytes of one index those of the other.
use Rattle.std.specs.Prelude.{◌≡◌, ◌≢◌, ◌⊎◌, List, [], ◌∷◌, ℕ, ◌*◌, ◌<◌, length, get_or}
use Rattle.std.proofs.Common.{sym, ap, ap₂, ◌∙◌, subst, inl, inr, ⊎_elim, arith}
use Rattle.std.proofs.Math.Decide.{ℕ_discrete}
use Rattle.lists.specs.Lists.{Each}
use Rattle.lists.specs.Block.{block}
use Rattle.store.specs.Store.{sealed}
use Rattle.store.specs.Change.{Fits, commits}
use Rattle.store.proofs.ChangeLaws.{commits-ext}
use Rattle.model.specs.Index.{Index}
use Rattle.model.specs.WellFormed.{Laid}
use Rattle.image.specs.Layout.{encode_block, sealed_block, encode}
use Rattle.frame.specs.Frame.{Apart}
use Rattle.image.proofs.EncodeLaws.{length-encode, block-encode}

-- a number is among those of a list, and has what holds of them, or is none of them
pub in-or-apart : (Q : ℕ → Type 0) (k : ℕ) (js : List ℕ) → Each Q js → Q k ⊎ Apart k js
in-or-apart Q k [] h = inr tt
in-or-apart Q k (j ∷ js) h = go (ℕ_discrete k j) (in-or-apart Q k js h.1)
  where
    go : Dec (k ≡ j) → Q k ⊎ Apart k js → Q k ⊎ Apart k (j ∷ js)
    go (yes e) r = inl (subst Q (sym e) h.0)
    go (no ne) r = ⊎_elim inl (λ a. inr (ne, a)) r

-- blocks that a frame lists, and that a change does not name since they stay, do not matter
pub frame-rest : (x y : Index) (ks : List ℕ) (Named : ℕ → Type 0)
    → ((k : ℕ) → Apart k ks → encode_block y k ≡ encode_block x k)
    → Each (λ (k : ℕ). Named k ⊎ (encode_block y k ≡ encode_block x k)) ks
    → (k : ℕ) → (Named k → ⊥) → encode_block y k ≡ encode_block x k
frame-rest x y ks Named frame listed k no_name =
    ⊎_elim (λ n. ⊎_elim (λ a. absurd (no_name a)) (λ e. e) n) (frame k)
    (in-or-apart (λ (k : ℕ). Named k ⊎ (encode_block y k ≡ encode_block x k)) k ks listed)

pub frame-commits : (x y : Index) → Laid x → Laid y → y.size ≡ x.size → y.number ≡ x.number
    → (numbers images : List ℕ) (n : ℕ) → Fits (encode x) numbers n → length images ≡ 4096
    → ((j : ℕ) → j < n → block images j ≡ sealed_block y (get_or numbers j 0))
    → ((k : ℕ) → ((j : ℕ) → j < n → get_or numbers j 0 ≢ k) → encode_block y k ≡ encode_block x k)
    → commits (encode x) numbers images n ≡ encode y
unfolding sealed_block
frame-commits x y l m same alike numbers images n fits eight named rest =
    sym
    (commits-ext (encode x) numbers images n fits eight x.size (encode y) (length-encode x l)
    (length-encode y m ∙ ap (λ (k : ℕ). 512 * k) same)
    (λ j h. block-encode y m (get_or numbers j 0) (omega (arith, fits.inside j h, length-encode x l, same))
    ∙ sym (named j h))
    (λ k h none.
    block-encode y m k (omega (arith, h, same))
    ∙ ap₂ (λ (i : ℕ) (b : List ℕ). sealed i k b) alike (rest k none)
    ∙ sym (block-encode x l k h)))
