-- The bytes that standing writes, one number after the other; a refused standing writes none.
use Rattle.std.specs.Prelude.{◌≡◌, refl, ◌≢◌, Bool, true, false, List, ◌++◌, ℕ, ◌/◌, ◌%◌, ◌≤◌, ltb, ℤ, pos, negsuc, length, drop}
use Rattle.std.specs.Prelude.{Ok, Err}
use Rattle.std.proofs.Common.{◌∙◌, of_z}
use Rattle.std.proofs.lemmas.List.Edits.{sets}
use Rattle.std.proofs.Math.Seq.{sets-eq}
use Rattle.std.specs.Int.{w64}
use Rattle.lists.specs.BytesLaws.{sets-append}
use Rattle.endian.specs.Endian.{le32}
use Rattle.model.specs.declared.Standing.{Standing}
use Rattle.model.specs.Answers.{StandingAnswer, phase_no, phase_old, phase_new}
use Rattle.outcomes.specs.Outcomes.{standing_outcome}
use Rattle.amiqsovik.specs.Result.{twos_complement, slack_bytes, standing_bytes, told_in, standing_told}

-- the machine's bits of an i64
pub twos_complement-bits : (z : ℤ) → twos_complement z ≡ of_z w64 z
twos_complement-bits (pos n) = refl
twos_complement-bits (negsuc n) = refl

-- the slack's two halves; l₁ and l₂ are the lists after each store
pub slack-stores : (l : List ℕ) (z : ℤ) {n : ℕ} {l₁ l₂ : List ℕ} → n ≡ twos_complement z
    → l₁ ≡ sets l 20 (le32 (n % 4294967296)) → l₂ ≡ sets l₁ 24 (le32 (n / 4294967296)) → l₂ ≡ sets l 20 (slack_bytes z)
unfolding slack_bytes le32
slack-stores l z e e₁ e₂ =
    let n = twos_complement z in
    e₂ ∙ rw (e₁, e) (sets-append (le32 (n % 4294967296)) (le32 (n / 4294967296)) l 20)

module _ (l : List ℕ) (s : Standing) (room : 28 ≤ length l) where
  sets-standing : sets (sets (sets (sets (sets (sets l 0 (le32 s.count)) 4 (le32 s.buckets))
      8 (le32 (phase_no s.phase))) 12 (le32 (phase_old s.phase))) 16 (le32 (phase_new s.phase)))
      20 (slack_bytes s.slack) ≡ standing_bytes s ++ drop 28 l
  unfolding standing_bytes slack_bytes le32
  sets-standing = sets-eq (standing_bytes s) l 0 room

  -- the lists after each of the six stores, the phase's three numbers, and the slack
  pub standing-stores : {l₁ l₂ l₃ l₄ l₅ l₆ : List ℕ} {n old new : ℕ} {z : ℤ} → l₁ ≡ sets l 0 (le32 s.count)
      → l₂ ≡ sets l₁ 4 (le32 s.buckets) → n ≡ phase_no s.phase → l₃ ≡ sets l₂ 8 (le32 n)
      → old ≡ phase_old s.phase → l₄ ≡ sets l₃ 12 (le32 old) → new ≡ phase_new s.phase → l₅ ≡ sets l₄ 16 (le32 new)
      → z ≡ s.slack → l₆ ≡ sets l₅ 20 (slack_bytes z) → l₆ ≡ standing_bytes s ++ drop 28 l
  standing-stores e₁ e₂ n e₃ old e₄ new e₅ z e₆ = e₆ ∙ rw (z, e₅, new, e₄, old, e₃, n, e₂, e₁) sets-standing

-- "Every refusal leaves store and output untouched": a word with another number than 0 is a refusal
pub standing-output : (s out : List ℕ) → (standing_told s out).word % 256 ≢ 0 → (standing_told s out).result ≡ out
unfolding standing_told
standing-output s out refused = go (ltb (length out) 28) (standing_outcome s) refused
  where
    go : (short : Bool) (a : StandingAnswer) → (told_in short a out).word % 256 ≢ 0 → (told_in short a out).result ≡ out
    go true a n = refl
    go false (Ok x) n = absurd (n refl)
    go false (Err r) n = refl
