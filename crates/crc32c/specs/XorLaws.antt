-- Exclusive or is associative, two operands before a third change places, and an operand on both sides is cancelled.
use Rattle.std.specs.Prelude.{◌≡◌, refl, ℕ, zero, suc, ◌+◌, ◌*◌, ◌/◌, ◌%◌, ◌<◌}
use Rattle.std.proofs.Common.{sym, ap, ap₂, ◌∙◌, le_of_suc-le-suc, not-suc-le-zero, mod-lt, div-add-mod', lit<}
use Rattle.std.proofs.Math.Arith.{bin_ind}
use Rattle.std.specs.Int.Bits.{bit_xor, xor_self}
use Rattle.std.proofs.lemmas.Nat.{xor_comm, xor_shr, xor_mod}

-- of single binary digits
digit-swap : (x y z : ℕ) → x < 2 → y < 2 → bit_xor x (bit_xor y z) ≡ bit_xor y (bit_xor x z)
digit-swap zero y z hx hy = refl
digit-swap (suc zero) zero z hx hy = refl
digit-swap (suc zero) (suc zero) z hx hy = refl
digit-swap (suc zero) (suc (suc y)) z hx hy = absurd (not-suc-le-zero (le_of_suc-le-suc (le_of_suc-le-suc hy)))
digit-swap (suc (suc x)) y z hx hy = absurd (not-suc-le-zero (le_of_suc-le-suc (le_of_suc-le-suc hx)))

-- three operands by their halves and lowest digits
xor-halves : (a b c : ℕ)
    → bit_xor a (bit_xor b c) ≡ bit_xor (a / 2) (bit_xor (b / 2) (c / 2)) * 2 + bit_xor (a % 2) (bit_xor (b % 2) (c % 2))
xor-halves a b c =
    sym (div-add-mod' (bit_xor a (bit_xor b c)) 2)
    ∙ ap₂ (λ (x y : ℕ). x * 2 + y) (xor_shr a (bit_xor b c) 1) (xor_mod a (bit_xor b c) 1)
    ∙ ap₂ (λ (x y : ℕ). bit_xor (a / 2) x * 2 + bit_xor (a % 2) y) (xor_shr b c 1) (xor_mod b c 1)

pub xor-swap : (a b c : ℕ) → bit_xor a (bit_xor b c) ≡ bit_xor b (bit_xor a c)
xor-swap =
    bin_ind (λ (a : ℕ). (b c : ℕ) → bit_xor a (bit_xor b c) ≡ bit_xor b (bit_xor a c))
    (λ b c. refl)
    (λ a half b c.
    xor-halves a b c
    ∙ ap₂ (λ (x y : ℕ). x * 2 + y)
    (half (b / 2) (c / 2))
    (digit-swap (a % 2) (b % 2) (c % 2) (mod-lt a (lit< tt)) (mod-lt b (lit< tt)))
    ∙ sym (xor-halves b a c))

pub xor_assoc : (a b c : ℕ) → bit_xor (bit_xor a b) c ≡ bit_xor a (bit_xor b c)
xor_assoc a b c = xor_comm (bit_xor a b) c ∙ xor-swap c a b ∙ ap (bit_xor a) (xor_comm c b)

-- the same number twice goes out
xor-twice : (a b : ℕ) → bit_xor a (bit_xor a b) ≡ b
xor-twice a b = sym (xor_assoc a a b) ∙ ap (λ (x : ℕ). bit_xor x b) (xor_self a)

-- an operand on both sides is cancelled
pub xor-cancel-left : (a b c : ℕ) → bit_xor a b ≡ bit_xor a c → b ≡ c
xor-cancel-left a b c e = sym (xor-twice a b) ∙ ap (bit_xor a) e ∙ xor-twice a c

pub xor-cancel-right : (a b c : ℕ) → bit_xor b a ≡ bit_xor c a → b ≡ c
xor-cancel-right a b c e = xor-cancel-left a b c (xor_comm a b ∙ e ∙ xor_comm c a)
