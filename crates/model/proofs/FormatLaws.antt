-- What the tests of a format let through. A formatted index is well-formed and holds no pair.
use Rattle.std.specs.Prelude.{◌≡◌, Bool, true, not, ◌&&◌, [], ◌∷◌, leb}
use Rattle.std.proofs.Math.Path.{refl}
use Rattle.std.proofs.Common.{ap, ap₂, ◌∙◌, arith}
use Rattle.std.proofs.Math.Bool.{false}
use Prim.Native.Nat.{ℕ, zero, suc, ◌+◌, ◌≤◌}
use borrow.Author.Tests.{leb-true, lt-leb}
use Rattle.lists.specs.ListsLaws.{and_left, and_right, and-false}
use Rattle.address.specs.Address.{point}
use Rattle.address.specs.Role.{SparesOk}
use Rattle.address.specs.AgreeLaws.{spares-wider}
use Rattle.address.specs.FormatLaws.{point-first, spares-first}
use Rattle.page.specs.declared.Pair.{Pair}
use Rattle.model.specs.declared.Order.{Order}
use Rattle.model.specs.declared.Refusal.{Refusal}
use Rattle.model.specs.Index.{Index, no_chain, chain, bucket}
use Rattle.model.specs.Held.{held, count}
use Rattle.model.specs.Calls.{size_ok, fill_ok, format_ok, in_use, overwrites, format, refused, format_in, formatted}
use Rattle.model.specs.Machine.{formatting, CallFits}
use Rattle.address.specs.Limits.{max_blocks}
use Rattle.model.specs.WellFormed.{unmoved_at, moved_at, PlacedIn, Laid, WF}
use Rattle.model.specs.HeldIn.{held_in}
use Rattle.model.specs.PlacedLaws.{idle-copying}
use Rattle.model.specs.ChainOkLaws.{no_chain-ok}
use Rattle.model.proofs.HeldLaws.{held-is}

-- ---- the tests

-- what the test of a format's numbers lets through
pub fill-ok : (o : Order) → format_ok o ≡ true → fill_ok o.fill ≡ true
fill-ok o h = and_left (fill_ok o.fill) (leb o.overwrite 1) h

pub fill-high : (o : Order) → format_ok o ≡ true → o.fill ≤ 40
fill-high o h = leb-true o.fill 40 (and_right (leb 1 o.fill) (leb o.fill 40) (fill-ok o h))

pub overwrite-ok : (o : Order) → format_ok o ≡ true → o.overwrite ≤ 1
overwrite-ok o h = leb-true o.overwrite 1 (and_right (fill_ok o.fill) (leb o.overwrite 1) h)

-- "anything else gets 2", whatever the index holds
pub overwrite-wrong : (x : Index) (o : Order) → size_ok x.size ≡ true → 2 ≤ o.overwrite
    → formatted x o ≡ refused Refusal.Number
unfolding formatted
overwrite-wrong x o so h =
    let no : format_ok o ≡ false =
    ap (λ (b : Bool). fill_ok o.fill && b) (lt-leb o.overwrite 1 (omega arith)) ∙ and-false (fill_ok o.fill) in
    ap₂ (λ (s f : Bool). format_in s f (not (overwrites o) && in_use x) (format x.size o)) so no

-- a formatted index is not in use
pub format-free : (n : ℕ) (o : Order) → (not (overwrites o) && in_use (format n o)) ≡ false
unfolding format count
format-free n o = and-false (not (overwrites o))

-- ---- what it makes

module _ (n : ℕ) (o : Order) (fits : CallFits (formatting o)) (so : size_ok n ≡ true) (oo : format_ok o ≡ true) where
  format-spares : SparesOk (0 ∷ 1 ∷ []) (point 1) n
  format-spares =
      rw point-first
      (spares-wider (0 ∷ 1 ∷ []) 1 4 n (leb-true 4 n (and_left (leb 4 n) (leb n max_blocks) so)) spares-first)

  format-chain : (b : ℕ) → chain (format n o) b ≡ no_chain
  unfolding format
  format-chain zero = refl
  format-chain (suc zero) = refl
  format-chain (suc (suc b)) = refl

  format-laid : Laid (format n o)
  unfolding format
  format-laid =
      record {
        number = fits.1;
        size = leb-true n max_blocks (and_right (leb 4 n) (leb n max_blocks) so);
        fill_low = leb-true 1 o.fill (and_left (leb 1 o.fill) (leb o.fill 40) (fill-ok o oo));
        fill_high = fill-high o oo;
        two = omega arith;
        spares = format-spares;
        whole = refl;
        once = λ k. omega arith;
        made = λ k l. absurd (omega arith);
        pages = λ b. rw (format-chain b) no_chain-ok;
      }

  format-stands : (p : Pair) (b : ℕ) → unmoved_at (format n o) p b + moved_at (format n o) p b ≡ 0
  format-stands p b = rw (format-chain b)

  pub format-wf : WF (format n o)
  unfolding format
  format-wf = record { laid = format-laid; placed = placed }
    where
      placed : (p : Pair) → PlacedIn (format n o) p
      placed p =
          record {
            once = λ b. omega (arith, format-stands p b);
            home = λ b l f. absurd (omega (arith, format-stands p b));
            copied = λ c. absurd (idle-copying c);
            fresh = λ c. absurd (idle-copying c);
          }

  pub format-held : (p : Pair) → held (format n o) p ≡ false
  unfolding held_in format
  format-held p = held-is (format n o) format-wf p false (format-stands p (bucket (format n o) p))
