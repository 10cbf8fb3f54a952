-- The calls on an index but squeeze (docs/RULES.md 6), with their numbers as u32 and their answers.
use Rattle.std.specs.Prelude.{Bool, true, false, not, ◌&&◌, List, [], ◌∷◌, ◌++◌, ℕ, suc, ◌*◌, ◌/◌, leb, eqb, length, drop}
use Rattle.std.specs.Prelude.{Ok, Err}
use Rattle.std.proofs.Math.Option.{Option, none, some}
use Rattle.lists.specs.Lists.{bind}
use Rattle.endian.specs.Endian.{le16, le32}
use Rattle.address.specs.Limits.{max_blocks}
use Rattle.page.specs.declared.Pair.{Pair}
use Rattle.page.specs.Pair.{bad_pair}
use Rattle.model.specs.declared.Order.{Order}
use Rattle.model.specs.declared.Refusal.{Refusal}
use Rattle.model.specs.Answers.{LookupAnswer}
use Rattle.model.specs.declared.Phase.{Phase}
use Rattle.model.specs.declared.Standing.{Standing}
use Rattle.model.specs.Index.{Job, idle, copying, clearing, Index, no_chain, bucket, new_bucket, old_bucket}
use Rattle.model.specs.Pages.{put, cut}
use Rattle.model.specs.Held.{held, matches, count, slack}
use Rattle.model.specs.Steps.{Worked, step, iterate}

-- ---- refusals 1, 2 and 12

-- "N outside 4..1024"
abbrev pub size_ok : ℕ → Bool
size_ok n = leb 4 n && leb n max_blocks

-- "fill outside 1..40"
abbrev pub fill_ok : ℕ → Bool
fill_ok fill = leb 1 fill && leb fill 40

-- a fill, a store number and whether to overwrite, as format takes them
abbrev pub order_of : (fill number overwrite : ℕ) → Order
order_of fill number overwrite = record { fill = fill; number = number; overwrite = overwrite }

-- the numbers of a format; overwrite is "0 or 1", and any store number is good
abbrev pub format_ok : Order → Bool
format_ok o = fill_ok o.fill && leb o.overwrite 1

-- "its count isn't 0"
abbrev pub in_use : Index → Bool
in_use x = not (eqb (count x) 0)

-- "unless it is told to overwrite"
abbrev pub overwrites : Order → Bool
overwrites o = eqb o.overwrite 1

-- "offset 0; reading block 4294967295": an offset is a 16-bit number, so a larger one is outside its field
abbrev pub pair_ok : Pair → Bool
pair_ok p = not (bad_pair p) && leb p.offset 65535

-- "budget above 65,535"
abbrev pub budget_ok : ℕ → Bool
budget_ok budget = leb budget 65535

-- ---- format, insert, remove

-- "meta, buckets 0 and 1 .., spares[1] = 1, .. no entries"
unfoldable pub format : (size : ℕ) → Order → Index
format n o =
    record {
      size = n;
      fill = o.fill;
      number = o.number;
      max_bucket = 1;
      spares = 0 ∷ 1 ∷ [];
      job = idle;
      chains = no_chain ∷ no_chain ∷ [];
    }

-- An index afterwards, or a refusal.
pub data Result : Type 0 where
  done : Index → Result
  refused : Refusal → Result

abbrev pub or_no_room : Option Index → Result
or_no_room (some y) = done y
or_no_room none = refused Refusal.NoRoom

-- "Order for format: 1, 2, 12."
abbrev pub format_in : (length numbers protected : Bool) → Index → Result
format_in false n p y = refused Refusal.Length
format_in true false p y = refused Refusal.Number
format_in true true true y = refused Refusal.InUse
format_in true true false y = done y

unfoldable pub formatted : Index → Order → Result
formatted x o = format_in (size_ok x.size) (format_ok o) (not (overwrites o) && in_use x) (format x.size o)

abbrev pub insert_in : (numbers holds : Bool) → Index → Pair → Result
insert_in false h x p = refused Refusal.Number
insert_in true true x p = refused Refusal.HeldAlready
insert_in true false x p = or_no_room (put x (bucket x p) (record { pair = p; moved = false }))

unfoldable pub insert : Index → Pair → Result
insert x p = insert_in (pair_ok p) (held x p) x p

-- "takes the held entry away and, while copying, its moved copy too"
abbrev pub cut_held : Job → Index → Pair → (populated : Bool) → Index
cut_held idle x p new = cut p (bucket x p) x
cut_held clearing x p new = cut p (bucket x p) x
cut_held copying x p true = cut p (new_bucket x) (cut p (old_bucket x) x)
cut_held copying x p false = cut p (bucket x p) x

abbrev pub remove_in : (numbers holds : Bool) → Index → Pair → Result
remove_in false h x p = refused Refusal.Number
remove_in true false x p = refused Refusal.NotHeld
remove_in true true x p = done (cut_held x.job x p (eqb (bucket x p) (new_bucket x)))

unfoldable pub remove : Index → Pair → Result
remove x p = remove_in (pair_ok p) (held x p) x p

-- ---- lookup

-- "6 bytes a match (reading block, offset)"
abbrev pub place_bytes : Pair → List ℕ
place_bytes p = le32 p.block ++ le16 p.offset

-- A lookup's answer and the output afterwards.
pub record Looked : Type 0 where
  pub answer : LookupAnswer
  pub output : List ℕ

-- "ascending; later output bytes stay"; 8 where "output length / 6, rounded down, is below the number of matches"
abbrev pub listed : (room : Bool) → List Pair → List ℕ → Looked
listed true ps out =
    record { answer = Ok (length ps); output = bind ps place_bytes ++ drop (6 * length ps) out }
listed false ps out = record { answer = Err (Refusal.OutputShort (length ps)); output = out }

unfoldable pub lookup : Index → (hash : ℕ) → (output : List ℕ) → Looked
lookup x h out = let ps = matches x h in listed (leb (length ps) (length out / 6)) ps out

-- ---- standing and work

abbrev pub phase_in : Job → (old new : ℕ) → Phase
phase_in idle old new = Phase.None
phase_in copying old new = Phase.Copying old new
phase_in clearing old new = Phase.Clearing old new

-- "count, buckets, the job's phase with its two bucket numbers, and the slack"
unfoldable pub standing : Index → Standing
standing x =
    record {
      count = count x;
      buckets = suc x.max_bucket;
      phase = phase_in x.job (old_bucket x) (new_bucket x);
      slack = slack x;
    }

unfoldable pub work : (budget : ℕ) → Index → Worked Index
work = iterate step
