-- Pairs and their order. docs/RULES.md 1.2: "An entry is a pair: a 32-bit hash code and a reading's place (block
-- number, 32 bits; offset, 16 bits)."
use Rattle.std.specs.Prelude.{Bool, true, cond, ◌&&◌, ◌||◌, List, [], ◌∷◌, ◌^◌, ◌<◌, eqb, ltb}
use Rattle.page.specs.declared.Pair.{Pair}
use Rattle.page.specs.declared.Entry.{Entry}

abbrev pub same : Pair → Pair → Bool
same p q = eqb p.hash q.hash && (eqb p.block q.block && eqb p.offset q.offset)

-- "ascending by hash, then block, then offset"
abbrev pub before : Pair → Pair → Bool
before p q =
    ltb p.hash q.hash || (eqb p.hash q.hash
    && (ltb p.block q.block || (eqb p.block q.block && ltb p.offset q.offset)))

-- "No entry has offset 0 or reading block 4294967295."
abbrev pub bad_pair : Pair → Bool
bad_pair p = eqb p.offset 0 || eqb p.block 4294967295

-- an entry's pair, by which entries are ordered
abbrev pub pair_of : Entry → Pair
pair_of e = e.pair

-- the entry has the pair
abbrev pub is : Pair → Entry → Bool
is p e = same p e.pair

-- the fields are in their widths
pub record PairFits (p : Pair) : Type 0 where
  pub hash : p.hash < 2 ^ 32
  pub block : p.block < 2 ^ 32
  pub offset : p.offset < 2 ^ 16

module _ {A : Type 0} (key : A → Pair) where
  -- the value x at its sorted place in a list that ascends by its pairs
  abbrev pub enter : A → List A → List A
  enter x [] = x ∷ []
  enter x (y ∷ ys) = cond (before (key y) (key x)) (y ∷ enter x ys) (x ∷ y ∷ ys)

  -- strictly ascending: each stands before the next
  abbrev pub ascending : List A → Bool
  ascending [] = true
  ascending (x ∷ []) = true
  ascending (x ∷ y ∷ ys) = before (key x) (key y) && ascending (y ∷ ys)
