-- What is held, what a lookup matches, and the count of held pairs (docs/RULES.md 6.2, 6.5 and 6.6).
use Rattle.std.specs.Prelude.{Bool, true, false, not, ◌&&◌, List, [], ◌∷◌, ◌++◌, map, ℕ, suc, ◌*◌, eqb, ltb, ℤ, length}
use Rattle.std.proofs.Math.IntN.{sub_ℕ}
use Rattle.lists.specs.Lists.{any, keep, bind, up_from}
use Rattle.address.specs.Address.{bucket_of}
use Rattle.page.specs.declared.Pair.{Pair}
use Rattle.page.specs.declared.Entry.{Entry}
use Rattle.page.specs.Pair.{is, enter}
use Rattle.model.specs.Index.{Job, idle, copying, clearing, Index, entries_at, bucket, new_bucket, old_bucket}

-- "a pair is held if it stands in its bucket's chain; if that bucket is being populated, only unmoved entries there
-- count, together with the old bucket's chain": the entries among which a pair of bucket b is held
abbrev pub sources_in : Job → Index → ℕ → (populated : Bool) → List Entry
sources_in idle x b new = entries_at x b
sources_in clearing x b new = entries_at x b
sources_in copying x b true = keep (λ e. not e.moved) (entries_at x b) ++ entries_at x (old_bucket x)
sources_in copying x b false = entries_at x b

unfoldable pub sources : Index → (hash : ℕ) → List Entry
sources x h = let b = bucket_of x.max_bucket h in sources_in x.job x b (eqb b (new_bucket x))

unfoldable pub held : Index → Pair → Bool
held x p = any (is p) (sources x p.hash)

abbrev pub self : Pair → Pair
self p = p

abbrev pub sorted : List Pair → List Pair
sorted [] = []
sorted (p ∷ ps) = enter self p (sorted ps)

abbrev pub has_hash : (hash : ℕ) → Pair → Bool
has_hash h p = eqb p.hash h

-- the pairs held under a hash code, ascending
unfoldable pub matches : Index → (hash : ℕ) → List Pair
matches x h = sorted (keep (has_hash h) (map (λ (e : Entry). e.pair) (sources x h)))

-- whether an entry in the chain of bucket b is a held one, and no copy or rest of a split
abbrev pub lives_in : Job → Index → ℕ → Entry → Bool
lives_in idle x b e = true
lives_in copying x b e = not (eqb b (new_bucket x) && e.moved)
lives_in clearing x b e = eqb (bucket x e.pair) b

abbrev pub live : Index → List Entry
live x = bind (up_from 0 (length x.chains)) (λ b. keep (lives_in x.job x b) (entries_at x b))

-- "count of held pairs"
unfoldable pub count : Index → ℕ
count x = length (live x)

-- "the slack, fill × buckets − count"
unfoldable pub slack : Index → ℤ
slack x = sub_ℕ (x.fill * suc x.max_bucket) (count x)

-- a slack below zero "means that a split is wanted"
unfoldable pub wanted : Index → Bool
wanted x = ltb (x.fill * suc x.max_bucket) (count x)
