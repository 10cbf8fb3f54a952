-- How large the numbers of a well-formed index can be: all of them stay below the size, and the count below forty times it.
use Rattle.std.specs.Prelude.{◌≡◌, List, [], ◌∷◌, map, ℕ, suc, pred, ◌+◌, ◌*◌, ◌≤◌, ◌<◌, length, get_or}
use Rattle.std.proofs.Common.{ap, arith, length-append}
use Rattle.lists.specs.Lists.{keep, bind, up_from, Each}
use Rattle.address.specs.Address.{point, made}
use Rattle.address.specs.LimitLaws.{point-under}
use Rattle.address.specs.BlockLaws.{point-is}
use Rattle.page.specs.SublistLaws.{sublist-keep, length-sublist}
use Rattle.page.specs.declared.Entry.{Entry}
use Rattle.model.specs.Index.{Page, Chain, Index, on_pages, entries_in, no_chain, chain, entries_at, top_bit}
use Rattle.model.specs.Pages.{bits_of, bits_used}
use Rattle.model.specs.Held.{has_hash, matches, lives_in, count}
use Rattle.model.specs.WellFormed.{MoreOk, ChainOk, Laid, WF}
use Rattle.model.specs.TallyLaws.{length-range}
use Rattle.model.proofs.LaidLaws.{top_one}
use Rattle.model.proofs.MatchesLaws.{matches-is}
use Rattle.model.proofs.CountLaws.{held_pairs, held_pairs-ascending, held_pairs-has, count-is}

-- ---- the layout

module _ (x : Index) (l : Laid x) where
  -- buckets and overflow bits stand in made blocks
  pub laid-room : (x.max_bucket + top_bit x) + 2 ≤ x.size
  unfolding made
  laid-room = omega (arith, l.spares.room, (point-is x.max_bucket).over)

  pub laid-size : 4 ≤ x.size
  laid-size = omega (arith, laid-room, l.two, top_one x l)

  -- spares[0..s] are no more than 16
  pub laid-point : point x.max_bucket < 16
  laid-point = omega (arith, point-under x.spares (point x.max_bucket) x.size l.spares.room l.size)

  pub bits-le : suc (length (bits_used x)) ≤ top_bit x
  bits-le =
      omega (arith, top_one x l, length-range (pred (top_bit x)) 1 (bits_used x) l.once (λ n h. up n (l.made n h)))
    where
      up : (n : ℕ) → (1 ≤ n) × (n < top_bit x) → (1 ≤ n) × (n < 1 + pred (top_bit x))
      up n r = (r.0, omega (arith, r.1))

-- ---- the count

entries-le : (c : Chain) → ChainOk c → length (entries_in c) ≤ 40 * suc (length (bits_of c))
entries-le c o = simp length-append (omega (arith, o.first.full, go c.more o.more))
  where
    go : (gs : List Page) → Each MoreOk gs → length (on_pages gs) ≤ 40 * length (map (λ (g : Page). g.bit) gs)
    go [] h = omega arith
    go (g ∷ gs) h = simp length-append (omega (arith, h.0.page.full, go gs h.1))

chains-le : {A : Type 0} (cs : List Chain) (k : ℕ) (f : ℕ → List A)
    → ((i j : ℕ) → j ≡ k + i → length (f j) ≤ 40 * suc (length (bits_of (get_or cs i no_chain))))
    → length (bind (up_from k (length cs)) f) ≤ 40 * (length cs + length (bind cs bits_of))
chains-le [] k f h = omega arith
chains-le (c ∷ cs) k f h =
    simp length-append
    (omega (arith, h 0 k (omega arith), chains-le cs (suc k) f (λ i j e. h (suc i) j (omega arith))))

-- forty for each bucket page and each overflow page in a chain
pub count-pages : (x : Index) → WF x → count x ≤ 40 * (length x.chains + length (bits_used x))
unfolding count
count-pages x w = chains-le x.chains 0 part each
  where
    part : ℕ → List Entry
    part b = keep (lives_in x.job x b) (entries_at x b)

    each : (i j : ℕ) → j ≡ 0 + i → length (part j) ≤ 40 * suc (length (bits_of (chain x i)))
    each i j e =
        omega (
          arith,
          length-sublist (sublist-keep (lives_in x.job x j) (entries_at x j)),
          entries-le (chain x j) (w.laid.pages j),
          ap (λ (b : ℕ). length (bits_of (chain x b))) (let q : j ≡ i = omega arith in q),
        )

pub count-le : (x : Index) → WF x → count x + 80 ≤ 40 * x.size
count-le x w = omega (arith, count-pages x w, bits-le x w.laid, laid-room x w.laid, w.laid.whole)

-- no lookup matches more
pub matches-le : (x : Index) → WF x → (h : ℕ) → length (matches x h) ≤ count x
matches-le x w h =
    omega (
      arith,
      ap length (matches-is x w h (held_pairs x) (held_pairs-ascending x w) (held_pairs-has x w)),
      length-sublist (sublist-keep (has_hash h) (held_pairs x)),
      count-is x w (held_pairs x) (held_pairs-ascending x w) (held_pairs-has x w),
    )
