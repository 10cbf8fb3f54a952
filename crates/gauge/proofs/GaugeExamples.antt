-- The gauge computed: a quotient that binary64 has not exactly, and an index with 40 entries in two pages.
use Rattle.std.specs.Prelude.{◌≡◌, refl, false, List, [], ◌∷◌, map, ℕ, ◌+◌, ◌*◌, pos}
use Rattle.std.specs.Float.{fin, binary64}
use Rattle.std.specs.Float.Ieee.{round, of_bits}
use Rattle.lists.specs.Lists.{up_from}
use Rattle.page.specs.declared.Entry.{Entry}
use Rattle.model.specs.Index.{Index, idle}
use Rattle.model.specs.Held.{count}
use Rattle.gauge.specs.Gauge.{quotient, pages, gauge_of}
use Rattle.gauge.proofs.GaugeLaws.{half}

-- one third and two thirds: the nearest are the one below and the one above
third : quotient 1 3 ≡ of_bits binary64 0x3fd5555555555555
unfolding round of_bits
third = refl

two-thirds : quotient 2 3 ≡ of_bits binary64 0x3fe5555555555555
unfolding round of_bits
two-thirds = refl

-- twenty entries of bucket b, of two
unfoldable twenty : ℕ → List Entry
twenty b =
    map (λ k. record { pair = record { hash = b + 2 * k; block = k; offset = 1 }; moved = false }) (up_from 0 20)

unfoldable filled : Index
filled =
    record {
      size = 4;
      fill = 20;
      number = 0;
      max_bucket = 1;
      spares = 0 ∷ 1 ∷ [];
      job = idle;
      chains = record { first = twenty 0; more = [] } ∷ record { first = twenty 1; more = [] } ∷ [];
    }

-- twenty for each of two buckets, and half of the room of their two pages
filled-gauge : gauge_of filled ≡ record { per_bucket = fin false 5 (pos 2); per_page = half }
unfolding gauge_of count pages twenty filled round
filled-gauge = refl
