-- An empty bucket page before an overflow page of 40 entries: a squeeze of budget 40 takes 40 steps, leaves one page,
-- and stops for its budget, which is tested first; a budget of 41 gets stop 9.
use Rattle.std.specs.Prelude.{◌≡◌, refl, false, [], ◌∷◌, map, ◌*◌, length}
use Rattle.lists.specs.Lists.{up_from}
use Rattle.model.specs.declared.Stop.{Stop}
use Rattle.model.specs.Index.{idle, Index, no_chain, chain}
use Rattle.model.specs.Squeeze.{mover, squeeze_step, squeeze, pages_of}
use Rattle.model.specs.Spare.{spare}

abbrev forty : Index
forty =
    record {
      size = 5;
      fill = 40;
      number = 0;
      max_bucket = 1;
      spares = 0 ∷ 2 ∷ [];
      job = idle;
      chains =
          record {
            first = [];
            more =
                record {
                  bit = 1;
                  entries =
                      map (λ n. record { pair = record { hash = 0; block = 0; offset = n }; moved = false })
                      (up_from 1 40);
                } ∷ [];
          } ∷ no_chain ∷ [];
    }

-- forty free places before its last page, for its one overflow page
pub forty-spare : spare (chain forty 0) ≡ 40 * length (chain forty 0).more
unfolding spare
forty-spare = refl

pub forty-steps : (squeeze 0 40 forty).steps ≡ 40
unfolding squeeze squeeze_step mover
forty-steps = refl

pub forty-stop : (squeeze 0 40 forty).stop ≡ Stop.Spent
unfolding squeeze squeeze_step mover
forty-stop = refl

pub forty-pages : pages_of (chain (squeeze 0 40 forty).state 0) ≡ 1
unfolding squeeze squeeze_step mover
forty-pages = refl

pub forty-more : (squeeze 0 41 forty).stop ≡ Stop.Idle
unfolding squeeze squeeze_step mover
forty-more = refl
