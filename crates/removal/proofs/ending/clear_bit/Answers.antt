use Rattle.std.proofs.Common.{subst}
use Rattle.removal.specs.Freeing.{Below}
use Rattle.removal.proofs.Clearing.{map-ready, cleared-none, cleared-some}
use Rattle.removal.proofs.ending.clear_bit.Goals as goal

pub returns-in_default : goal.returns-in_default
returns-in_default c d bit a = cleared-none a c.args.freed c.in_default.is

pub put_bit-requires : goal.put_bit-requires
put_bit-requires c =
    let a = c.requires.by_index in
    record { by_index = (a.0, map-ready a.2); n_bound = subst Below c.in-Some.is c.requires.below }

pub returns : goal.returns
returns c d bit a =
    cleared-some a c.in-Some.n (subst Below c.in-Some.is c.requires.below) c.put_bit.ensures c.args.freed c.in-Some.is
