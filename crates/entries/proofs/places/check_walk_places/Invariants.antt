use Rattle.std.proofs.Common.{◌≡◌, Bool, drop}
use Rattle.lists.specs.Lists.{all, bind}
use Rattle.address.specs.Address.{bucket_of}
use Rattle.page.specs.declared.Entry.{Entry}
use Rattle.chain.specs.Within.{entries_on}
use Rattle.entries.specs.Tests.{stands_in}
use Rattle.entries.proofs.places.check_walk_places.Given as goal

abbrev pub invariant-loop-block : goal.invariant-loop-block
invariant-loop-block l =
    let may : Entry → Bool =
    λ e. stands_in l.bucket.phase (bucket_of l.bucket.max e.pair.hash) l.bucket.number in
    all may (bind (drop l.block-index l.walk) (entries_on l.store)) ≡ all may (bind l.walk (entries_on l.store))
