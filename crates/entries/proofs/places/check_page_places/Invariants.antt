use Rattle.std.proofs.Common.{◌≡◌}
use Rattle.lists.specs.Lists.{all}
use Rattle.address.specs.Address.{bucket_of}
use Rattle.page.specs.Entries.{entries_of}
use Rattle.shape.specs.LoopLaws.{rest}
use Rattle.entries.specs.Tests.{stands_in}
use Rattle.entries.proofs.places.check_page_places.Given as goal

abbrev pub invariant-loop-i : goal.invariant-loop-i
invariant-loop-i l =
    all (λ e. stands_in l.bucket.phase (bucket_of l.bucket.max e.pair.hash) l.bucket.number) (rest l.page l.i)
    ≡ all (λ e. stands_in l.bucket.phase (bucket_of l.bucket.max e.pair.hash) l.bucket.number) (entries_of l.page)
