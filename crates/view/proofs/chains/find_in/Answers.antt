use Rattle.std.proofs.Common.{List, ap, ℕ, ◌∙◌}
use Rattle.chain.specs.WithinLaws.{zero_room}
use Rattle.chain.specs.Search.{find_in}
use Rattle.view.specs.ReadsLaws.{reads_known}
use Rattle.view.specs.ChainLaws.{walks-blocks, walks-within, walks-pages}
use Rattle.view.specs.PlacesLaws.{find-read}
use Rattle.view.proofs.chains.find_in.Goals as goal

pub walk_bucket-count-requires : goal.walk_bucket-count-requires
walk_bucket-count-requires c = (reads_known c.requires.0, c.requires.1, zero_room c.zero_walk-blocks.ensures)

pub find_pair-requires : goal.find_pair-requires
find_pair-requires c =
    let h = c.walk_bucket-count.ensures in
    (walks-within c.requires.0 c.args.b c.requires.1 h, walks-pages c.requires.0 c.args.b c.requires.1 h)

pub returns : goal.returns
returns c =
    c.find_pair.ensures
    ∙ ap (λ (ks : List ℕ). find_in c.args.store.now ks c.args.pair)
    (walks-blocks c.requires.0 c.args.b c.requires.1 c.walk_bucket-count.ensures)
    ∙ find-read c.requires.0 c.args.b c.requires.1 c.args.pair
