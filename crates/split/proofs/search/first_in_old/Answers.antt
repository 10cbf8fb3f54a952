use Rattle.model.specs.Index.{old_bucket}
use Rattle.image.specs.Decode.{decode}
use Rattle.view.specs.Places.{find_at}
use Rattle.split.specs.SeekLaws.{searches-as}
use Rattle.split.specs.SpotLaws.{old-made, spot_on}
use Rattle.split.specs.OldChainLaws.{read-within, read-pages, read_short, read-entries, read_found}
use Rattle.split.proofs.search.first_in_old.Goals as goal

pub first_in_chain-requires-clause-within : goal.first_in_chain-requires-clause-within
first_in_chain-requires-clause-within g c =
    let r = c.requires.reads in
    let b = old_bucket (decode c.args.store.now) in
    let at = c.old_home.ensures in
    (read-within r b (old-made r) at, read-pages r b (old-made r) at, read_short r b (old-made r) at)

pub first_in_chain-requires-clause-spot_on : goal.first_in_chain-requires-clause-spot_on
first_in_chain-requires-clause-spot_on g c = spot_on c.requires.reads c.old_home.ensures c.requires.spot_in

pub returns-clause-searches : goal.returns-clause-searches
returns-clause-searches g c =
    let r = c.requires.reads in
    let b = old_bucket (decode c.args.store.now) in
    let at = c.old_home.ensures in
    searches-as _ (decode c.args.store.now) _ (find_at (decode c.args.store.now) b) c.args.from c.first_in_chain.result
    (read-entries r b (old-made r) at) (read_found r b (old-made r) at) c.first_in_chain.ensures.searches
