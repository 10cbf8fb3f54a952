use Rattle.std.proofs.Common.{sym, subst}
use Rattle.model.specs.Index.{old_bucket}
use Rattle.image.specs.Decode.{decode}
use Rattle.chain.specs.Walk.{walk}
use Rattle.split.specs.declared.Spot.{Spot}
use Rattle.split.specs.Spot.{SpotOn}
use Rattle.split.specs.SpotLaws.{old-made, spot_in, spot_known}
use Rattle.split.specs.OldChainLaws.{read-within, read-pages, read_short}
use Rattle.split.proofs.cursor.find_spot.Goals as goal

pub skip_pages-requires-clause-within : goal.skip_pages-requires-clause-within
skip_pages-requires-clause-within c =
    let r = c.requires.reads in
    let b = old_bucket (decode c.args.store.now) in
    let at = c.old_home-first.ensures in
    (read-within r b (old-made r) at, read-pages r b (old-made r) at, read_short r b (old-made r) at)

pub skip_pages-requires-clause-spot_on : goal.skip_pages-requires-clause-spot_on
skip_pages-requires-clause-spot_on c =
    let a = c.args in
    subst (λ (g : Spot). SpotOn a.store.now (walk a.store.now c.old_home-first.result) g a.from.place)
    (sym c.unwrap_or-spot.ensures)
    (spot_known c.requires.reads c.old_home-first.ensures a.from.page a.from.place c.requires.spot_in)

pub returns : goal.returns
returns c = spot_in c.requires.reads c.old_home-first.ensures c.skip_pages.ensures
