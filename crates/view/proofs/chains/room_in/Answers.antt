use Rattle.std.proofs.Common.{ap, subst, sym, ℕ, ◌∙◌}
use Rattle.chain.specs.Walk.{walk, Bounded}
use Rattle.chain.specs.Search.{room_in}
use Rattle.reader.specs.KnownLaws.{known-addressed, bucket-is}
use Rattle.view.specs.ReadsLaws.{reads_known}
use Rattle.view.specs.ChainLaws.{under-max, walk-read, walk-bounded}
use Rattle.view.specs.PlacesLaws.{room-read}
use Rattle.view.proofs.chains.room_in.Goals as goal

pub home_of-requires : goal.home_of-requires
home_of-requires c = (known-addressed (reads_known c.requires.0), c.requires.1)

pub first_room-requires : goal.first_room-requires
first_room-requires c =
    let r = c.requires.0 in
    let home = c.home_of.ensures ∙ bucket-is (reads_known r) c.args.b (under-max r c.args.b c.requires.1) in
    subst (Bounded c.args.store.now) (sym home) (walk-bounded r c.args.b c.requires.1)

pub returns : goal.returns
returns c =
    let s = c.args.store.now in
    let r = c.requires.0 in
    let home = c.home_of.ensures ∙ bucket-is (reads_known r) c.args.b (under-max r c.args.b c.requires.1) in
    c.first_room.ensures
    ∙ ap (λ (k : ℕ). room_in s (walk s k)) home
    ∙ ap (room_in s) (walk-read r c.args.b c.requires.1)
    ∙ room-read r c.args.b c.requires.1
