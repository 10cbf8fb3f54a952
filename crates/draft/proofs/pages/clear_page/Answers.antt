use Rattle.std.proofs.Common.{◌≡◌, ◌∙◌, sym, ap, ℕ, List, ◌++◌, length, take, drop, replicate, arith, rules}
use lib.Seq.{sets, length-take-le}
use Rattle.lists.specs.ZeroLaws.{zeros-front}
use Rattle.store.specs.Store.{trailer}
use Rattle.store.specs.TrailerLaws.{length-trailer}
use Rattle.draft.proofs.Clearing.{empty-page, filled-front}
use Rattle.draft.proofs.pages.clear_page.Goals as goal

pub slice_bounds-fill-end-2 : goal.slice_bounds-fill-end-2
slice_bounds-fill-end-2 c = sym (length-take-le 492 c.args.part.now (omega arith))

pub returns : goal.returns
returns c =
    let t = c.args.t in
    let part = c.args.part.now in
    let end = trailer t.prev t.next t.bucket t.flags in
    c.put_trailer.ensures
    ∙ ap (λ (x : List ℕ). sets x 492 end)
    (filled-front part c.fill.new.self 492 (omega arith) (c.fill.ensures.after (search rules))
    ∙ sym (zeros-front part 492 (omega arith)))
    ∙ empty-page part end c.requires (length-trailer t.prev t.next t.bucket t.flags)
