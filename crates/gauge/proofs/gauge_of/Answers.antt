use Rattle.std.proofs.Common.{◌≡◌, ap, ap₂, ◌∙◌, ℕ, suc, ◌+◌, ◌*◌, add-one, arith}
use Rattle.image.specs.Decode.{decode}
use Rattle.view.specs.ReadsLaws.{reads-laid, reads-max, reads-count, reads-low}
use Rattle.gauge.specs.Gauge.{quotient, gauge_of}
use Rattle.gauge.specs.PagesLaws.{pages-some, pages-few}
use Rattle.gauge.proofs.gauge_of.Goals as goal

pub overflow_add-buckets : goal.overflow_add-buckets
overflow_add-buckets c = omega (arith, reads-low c.requires)

pub overflow_mul-room : goal.overflow_mul-room
overflow_mul-room c =
    let l = reads-laid c.requires in
    omega (arith, c.count_pages-room.ensures, pages-few (decode c.args.store.now) l, l.size)

pub divide-requires-2 : goal.divide-requires-2
divide-requires-2 c =
    omega (arith, c.count_pages-room.ensures, pages-some (decode c.args.store.now) (reads-laid c.requires))

pub returns : goal.returns
unfolding gauge_of
returns c =
    let n = reads-count c.requires in
    let b : c.args.m.max + 1 ≡ suc (decode c.args.store.now).max_bucket =
    add-one c.args.m.max ∙ ap suc (reads-max c.requires) in
    let p = ap (λ (k : ℕ). 40 * k) c.count_pages-room.ensures in
    let per-bucket = c.divide.ensures ∙ ap₂ quotient n b in
    let per-page = c.divide-2.ensures ∙ ap₂ quotient n p in
    λ i. record { per_bucket = per-bucket i; per_page = per-page i }
