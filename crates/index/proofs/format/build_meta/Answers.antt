use Rattle.std.proofs.Common.{refl, ap, ◌∙◌, List, ℕ, replicate}
use lib.Seq.{sets}
use Rattle.endian.specs.Endian.{le16, le32}
use Rattle.store.specs.declared.Trailer.{Trailer}
use Rattle.store.specs.Store.{trailer, covered}
use Rattle.image.specs.Layout.{meta_front}
use Rattle.store.specs.Flags.{no_link}
use Rattle.outcomes.specs.Format.{format_meta}
use Rattle.index.proofs.Bodies.{covered-trailer}
use Rattle.index.proofs.format.build_meta.Goals as goal

pub returns : goal.returns
unfolding meta_front format_meta le16 le32
returns c =
    let a = c.args in
    ap covered c.put_trailer.ensures
    ∙ ap (λ (t : Trailer). covered (sets c.put_meta.new.part 492 (trailer t.prev t.next t.bucket t.flags))) c.no_links.ensures
    ∙ ap (λ (x : List ℕ). covered (sets x 492 (trailer no_link no_link no_link 8))) c.put_meta.ensures
    ∙ covered-trailer (format_meta a.size a.order) (replicate 20 0) no_link no_link no_link 8 refl refl
