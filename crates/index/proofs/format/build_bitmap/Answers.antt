use Rattle.std.proofs.Common.{refl, ap, ◌∙◌, ◌++◌, List, ℕ, replicate}
use Rattle.std.proofs.Math.Seq.{sets}
use Rattle.store.specs.declared.Trailer.{Trailer}
use Rattle.store.specs.Store.{trailer, covered}
use Rattle.store.specs.Flags.{no_link}
use Rattle.index.proofs.Bodies.{covered-trailer}
use Rattle.index.proofs.format.build_bitmap.Goals as goal

pub returns : goal.returns
returns c =
    ap covered c.put_trailer.ensures
    ∙ ap (λ (t : Trailer). covered (sets (c.copy_from_slice.new.self ++ replicate 256 0) 492 (trailer t.prev t.next t.bucket t.flags))) c.no_links.ensures
    ∙ ap (λ (x : List ℕ). covered (sets (x ++ replicate 256 0) 492 (trailer no_link no_link no_link 4))) c.copy_from_slice.ensures.after
    ∙ covered-trailer (replicate 256 255 ++ replicate 236 0) (replicate 20 0) no_link no_link no_link 4 refl refl
