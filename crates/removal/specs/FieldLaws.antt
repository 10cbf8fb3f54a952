-- The meta block's fields of a store that is read as an index: what addresses rest on.
use Rattle.std.specs.Prelude.{◌≡◌, List, ℕ, suc}
use Rattle.std.proofs.Common.{sym, ◌∙◌, subst, arith}
use Rattle.std.proofs.Math.Path.{ap}
use Rattle.std.proofs.Math.ListN.{take}
use Rattle.address.specs.Address.{point}
use Rattle.address.specs.Role.{SparesOk, role_of}
use Rattle.address.specs.AgreeLaws.{role_same, spares-wider}
use Rattle.address.specs.Limits.{max_blocks}
use Rattle.model.proofs.BoundLaws.{laid-point}
use Rattle.image.specs.declared.Meta.{Meta}
use Rattle.image.specs.Decode.{point_at, decode}
use Rattle.view.specs.Reads.{Reads}
use Rattle.view.specs.ReadsLaws.{reads-laid, reads-max}
use Rattle.meta.specs.Addressed.{Addressed}
use Rattle.plan.specs.FieldLaws.{read-point, read-spare}

module _ {s : List ℕ} {m : Meta} (r : Reads s m) where
  spares-are : take (suc (point (decode s).max_bucket)) m.spares ≡ (decode s).spares
  unfolding decode
  spares-are = ap (λ (n : Meta). take (suc (point_at s)) n.spares) r.meta

  pub reads-addressed : Addressed max_blocks m
  reads-addressed =
      let l = reads-laid r in
      record {
        two = omega (arith, reads-max r, l.two);
        point = read-point r ∙ ap point (sym (reads-max r));
        low = omega (arith, read-point r, laid-point (decode s) l);
        spares =
            spares-wider (take (suc m.point) m.spares) m.point (decode s).size max_blocks l.size
            (subst (λ (i : ℕ). SparesOk (take (suc i) m.spares) i (decode s).size) (sym (read-point r))
            (subst (λ (sp : List ℕ). SparesOk sp (point (decode s).max_bucket) (decode s).size) (sym spares-are)
            l.spares));
      }

  -- blocks by these fields
  pub role-read : (k : ℕ) → role_of m.spares m.point k ≡ role_of (decode s).spares (point (decode s).max_bucket) k
  role-read k =
      role_same m.spares (decode s).spares m.point (read-spare r) k
      ∙ ap (λ (i : ℕ). role_of (decode s).spares i k) (read-point r)
