-- What a removal comes to, by where the pair is held.
use Rattle.std.specs.Prelude.{◌≡◌, ◌≢◌, Bool, List, ℕ, ◌-◌, ◌≤◌, Some, None, Ok, Err}
use Rattle.std.proofs.Math.Path.{refl, sym, ap, ap₂, subst₂}
use Rattle.std.proofs.Common.{◌∙◌, subst, arith}
use Rattle.std.proofs.Math.Bool.{true, false}
use Rattle.std.proofs.Math.Dec.{eqb}
use Rattle.lists.specs.ListsLaws.{eqb-eq}
use Rattle.page.specs.declared.Pair.{Pair}
use Rattle.store.specs.declared.Change.{Change}
use Rattle.model.specs.declared.Refusal.{Refusal}
use Rattle.model.specs.Answers.{Answer}
use Rattle.model.specs.Index.{Job, idle, copying, clearing, Index, bucket, new_bucket, old_bucket}
use Rattle.model.specs.Pages.{cut}
use Rattle.model.specs.Held.{held, count}
use Rattle.model.specs.Calls.{pair_ok, Result, done, cut_held, remove_in, remove}
use Rattle.model.specs.WellFormed.{WF}
use Rattle.model.proofs.HeldLaws.{old-new}
use Rattle.model.proofs.RemoveLaws.{remove-wf}
use Rattle.model.proofs.MachineLaws.{never}
use Rattle.image.specs.declared.Meta.{Meta}
use Rattle.image.specs.Decode.{decode}
use Rattle.frame.specs.MetaLaws.{remove-count}
use Rattle.chain.specs.declared.Found.{Found}
use Rattle.view.specs.declared.Sources.{Sources}
use Rattle.view.specs.Reads.{Reads}
use Rattle.view.specs.ReadsLaws.{reads-laid, reads-count}
use Rattle.view.specs.Places.{sources_by, sources_of, held_at}
use Rattle.view.specs.SourcesLaws.{sources-both}
use Rattle.view.specs.HeldLaws.{held_at-none, held_at-some}
use Rattle.plan.specs.Plan.{Plans, Settles, accepted, declined}

module _ (x : Index) (p : Pair) where
  -- the index without the pair, by the chains among which it is held
  cut-home : (b : ℕ) → sources_of x p.hash ≡ Sources.Home b
      → cut_held x.job x p (eqb (bucket x p) (new_bucket x)) ≡ cut p b x
  unfolding sources_of
  cut-home b e = go x.job (eqb (bucket x p) (new_bucket x)) e
    where
      go : (j : Job) (t : Bool) → sources_by j (old_bucket x) (bucket x p) t ≡ Sources.Home b
          → cut_held j x p t ≡ cut p b x
      go idle t e = let q : bucket x p ≡ b = cc in ap (λ (a : ℕ). cut p a x) q
      go clearing t e = let q : bucket x p ≡ b = cc in ap (λ (a : ℕ). cut p a x) q
      go copying true e = never (cc)
      go copying false e = let q : bucket x p ≡ b = cc in ap (λ (a : ℕ). cut p a x) q

  cut-both : (new old : ℕ) → sources_of x p.hash ≡ Sources.Both new old
      → cut_held x.job x p (eqb (bucket x p) (new_bucket x)) ≡ cut p new (cut p old x)
  unfolding sources_of
  cut-both new old e = go x.job (eqb (bucket x p) (new_bucket x)) refl e
    where
      go : (j : Job) (t : Bool) → eqb (bucket x p) (new_bucket x) ≡ t
          → sources_by j (old_bucket x) (bucket x p) t ≡ Sources.Both new old → cut_held j x p t ≡ cut p new (cut p old x)
      go idle t q e = never (cc)
      go clearing t q e = never (cc)
      go copying false q e = never (cc)
      go copying true q e =
          let a : new_bucket x ≡ new = sym (eqb-eq (bucket x p) (new_bucket x) q) ∙ (cc) in
          let b : old_bucket x ≡ old = cc in
          λ i. cut p (a i) (cut p (b i) x)

module _ {s : List ℕ} {m : Meta} (r : Reads s m) (p : Pair) (ok : pair_ok p ≡ true) where
  abbrev x : Index
  x = decode s

  removed : held (decode s) p ≡ true
      → remove (decode s) p
      ≡ done (cut_held (decode s).job (decode s) p (eqb (bucket (decode s) p) (new_bucket (decode s))))
  unfolding remove
  removed h = ap₂ (λ (a b : Bool). remove_in a b x p) ok h

  pub refused_none : {c : Change} {images : List ℕ} {a : Answer} → held_at (decode s) p ≡ None
      → a ≡ Err Refusal.NotHeld → c.count ≡ 0 → Settles s c images (remove (decode s) p) a
  unfolding remove
  refused_none {c} {images} h e z =
      subst₂ (Settles s c images)
      (sym (ap₂ (λ (a b : Bool). remove_in a b x p) ok (held_at-none x r.wf p h))) (sym e) (declined z)

  -- ---- it is done

  module _ (y : Index) (e : remove (decode s) p ≡ done y) where
    pub done-wf : WF y
    done-wf = remove-wf x p y r.wf e

    pub done-count : count y ≡ m.count - 1
    done-count = omega (arith, remove-count x r.wf p y e, reads-count r)

    pub done-some : 1 ≤ m.count
    done-some = omega (arith, remove-count x r.wf p y e, reads-count r)

    pub settled : {c : Change} {images : List ℕ} → Plans s c images y
        → Settles s c images (remove (decode s) p) (Ok tt)
    settled {c} {images} g = subst (λ (t : Result). Settles s c images t (Ok tt)) (sym e) (accepted g)

  module _ (f : Found) (found : held_at (decode s) p ≡ Some f) where
    pub done-any : remove (decode s) p
        ≡ done (cut_held (decode s).job (decode s) p (eqb (bucket (decode s) p) (new_bucket (decode s))))
    done-any = removed (held_at-some x r.wf p f found)

    pub done-home : (b : ℕ) → sources_of (decode s) p.hash ≡ Sources.Home b
        → remove (decode s) p ≡ done (cut p b (decode s))
    done-home b e = done-any ∙ ap done (cut-home x p b e)

    pub done-both : (new old : ℕ) → sources_of (decode s) p.hash ≡ Sources.Both new old
        → remove (decode s) p ≡ done (cut p new (cut p old (decode s)))
    done-both new old e = done-any ∙ ap done (cut-both x p new old e)

  pub both-apart : (new old : ℕ) → sources_of (decode s) p.hash ≡ Sources.Both new old → new ≢ old
  both-apart new old e q =
      let i = sources-both x p.hash new old e in
      old-new x (reads-laid r) (sym i.old ∙ sym q ∙ i.new)
