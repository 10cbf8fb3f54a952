-- The blocks that the end of copying and the end of clearing alter: flags of bucket pages.
use Rattle.std.specs.Prelude.{◌≡◌, ◌≢◌, [], ℕ, zero, suc, ◌≤◌, leb}
use Rattle.std.proofs.Math.Path.{refl, ap}
use Rattle.std.proofs.Common.{sym, ◌∙◌, arith}
use Rattle.std.proofs.Math.Bool.{cond}
use Rattle.lists.specs.ListsLaws.{eqb_yes, eqb_no}
use Rattle.address.specs.Address.{last_split, point, bucket_block}
use Rattle.address.specs.Role.{Role, meta, bucket_page, bit_page, unmade, role_of, RoleIs}
use Rattle.address.specs.BlockLaws.{point-pos}
use Rattle.address.specs.RoleLaws.{role-is}
use Rattle.page.specs.Entries.{encode_page}
use Rattle.model.specs.Index.{Job, idle, copying, clearing, Index, chain, new_bucket, old_bucket, set_job}
use Rattle.model.specs.WellFormed.{Laid}
use Rattle.model.proofs.HeldLaws.{old-new}
use Rattle.model.proofs.LaidLaws.{job-laid}
use Rattle.image.specs.Layout.{paged, blank, flags_in, flags_of, next_of, bucket_image, image, encode_block}
use Rattle.frame.specs.Frame.{Apart, page_block, page_with, copied_blocks, cleared_blocks}
use Rattle.frame.specs.ImagesLaws.{page-image}

-- buckets that have no part in the job
pub flags-else : (j : Job) (new old d : ℕ) → d ≢ new → d ≢ old → flags_in j new old d ≡ 2
flags-else idle new old d p q = refl
flags-else copying new old d p q = rw (eqb_no d new p, eqb_no d old q)
flags-else clearing new old d p q = rw (eqb_no d old q)

module _ (x : Index) (l : Laid x) where
  frame-job : (j : Job) (k : ℕ) → k ≢ 0
      → ((d : ℕ) → bucket_block x.spares d ≡ k
      → flags_in j (new_bucket x) (old_bucket x) d ≡ flags_in x.job (new_bucket x) (old_bucket x) d)
      → encode_block (set_job x j) k ≡ encode_block x k
  unfolding encode_block image bucket_image flags_of
  frame-job j k nz f =
      go (role_of x.spares (point x.max_bucket) k)
      (role-is x.spares (point x.max_bucket) x.size l.spares (point-pos x.max_bucket) k)
    where
      go : (r : Role) → RoleIs x.spares (point x.max_bucket) k r → image (set_job x j) r ≡ image x r
      go meta i = absurd (nz i)
      go (bucket_page d) i =
          ap (λ (n : ℕ). cond (leb d x.max_bucket)
          (paged (encode_page (chain x d).first []) (last_split x.max_bucket d)
          (next_of x.spares (point x.max_bucket) (chain x d).more) d n) blank) (f d i.1)
      go (bit_page zero) i = refl
      go (bit_page (suc m)) i = refl
      go unmade i = refl

  other : (k b : ℕ) → k ≢ bucket_block x.spares b → (d : ℕ) → bucket_block x.spares d ≡ k → d ≢ b
  other k b ne d q r = ne (sym q ∙ ap (bucket_block x.spares) r)

  pub frame-copied : (k : ℕ) → Apart k (copied_blocks x) → encode_block (set_job x clearing) k ≡ encode_block x k
  frame-copied k a =
      frame-job clearing k a.0
      (λ d q.
      let p = other k (new_bucket x) a.1.0 d q in
      let r = other k (old_bucket x) a.1.1.0 d q in
      flags-else clearing (new_bucket x) (old_bucket x) d p r
      ∙ sym (flags-else x.job (new_bucket x) (old_bucket x) d p r))

  pub frame-cleared : x.job ≡ clearing → (k : ℕ) → Apart k (cleared_blocks x)
      → encode_block (set_job x idle) k ≡ encode_block x k
  frame-cleared e k a =
      frame-job idle k a.0
      (λ d q. rw (e, eqb_no d (old_bucket x) (other k (old_bucket x) a.1.0 d q)))

  -- a bucket page after another job: its flags
  pub job-image : (j : Job) (b : ℕ) → b ≤ x.max_bucket → encode_block (set_job x j) (bucket_block x.spares b)
      ≡ paged (encode_page (chain x b).first []) (last_split x.max_bucket b) (page_block x b 1) b
      (flags_in j (new_bucket x) (old_bucket x) b)
  unfolding page_with flags_of
  job-image j b h = page-image (set_job x j) (job-laid x j l) b 0 h (omega arith)

  pub flags-new : flags_in copying (new_bucket x) (old_bucket x) (new_bucket x) ≡ 18
  flags-new = rw (eqb_yes (new_bucket x) (new_bucket x) refl)

  pub flags-old : (flags_in copying (new_bucket x) (old_bucket x) (old_bucket x) ≡ 34)
      × (flags_in clearing (new_bucket x) (old_bucket x) (old_bucket x) ≡ 66)
  flags-old = (
    rw (eqb_no (old_bucket x) (new_bucket x) (old-new x l), eqb_yes (old_bucket x) (old_bucket x) refl),
    rw (eqb_yes (old_bucket x) (old_bucket x) refl),
  )

  pub flags-done : flags_in clearing (new_bucket x) (old_bucket x) (new_bucket x) ≡ 2
  flags-done = rw (eqb_no (new_bucket x) (old_bucket x) (λ q. old-new x l (sym q)))
