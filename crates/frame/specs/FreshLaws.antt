-- The blocks that an entry put into the next block past the made ones alters: one more spare moves no block.
use Rattle.std.specs.Prelude.{◌≡◌, refl, ◌≢◌, Bool, false, cond, not, List, [], ◌∷◌, ◌++◌, leb, eqb, length, get_or, set}
use Rattle.std.proofs.Math.Path.{sym, ap, fun_ext}
use Rattle.std.proofs.Common.{ap₂, ◌∙◌, arith, length-set, get_or-set_same, get_or-set_other}
use Rattle.std.proofs.Math.Option.{none}
use Prim.Native.Nat.{ℕ, zero, suc, pred, ◌+◌, ◌≤◌, ◌<◌}
use Rattle.std.proofs.Math.Decide.{ℕ_discrete, dec_lt}
use Rattle.lists.specs.Lists.{b2n, find}
use Rattle.lists.specs.ListsLaws.{eqb_yes, eqb_no}
use Rattle.address.specs.Address.{buckets_at, last_split, point, bucket_block, bit_block, bit_point, made}
use Rattle.address.specs.Role.{SparesOk, Role, meta, bucket_page, bit_page, unmade, role_of, RoleIs}
use Rattle.address.specs.BlockLaws.{point-pos, spares-mono, BitAt, bit_at}
use Rattle.address.specs.SparesLaws.{spares-more, bucket-spares, bit-spares}
use Rattle.address.specs.RoleLaws.{role-is, role-only}
use Rattle.page.specs.declared.Entry.{Entry}
use Rattle.page.specs.Entries.{encode_page}
use Rattle.model.specs.Index.{Page, Chain, Index, chain, top_bit, set_chain}
use Rattle.model.specs.Pages.{add_page, is_free}
use Rattle.model.specs.WellFormed.{uses, Laid}
use Rattle.model.specs.ChainLaws.{bits-page}
use Rattle.model.proofs.LaidLaws.{bits-set}
use Rattle.image.specs.Layout.{paged, blank, map_front, flags_of, LinkedPage, next_of, linked_of}
use Rattle.store.specs.Flags.{no_link}
use Rattle.image.specs.Layout.{linked_from, bucket_image, overflow_image, image, encode_block}
use Rattle.frame.specs.Frame.{Apart, block_of_bit, blocks_after, chain_blocks, put_alters}
use Rattle.image.specs.LinkedLaws.{has_bit}
use Rattle.image.proofs.BoundLaws.{max-under}
use Rattle.frame.specs.ChainLaws.{linked_as, frame-chain, free-alike}
use Rattle.frame.specs.PutLaws.{in-new}

-- the spares with one more at the overflow point
abbrev pub more_spares : Index → List ℕ
more_spares x = set x.spares (point x.max_bucket) (suc (top_bit x))

abbrev with_spares : Index → List ℕ → Index
with_spares x sp =
    record {
      size = x.size;
      fill = x.fill;
      number = x.number;
      max_bucket = x.max_bucket;
      spares = sp;
      job = x.job;
      chains = x.chains;
    }

module _ (x : Index) (n : ℕ) (ok : SparesOk x.spares (point x.max_bucket) n)
    (room : made x.spares (point x.max_bucket) < n) where
  abbrev sp : List ℕ
  sp = x.spares

  abbrev s : ℕ
  s = point x.max_bucket

  abbrev sq : List ℕ
  sq = more_spares x

  more-ok : SparesOk sq s n
  more-ok = spares-more sp s n ok (point-pos x.max_bucket) room

  top-more : get_or sq s 0 ≡ suc (top_bit x)
  top-more = get_or-set_same sp s (suc (top_bit x)) 0 (omega (arith, ok.points))

  bit-same : (m : ℕ) → bit_block sq s m ≡ bit_block sp s m
  bit-same m = bit-spares sp s n ok (point-pos x.max_bucket) (suc (top_bit x)) m

  bucket-same : (b : ℕ) → b < buckets_at s → bucket_block sq b ≡ bucket_block sp b
  bucket-same b h = bucket-spares sp s n ok (point-pos x.max_bucket) (suc (top_bit x)) b h

  -- the next block past the made ones is that of the next bit
  pub next-block : block_of_bit x (top_bit x) ≡ made x.spares (point x.max_bucket)
  unfolding made
  next-block = sym (bit-same (top_bit x)) ∙ at.block ∙ ap (λ (i : ℕ). buckets_at i + top_bit x + 1) (go (dec_lt g s))
    where
      g : ℕ
      g = bit_point sq (top_bit x) 1 (pred s)

      at : BitAt sq s n more-ok (point-pos x.max_bucket) (top_bit x) g
      at = bit_at sq s n more-ok (point-pos x.max_bucket) (top_bit x) (omega (arith, top-more))

      go : Dec (g < s) → g ≡ s
      go (no h) = omega (arith, at.last)
      go (yes h) =
          absurd
          (omega (
            arith,
            at.under,
            get_or-set_other sp s g (suc (top_bit x)) 0 (λ q. omega arith),
            spares-mono sp s n ok (point-pos x.max_bucket) g s (omega arith) (omega arith),
          ))

  role_same : (k : ℕ) → k ≢ block_of_bit x (top_bit x) → role_of sq s k ≡ role_of sp s k
  unfolding made
  role_same k ne =
      role-only sq s n more-ok (point-pos x.max_bucket) k (role_of sp s k)
      (go (role_of sp s k) (role-is sp s n ok (point-pos x.max_bucket) k))
    where
      go : (r : Role) → RoleIs sp s k r → RoleIs sq s k r
      go meta i = i
      go (bucket_page b) i = (i.0, bucket-same b i.0 ∙ i.1)
      go (bit_page m) i = (omega (arith, i.0, top-more), bit-same m ∙ i.1)
      go unmade i = omega (arith, i, top-more, next-block, ne)

  next-same : (gs : List Page) → next_of sq s gs ≡ next_of sp s gs
  next-same [] = refl
  next-same (g ∷ gs) = bit-same g.bit

  linked_of-same : (b prev : ℕ) (gs : List Page) → linked_of sq s b prev gs ≡ linked_of sp s b prev gs
  linked_of-same b prev [] = refl
  linked_of-same b prev (g ∷ gs) =
      ap₂ (λ (k : ℕ) (hs : List LinkedPage). linked_as b prev k g g.entries ∷ hs)
      (next-same gs)
      (ap (λ (k : ℕ). linked_of sq s b k gs) (bit-same g.bit) ∙ linked_of-same b (block_of_bit x g.bit) gs)

  linked_from-same : (b : ℕ) (cs : List Chain) → b + length cs ≤ buckets_at s
      → linked_from sq s b cs ≡ linked_from sp s b cs
  linked_from-same b [] h = refl
  linked_from-same b (c ∷ cs) h =
      ap₂ (λ (p q : List LinkedPage). p ++ q)
      (ap (λ (k : ℕ). linked_of sq s b k c.more) (bucket-same b (omega arith))
      ∙ linked_of-same b (bucket_block sp b) c.more)
      (linked_from-same (suc b) cs (omega arith))

  -- where the new bit is in use
  frame-spares : length x.chains ≤ buckets_at s → 1 ≤ uses (top_bit x) x → (k : ℕ) → k ≢ 0
      → k ≢ block_of_bit x (top_bit x)
      → encode_block (with_spares x (more_spares x)) k ≡ encode_block x k
  unfolding encode_block image bucket_image flags_of
  frame-spares short used k nz ne =
      ap (image y) (role_same k ne) ∙ go (role_of sp s k) (role-is sp s n ok (point-pos x.max_bucket) k)
    where
      y : Index
      y = with_spares x (more_spares x)

      free : (m : ℕ) → is_free (with_spares x (more_spares x)) m ≡ is_free x m
      free m =
          free-alike x (with_spares x (more_spares x)) m
          (λ f. (f.0, under m f.1 f.2 (ℕ_discrete m (top_bit x)), f.2))
          (λ f. (f.0, omega (arith, f.1, top-more), f.2))
        where
          under : (m : ℕ) → m < get_or sq s 0 → uses m x ≡ 0 → Dec (m ≡ top_bit x) → m < top_bit x
          under m h u (yes q) = absurd (omega (arith, ap (λ (j : ℕ). uses j x) q))
          under m h u (no q) = omega (arith, top-more)

      go : (r : Role) → RoleIs x.spares (point x.max_bucket) k r
          → image (with_spares x (more_spares x)) r ≡ image x r
      go meta i = absurd (nz i)
      go (bucket_page d) i =
          ap (λ (j : ℕ). cond (leb d x.max_bucket)
          (paged (encode_page (chain x d).first []) (last_split x.max_bucket d) j d (flags_of x d)) blank)
          (next-same (chain x d).more)
      go (bit_page zero) i =
          ap (λ (free : ℕ → Bool). paged (map_front (λ n. b2n (not (free n)))) no_link no_link no_link 4) (fun_ext free)
      go (bit_page (suc m)) i =
          ap (λ (hs : List LinkedPage). overflow_image (find (has_bit (suc m)) hs))
          (linked_from-same 0 x.chains (omega (arith, short)))
      go unmade i = refl

module _ (x : Index) (l : Laid x) (b : ℕ) (fits : b < length x.chains) (e : Entry)
    (room : made x.spares (point x.max_bucket) < x.size) where
  abbrev new_chain : Chain
  new_chain = add_page (top_bit x) e (chain x b)

  abbrev z : Index
  z = set_chain x x.spares b new_chain

  uses-new : (m : ℕ) → uses m z ≡ b2n (eqb m (top_bit x)) + uses m x
  uses-new m = omega (arith, bits-set (eqb m) x.chains b new_chain fits, bits-page (eqb m) (top_bit x) e (chain x b))

  free_new : (m : ℕ) → is_free z m ≡ is_free x m
  free_new m =
      free-alike x z m
      (λ f. (f.0, f.1, omega (arith, f.2, uses-new m)))
      (λ f. (f.0, f.1, omega (arith, f.2, uses-new m, ap b2n (eqb_no m (top_bit x) (λ q. omega (arith, f.1, q))))))

  -- meta, the last page and the new page
  pub frame_fresh : (k : ℕ) → Apart k (put_alters false none x b)
      → encode_block (set_chain x (more_spares x) b (add_page (top_bit x) e (chain x b))) k ≡ encode_block x k
  frame_fresh k a =
      frame-spares z x.size l.spares room
      (omega (arith, length-set x.chains b new_chain, l.whole, max-under x l))
      (omega (arith, uses-new (top_bit x), ap b2n (eqb_yes (top_bit x) (top_bit x) refl)))
      k a.0 a.1.1.0
      ∙ frame-chain x l b fits new_chain k (in-new x e (top_bit x) b k a.0 (λ q. free_new) a.1.0 a.1.1.0)

  -- no block of the chain moves
  pub fresh-blocks : (c : Chain) → chain_blocks (set_chain x (more_spares x) b c) b c ≡ chain_blocks x b c
  fresh-blocks c =
      ap₂ (λ (k : ℕ) (js : List ℕ). k ∷ js)
      (bucket-same x x.size l.spares room b (omega (arith, fits, l.whole, max-under x l)))
      (after c.more)
    where
      after : (gs : List Page) → blocks_after (set_chain x (more_spares x) b c) gs ≡ blocks_after x gs
      after [] = refl
      after (g ∷ gs) = ap₂ (λ (k : ℕ) (js : List ℕ). k ∷ js) (bit-same x x.size l.spares room g.bit) (after gs)
