-- The blocks that a begin alters: no made block moves, at the same overflow point and at a new one.
use Rattle.std.specs.Prelude.{◌≡◌, ◌≢◌, Bool, true, false, not, ◌&&◌, ◌||◌, List, [], ◌∷◌, ◌++◌, map, leb, ltb, eqb, length, get_or}
use Rattle.std.proofs.Math.Path.{refl, sym, ap, fun_ext}
use Rattle.std.proofs.Common.{ap₂, ◌∙◌, arith, le-leb}
use Rattle.std.proofs.Math.Bool.{cond}
use Prim.Native.Nat.{ℕ, zero, suc, pred, ◌+◌, ◌≤◌, ◌<◌}
use Rattle.std.proofs.Math.Decide.{dec_le, dec_lt}
use Rattle.std.proofs.lemmas.Bool.{lt-leb}
use Rattle.std.proofs.Math.ListN.{get_or-append}
use Rattle.std.proofs.Math.Seq.{get_or-append_seam}
use Rattle.lists.specs.Lists.{b2n, tally, find, bind, Each}
use Rattle.lists.specs.ListsLaws.{eqb_yes, eqb_no, tally-append}
use Rattle.address.specs.Address.{buckets_at, split_from, last_split, point, bucket_point, bucket_block, bit_block}
use Rattle.address.specs.Role.{SparesOk, Role, meta, bucket_page, bit_page, unmade, role_of, RoleIs}
use Rattle.std.proofs.Math.Option.{some}
use Rattle.address.specs.OverLaws.{buckets-mono}
use Rattle.address.specs.MaskLaws.{split-lt}
use Rattle.address.specs.BlockLaws.{point-is, point-pos}
use Rattle.address.specs.PointLaws.{bucket_point-le}
use Rattle.address.specs.SparesLaws.{point-next, bucket-append, bit-append}
use Rattle.address.specs.RoleLaws.{role-is, role-only}
use Rattle.page.specs.Entries.{encode_page}
use Rattle.model.specs.Index.{Page, Chain, Job, idle, copying, Index, no_chain, chain, top_bit}
use Rattle.model.specs.Pages.{bits_of, is_free}
use Rattle.model.specs.Steps.{widen}
use Rattle.model.specs.WellFormed.{uses, Laid}
use Rattle.model.proofs.ViewLaws.{Beginning, same_point, new_point}
use Rattle.model.proofs.LaidLaws.{chain-wider, begin-laid}
use Rattle.model.proofs.MachineLaws.{never}
use Rattle.image.specs.Layout.{paged, blank, map_front, flags_in, flags_of, LinkedPage, next_of}
use Rattle.store.specs.Flags.{no_link}
use Rattle.image.specs.Layout.{linked_of, linked_from, linked_pages, bucket_image, overflow_image, image, encode_block}
use Rattle.frame.specs.Frame.{Apart, block_of_bit, begin_blocks}
use Rattle.image.specs.LinkedLaws.{has_bit}
use Rattle.image.proofs.BoundLaws.{max-under}
use Rattle.frame.specs.ImagesLaws.{bits-at}
use Rattle.frame.specs.ChainLaws.{linked_as, free-alike}
use Rattle.frame.specs.JobLaws.{flags-else}

-- ---- one bucket more

linked-wider : (sp : List ℕ) (s i : ℕ) (cs : List Chain) → linked_from sp s i (cs ++ no_chain ∷ []) ≡ linked_from sp s i cs
linked-wider sp s i [] = refl
linked-wider sp s i (c ∷ cs) =
    ap (λ (hs : List LinkedPage). linked_of sp s i (bucket_block sp i) c.more ++ hs) (linked-wider sp s (suc i) cs)

bits-wider : (cs : List Chain) → bind (cs ++ no_chain ∷ []) bits_of ≡ bind cs bits_of
bits-wider [] = refl
bits-wider (c ∷ cs) = ap (λ (r : List ℕ). bits_of c ++ r) (bits-wider cs)

split-else : (m d : ℕ) → d ≢ suc m → d ≢ split_from (suc m) → last_split (suc m) d ≡ last_split m d
unfolding last_split
split-else m d p q =
    rw (eqb_no (suc m) d (λ r. p (sym r)), eqb_no (split_from (suc m)) d (λ r. q (sym r))) (go (ltb 0 m))
  where
    go : (b : Bool) → cond (b && (false || false)) (suc m) (last_split m d) ≡ last_split m d
    go true = refl
    go false = refl

leb-else : (m d : ℕ) → d ≢ suc m → leb d (suc m) ≡ leb d m
leb-else m d p = go (dec_le d m)
  where
    go : Dec (d ≤ m) → leb d (suc m) ≡ leb d m
    go (yes h) = le-leb d (suc m) (omega arith) ∙ sym (le-leb d m h)
    go (no h) = lt-leb d (suc m) (omega arith) ∙ sym (lt-leb d m (omega arith))

-- the spares after a begin, at the overflow point t: every made block stays where it is
pub record Stays (x : Index) (sq : List ℕ) (t : ℕ) : Type 0 where
  pub bits : (m : ℕ) → m < top_bit x → bit_block sq t m ≡ block_of_bit x m
  pub buckets : (d : ℕ) → d < buckets_at (point x.max_bucket) → bucket_block sq d ≡ bucket_block x.spares d
  pub newest : bucket_block sq (suc x.max_bucket) ≡ bucket_block x.spares (suc x.max_bucket)
  pub last : get_or sq t 0 ≡ top_bit x
  pub wider : buckets_at (point x.max_bucket) ≤ buckets_at t
  pub ok : SparesOk sq t x.size

module _ (x : Index) (l : Laid x) (sq : List ℕ) (a : Stays x sq (point (suc x.max_bucket))) where
  abbrev sp : List ℕ
  sp = x.spares

  abbrev s : ℕ
  s = point x.max_bucket

  abbrev t : ℕ
  t = point (suc x.max_bucket)

  abbrev y : Index
  y = widen x sq

  role-old : (k : ℕ) (r : Role) → RoleIs sp s k r → role_of sp s k ≡ r
  role-old k r h = role-only sp s x.size l.spares (point-pos x.max_bucket) k r h

  role-new : (k : ℕ) (r : Role) → RoleIs sq t k r → role_of sq t k ≡ r
  role-new k r h = role-only sq t x.size a.ok (point-pos (suc x.max_bucket)) k r h

  next-same : (gs : List Page) → Each (λ (g : Page). g.bit < top_bit x) gs → next_of sq t gs ≡ next_of sp s gs
  next-same [] r = refl
  next-same (g ∷ gs) r = a.bits g.bit r.0

  linked_of-same : (b prev : ℕ) (gs : List Page) → Each (λ (g : Page). g.bit < top_bit x) gs
      → linked_of sq t b prev gs ≡ linked_of sp s b prev gs
  linked_of-same b prev [] r = refl
  linked_of-same b prev (g ∷ gs) r =
      ap₂ (λ (k : ℕ) (hs : List LinkedPage). linked_as b prev k g g.entries ∷ hs)
      (next-same gs r.1)
      (ap (λ (k : ℕ). linked_of sq t b k gs) (a.bits g.bit r.0)
      ∙ linked_of-same b (block_of_bit x g.bit) gs r.1)

  ranged : (gs : List Page) → ((m : ℕ) → 1 ≤ tally (eqb m) (map (λ (g : Page). g.bit) gs) → m < top_bit x)
      → Each (λ (g : Page). g.bit < top_bit x) gs
  ranged [] r = tt
  ranged (g ∷ gs) r =
      (r g.bit (omega (arith, ap b2n (eqb_yes g.bit g.bit refl))), ranged gs (λ m h. r m (omega arith)))

  linked_from-same : (i : ℕ) (cs : List Chain) → i + length cs ≤ buckets_at s
      → ((m : ℕ) → 1 ≤ tally (eqb m) (bind cs bits_of) → m < top_bit x) → linked_from sq t i cs ≡ linked_from sp s i cs
  linked_from-same i [] h r = refl
  linked_from-same i (c ∷ cs) h r =
      ap₂ (λ (p q : List LinkedPage). p ++ q)
      (ap (λ (k : ℕ). linked_of sq t i k c.more) (a.buckets i (omega arith))
      ∙ linked_of-same i (bucket_block sp i) c.more
      (ranged c.more (λ m k. r m (omega (arith, tally-append (eqb m) (bits_of c) (bind cs bits_of))))))
      (linked_from-same (suc i) cs (omega arith)
      (λ m k. r m (omega (arith, tally-append (eqb m) (bits_of c) (bind cs bits_of)))))

  linked-same : linked_pages y ≡ linked_pages x
  linked-same =
      linked-wider sq t 0 x.chains
      ∙ linked_from-same 0 x.chains (omega (arith, l.whole, max-under x l)) (λ m h. (l.made m h).1)

  free : (m : ℕ) → is_free y m ≡ is_free x m
  free m =
      let u : uses m y ≡ uses m x = ap (tally (eqb m)) (bits-wider x.chains) in
      free-alike x y m (λ f. (f.0, omega (arith, f.1, a.last), sym u ∙ f.2))
      (λ f. (f.0, omega (arith, f.1, a.last), u ∙ f.2))

  -- a block that had no role is blank
  blank-before : (k : ℕ) → k ≢ 0 → ((d : ℕ) → d < buckets_at s → bucket_block sp d ≢ k)
      → ((m : ℕ) → m < top_bit x → bit_block sp s m ≢ k)
      → image x (role_of sp s k) ≡ blank
  unfolding image
  blank-before k nz nb nm = go (role_of sp s k) (role-is sp s x.size l.spares (point-pos x.max_bucket) k)
    where
      go : (r : Role) → RoleIs sp s k r → image x r ≡ blank
      go meta i = absurd (nz i)
      go (bucket_page d) i = absurd (nb d i.0 i.1)
      go (bit_page m) i = absurd (nm m i.0 i.1)
      go unmade i = refl

  pub next-made : (d : ℕ)
      → next_of sq (point (suc x.max_bucket)) (chain x d).more
      ≡ next_of x.spares (point x.max_bucket) (chain x d).more
  next-made d =
      next-same (chain x d).more
      (ranged (chain x d).more (λ i h. (l.made i (omega (arith, h, bits-at (eqb i) x.chains d))).1))

  page-same : x.job ≡ idle → (d : ℕ) → d ≢ suc x.max_bucket → d ≢ split_from (suc x.max_bucket)
      → cond (leb d (suc x.max_bucket)) (bucket_image y d) blank ≡ cond (leb d x.max_bucket) (bucket_image x d) blank
  unfolding bucket_image flags_of
  page-same resting d p q =
      let m : ℕ = x.max_bucket in
      let c : chain y d ≡ chain x d = chain-wider x.chains d in
      let n : next_of sq t (chain y d).more ≡ next_of sp s (chain x d).more =
      ap (λ (c : Chain). next_of sq t c.more) c ∙ next-made d in
      let f : flags_in copying (suc m) (split_from (suc m)) d ≡ flags_in x.job m (split_from m) d =
      flags-else copying (suc m) (split_from (suc m)) d p q
      ∙ sym (ap (λ (j : Job). flags_in j m (split_from m) d) resting) in
      let v = split-else m d p q in
      let e = leb-else m d p in
      λ i. cond (e i) (paged (encode_page (c i).first []) (v i) (n i) d (f i)) blank

  frame-widen : x.job ≡ idle → (k : ℕ) → k ≢ 0 → k ≢ bucket_block sq (suc x.max_bucket)
      → k ≢ bucket_block sq (split_from (suc x.max_bucket))
      → encode_block (widen x sq) k ≡ encode_block x k
  unfolding encode_block image
  frame-widen resting k nz nn ne =
      go (role_of sq t k) (role-is sq t x.size a.ok (point-pos (suc x.max_bucket)) k) refl
    where
      -- made blocks keep their roles, so one with the role r had none
      was-blank : (r : Role) → role_of sq t k ≡ r → ((d : ℕ) → d < buckets_at s → bucket_page d ≢ r)
          → ((m : ℕ) → m < top_bit x → bit_page m ≢ r)
          → image x (role_of sp s k) ≡ blank
      was-blank r e nb nm =
          blank-before k nz
          (λ d h q. nb d h (sym (role-new k (bucket_page d) (omega (arith, h, a.wider), a.buckets d h ∙ q)) ∙ e))
          (λ m h q. nm m h (sym (role-new k (bit_page m) (omega (arith, h, a.last), a.bits m h ∙ q)) ∙ e))

      go : (r : Role) → RoleIs sq t k r → role_of sq t k ≡ r → image (widen x sq) r ≡ image x (role_of sp s k)
      go meta i e = absurd (nz i)
      go (bucket_page d) i e = at (dec_lt d (buckets_at s))
        where
          not_new : d ≢ suc x.max_bucket
          not_new q = nn (sym i.1 ∙ ap (bucket_block sq) q)

          do' : d ≢ split_from (suc x.max_bucket)
          do' q = ne (sym i.1 ∙ ap (bucket_block sq) q)

          at : Dec (d < buckets_at s)
              → cond (leb d (suc x.max_bucket)) (bucket_image (widen x sq) d) blank ≡ image x (role_of sp s k)
          at (yes h) =
              page-same resting d not_new do'
              ∙ ap (image x) (sym (role-old k (bucket_page d) (h, sym (a.buckets d h) ∙ i.1)))
          at (no h) =
              ap (λ (b : Bool). cond b (bucket_image (widen x sq) d) blank)
              (lt-leb d (suc x.max_bucket) (omega (arith, max-under x l, not_new)))
              ∙ sym (was-blank (bucket_page d) e
              (λ c g q. let z : c ≡ d = cc in omega arith)
              (λ m g q. never (cc)))
      go (bit_page zero) i e =
          ap (λ (f : ℕ → Bool). paged (map_front (λ n. b2n (not (f n)))) no_link no_link no_link 4) (fun_ext free)
          ∙ ap (image x) (sym (role-old k (bit_page 0) (under, sym (a.bits 0 under) ∙ i.1)))
        where
          under : 0 < top_bit x
          under = omega (arith, i.0, a.last)
      go (bit_page (suc m)) i e =
          ap (λ (hs : List LinkedPage). overflow_image (find (has_bit (suc m)) hs)) linked-same
          ∙ ap (image x) (sym (role-old k (bit_page (suc m)) (under, sym (a.bits (suc m) under) ∙ i.1)))
        where
          under : suc m < top_bit x
          under = omega (arith, i.0, a.last)
      go unmade i e =
          sym (was-blank unmade e
          (λ c g q. never (cc))
          (λ m g q. never (cc)))

  frame-stays : x.job ≡ idle → (k : ℕ) → Apart k (begin_blocks x) → encode_block (widen x sq) k ≡ encode_block x k
  frame-stays resting k b =
      frame-widen resting k b.0 (λ q. b.1.0 (q ∙ a.newest))
      (λ q. b.1.1.0
      (q ∙ a.buckets (split_from (suc x.max_bucket))
      (omega (arith, split-lt (suc x.max_bucket) (omega arith), max-under x l))))

-- ---- at the same overflow point, and at a new one

pub stays-point : (x : Index) → point (suc x.max_bucket) ≡ point x.max_bucket
    → Laid (widen x x.spares) → Stays x x.spares (point (suc x.max_bucket))
stays-point x q m =
    record {
      bits = λ n h. ap (λ (i : ℕ). bit_block x.spares i n) q;
      buckets = λ d h. refl;
      newest = refl;
      last = ap (λ (i : ℕ). get_or x.spares i 0) q;
      wider = omega (arith, ap buckets_at q);
      ok = m.spares;
    }

pub stays-more : (x : Index) → Laid x → point (suc x.max_bucket) ≡ suc (point x.max_bucket)
    → Laid (widen x (x.spares ++ top_bit x ∷ [])) → Stays x (x.spares ++ top_bit x ∷ []) (point (suc x.max_bucket))
unfolding bucket_block
stays-more x l q m =
    record {
      bits =
          λ n h. ap (λ (i : ℕ). bit_block sq i n) q
          ∙ bit-append x.spares s x.size l.spares (point-pos x.max_bucket) (top_bit x) n h;
      buckets = λ d h. bucket-append x.spares s x.size l.spares (point-pos x.max_bucket) (top_bit x) d h;
      newest = newest;
      last = ap (λ (i : ℕ). get_or sq i 0) (q ∙ sym l.spares.points) ∙ get_or-append_seam x.spares (top_bit x) [] 0;
      wider = buckets-mono s (point (suc x.max_bucket)) (omega (arith, q));
      ok = m.spares;
    }
  where
    s : ℕ
    s = point x.max_bucket

    sq : List ℕ
    sq = x.spares ++ top_bit x ∷ []

    newest : bucket_block (x.spares ++ top_bit x ∷ []) (suc x.max_bucket)
        ≡ bucket_block x.spares (suc x.max_bucket)
    newest =
        ap (λ (n : ℕ). suc x.max_bucket + n + 1)
        (get_or-append x.spares (top_bit x ∷ []) 0 (pred (bucket_point (suc x.max_bucket)))
        (omega (
          arith,
          q,
          l.spares.points,
          bucket_point-le (suc x.max_bucket) (point (suc x.max_bucket))
              (point-is (suc x.max_bucket)).over,
        )))

pub frame-begin : (x : Index) → Laid x → x.job ≡ idle → {y : Index} → Beginning x (some y) → (k : ℕ)
    → Apart k (begin_blocks x)
    → encode_block y k ≡ encode_block x k
frame-begin x l e (same_point g) =
    frame-stays x l x.spares (stays-point x (point-next x.max_bucket false g) (begin-laid x l (same_point g))) e
frame-begin x l e (new_point g r) =
    frame-stays x l (x.spares ++ top_bit x ∷ [])
    (stays-more x l (point-next x.max_bucket true g) (begin-laid x l (new_point g r))) e
