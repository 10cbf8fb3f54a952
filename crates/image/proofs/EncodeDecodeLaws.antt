-- The bytes of a well-formed index are read as that index.
use Rattle.std.proofs.Math.Path.{◌≡◌, refl, ap₂}
use Rattle.std.proofs.Common.{sym, ap, ◌∙◌, arith, ext_get_or, eq-eqb, ne_eqb}
use Rattle.std.specs.Prelude.{◌≢◌, Bool, cond, length}
use Rattle.std.proofs.Math.Bool.{true, false}
use mathlib.Core.List.{List, [], ◌∷◌, map}
use Prim.Native.Nat.{ℕ, zero, suc, ◌+◌, ◌≤◌}
use Rattle.std.proofs.Math.Dec.{eqb}
use Rattle.std.proofs.lemmas.List.{length-map}
use Rattle.lists.specs.Lists.{up_from, Each}
use Rattle.lists.specs.RunLaws.{length_run, get_or-run}
use Rattle.lists.specs.Block.{block}
use Rattle.address.specs.Address.{split_from, point, bucket_block, bit_block}
use Rattle.address.specs.MaskLaws.{split-lt}
use Rattle.page.specs.Entries.{entries_of}
use Rattle.store.specs.Store.{next_at, flags_at}
use Rattle.model.specs.Index.{Page, no_chain, Job, idle, copying, clearing, Index, chain}
use Rattle.model.specs.WellFormed.{Laid, WF}
use Rattle.image.specs.Layout.{meta_of, flags_in, flags_of, next_of, linked_of, encode}
use Rattle.store.specs.Flags.{no_link}
use Rattle.image.specs.Decode.{
  follow,
  bit_from,
  job_from,
  max_at,
  role_at,
  block_of,
  trail,
  read_page,
  read_chain,
  new_flags,
  old_flags,
  decode,
}
use Rattle.image.proofs.EncodeLaws.{bit-inside, blocks-encode}
use Rattle.image.proofs.EncodePagesLaws.{
  meta-encode,
  max-encode,
  spares-encode,
  role-encode,
  block_of-encode,
  role-of-bit,
  LinkedIs,
  chain-is,
}

-- ---- following the links, of any bytes

module _ (t : List ℕ) where
  pub follow-step : (f k j : ℕ) → next_at (block t k) ≡ j → j ≢ no_link → follow t (suc f) k ≡ j ∷ follow t f j
  unfolding follow
  follow-step f k j q ne = go (next_at (block t k)) (ne_eqb _ _ (λ r. ne (sym q ∙ r))) q
    where
      go : (n : ℕ) → eqb n no_link ≡ false → n ≡ j
          → Path (List ℕ) (elim (eqb n no_link) [ true ↦ [] | false ↦ n ∷ follow t f n ]) (j ∷ follow t f j)
      go n r q = rw r (ap (λ (n : ℕ). n ∷ follow t f n) q)

  pub follow-end : (f k : ℕ) → next_at (block t k) ≡ no_link → follow t f k ≡ []
  unfolding follow
  follow-end zero k q = refl
  follow-end (suc f) k q = go (eqb (next_at (block t k)) no_link) (eq-eqb _ _ q)
    where
      go : (b : Bool) → b ≡ true
          → Path (List ℕ) (elim b [ true ↦ [] | false ↦ next_at (block t k) ∷ follow t f (next_at (block t k)) ]) []
      go true r = refl
      go false r = let z : ◌≡◌ {A = ℕ} 0 1 = cc in absurd (omega arith)

module _ (x : Index) (w : WF x) where
  abbrev l : Laid x
  l = w.laid

  abbrev sp : List ℕ
  sp = x.spares

  abbrev s : ℕ
  s = point x.max_bucket

  abbrev e : List ℕ
  e = encode x

  -- the block of an overflow page
  abbrev pub page_block : Page → ℕ
  page_block g = bit_block x.spares (point x.max_bucket) g.bit

  -- ---- chains

  follow-encode : (f b k : ℕ) (gs : List Page) → length gs ≤ f → next_at (block e k) ≡ next_of sp s gs
      → Each (LinkedIs x w) (linked_of sp s b k gs) → follow e f k ≡ map page_block gs
  follow-encode f b k [] h q r = follow-end e f k q
  follow-encode zero b k (g ∷ gs) h q r = absurd (omega arith)
  follow-encode (suc f) b k (g ∷ gs) h q r =
      follow-step e f k (page_block g) q (λ z. omega (arith, z, bit-inside x l g.bit r.0.ok.made, l.size))
      ∙ ap (λ (js : List ℕ). page_block g ∷ js)
      (follow-encode f b (page_block g) gs (omega arith) r.0.page.next r.1)

  pub trail-encode : (b : ℕ) → b ≤ x.max_bucket → trail (encode x) b ≡ map page_block (chain x b).more
  trail-encode b h =
      let c = chain-is x w b h in
      ap₂ (follow e) (blocks-encode x l) (block_of-encode x w b)
      ∙ follow-encode x.size b (bucket_block sp b) (chain x b).more c.short c.first.next c.rest

  pages-encode : (b k : ℕ) (gs : List Page) → Each (LinkedIs x w) (linked_of sp s b k gs)
      → map (read_page e) (map page_block gs) ≡ gs
  pages-encode b k [] r = refl
  pages-encode b k (g ∷ gs) r =
      let p : bit_from (role_at e (page_block g)) ≡ g.bit =
      ap bit_from (role-encode x w (page_block g) ∙ role-of-bit x w g.bit r.0.ok.made) in
      ap₂ (λ (h : Page) (hs : List Page). h ∷ hs) (λ i. record { bit = p i; entries = r.0.page.entries i })
      (pages-encode b (page_block g) gs r.1)

  chain-encode : (b : ℕ) → b ≤ x.max_bucket → read_chain e b ≡ chain x b
  chain-encode b h =
      let c = chain-is x w b h in
      let f = ap (λ (k : ℕ). entries_of (block e k)) (block_of-encode x w b) ∙ c.first.entries in
      let m : map (read_page e) (trail e b) ≡ (chain x b).more =
      ap (map (read_page e)) (trail-encode b h) ∙ pages-encode b (bucket_block sp b) (chain x b).more c.rest in
      λ i. record { first = f i; more = m i }

  chains-encode : map (read_chain e) (up_from 0 (suc (max_at e))) ≡ x.chains
  chains-encode =
      let len : length (map (read_chain e) (up_from 0 (suc (max_at e)))) ≡ suc x.max_bucket =
      length-map (up_from 0 (suc (max_at e))) (read_chain e) ∙ length_run 0 (suc (max_at e)) ∙ ap suc (max-encode x w) in
      ext_get_or no_chain (map (read_chain e) (up_from 0 (suc (max_at e)))) x.chains (len ∙ sym l.whole)
      (λ b h.
      let z : 0 + b ≡ b = omega arith in
      get_or-run (read_chain e) no_chain 0 (suc (max_at e)) b (omega (arith, len, max-encode x w))
      ∙ ap (read_chain e) z
      ∙ chain-encode b (omega (arith, len)))

  -- ---- the job, by its flags

  pub flags-encode : (b : ℕ) → b ≤ x.max_bucket → flags_at (block (encode x) (block_of (encode x) b)) ≡ flags_of x b
  flags-encode b h = ap (λ (k : ℕ). flags_at (block e k)) (block_of-encode x w b) ∙ (chain-is x w b h).first.flags

  pub new_flags-encode : new_flags (encode x) ≡ flags_of x x.max_bucket
  new_flags-encode =
      ap (λ (m : ℕ). flags_at (block e (block_of e m))) (max-encode x w) ∙ flags-encode x.max_bucket (omega arith)

  pub old_flags-encode : old_flags (encode x) ≡ flags_of x (split_from x.max_bucket)
  old_flags-encode =
      ap (λ (m : ℕ). flags_at (block e (block_of e (split_from m)))) (max-encode x w)
      ∙ flags-encode (split_from x.max_bucket) (omega (arith, split-lt x.max_bucket l.two))

  job-encode : job_from (new_flags e) (old_flags e) ≡ x.job
  unfolding flags_of
  job-encode = ap₂ job_from new_flags-encode old_flags-encode ∙ go x.job
    where
      new : ℕ
      new = x.max_bucket

      old : ℕ
      old = split_from x.max_bucket

      go : (j : Job) → job_from (flags_in j new old new) (flags_in j new old old) ≡ j
      go idle = refl
      go copying = rw (eq-eqb new new refl)
      go clearing = at (eqb new old) (eq-eqb old old refl)
        where
          at : (d : Bool) → eqb old old ≡ true → job_from (cond d 66 2) (cond (eqb old old) 66 2) ≡ clearing
          at true q = rw q
          at false q = rw q

  pub decode-encode : decode (encode x) ≡ x
  unfolding decode meta_of
  decode-encode i =
      record {
        size = blocks-encode x l i;
        fill = (meta-encode x w i).fill;
        number = (meta-encode x w i).number;
        max_bucket = max-encode x w i;
        spares = spares-encode x w i;
        job = job-encode i;
        chains = chains-encode i;
      }
