-- THE FILL GAUGE OF STORES (docs/RULES.md 6.15): what it shows of sound stores, which are just the bytes of well-formed
-- indexes (`sound-iff-encoding`), and what it shows by the book of demand 3, at every moment of every list of calls and
-- with power cuts.
use Rattle.std.specs.Prelude.{◌≡◌, refl, true, List, [], ◌∷◌, ℕ, suc, ◌+◌, ◌*◌, length, Ok}
use Rattle.std.proofs.Common.{ap₂, ◌∙◌}
use Rattle.std.proofs.Math.Path.{ap}
use Rattle.std.proofs.Math.IntN.{sub_ℕ}
use Rattle.lists.specs.Lists.{Each}
use Rattle.lists.specs.Block.{blocks}
use Rattle.model.specs.declared.Order.{Order}
use Rattle.model.specs.declared.Standing.{Standing}
use Rattle.model.specs.Index.{Index}
use Rattle.model.specs.Held.{count}
use Rattle.model.specs.Calls.{format, standing}
use Rattle.model.specs.Machine.{Call, formatting, CallFits, plain, stands, accepted}
use Rattle.model.proofs.MachineLaws.{never}
use Rattle.model.specs.History.{Moment, phase_at, last_of, history, start, Always}
use Rattle.model.specs.HistoryLaws.{always-map}
use Rattle.model.specs.Demand.{Holds}
use Rattle.model.specs.WellFormed.{WF}
use Rattle.image.specs.Layout.{encode}
use Rattle.image.specs.Decode.{decode}
use Rattle.image.specs.VerdictLaws.{verdict-passes}
use Rattle.outcomes.specs.Outcomes.{Tested, passed, failed, tested, Changed, format_outcome, standing_on}
use Rattle.outcomes.specs.Outcomes.{standing_outcome, run_store, on_store}
use Rattle.outcomes.proofs.OutcomeLaws.{passed-sound}
use Rattle.outcomes.proofs.OutcomeIndexLaws.{tested-encode}
use Rattle.outcomes.proofs.OutcomeSoundLaws.{format-done}
use Rattle.outcomes.proofs.Demand3Theorem.{demand3-stores}
use Rattle.journal.specs.Journal.{Disk}
use Rattle.journal.specs.Cut.{Ready}
use Rattle.cuts.proofs.Demand3Theorem.{Covered}
use Rattle.gauge.specs.declared.GaugeAnswer.{GaugeAnswer}
use Rattle.gauge.specs.Gauge.{quotient, pages, gauge_of, zeros, shows, gauge_on, gauge_outcome}
use Rattle.gauge.proofs.GaugeLaws.{half, half_full, empty-zero}

-- ---- of sound stores

module _ (x : Index) (w : WF x) where
  pub gauge-encode : gauge_outcome (encode x) ≡ shows (gauge_of x)
  unfolding gauge_outcome
  gauge-encode = ap gauge_on (tested-encode x w)

  -- "40 entries in two pages must show exactly 0.5"
  pub gauge-half : count x ≡ 40 → pages x ≡ 2 → (gauge_outcome (encode x)).gauge.per_page ≡ half
  gauge-half n p = ap (λ (a : GaugeAnswer). a.gauge.per_page) gauge-encode ∙ half_full x n p

  -- "an empty store shows 0 twice"
  pub gauge-empty : count x ≡ 0 → gauge_outcome (encode x) ≡ shows zeros
  gauge-empty n = gauge-encode ∙ ap shows (empty-zero x w.laid n)

format-count : (n : ℕ) (o : Order) → count (format n o) ≡ 0
unfolding format count
format-count n o = refl

-- .. and so does what an accepted format leaves
pub gauge-formatted : (s : List ℕ) (o : Order) → CallFits (formatting o)
    → accepted (plain (format_outcome s o).answer) ≡ true → gauge_outcome (format_outcome s o).store ≡ shows zeros
gauge-formatted s o fits e =
    let f = format-done s o fits e in
    ap (λ (c : Changed). gauge_outcome c.store) f.outcome
    ∙ gauge-empty (format (blocks s) o) f.wf (format-count (blocks s) o)

-- ---- by the book

-- the book's size divided by the buckets that the begins make, and by the room of the pages that stand in chains
abbrev pub book_gauge : Moment on_store → GaugeAnswer
book_gauge t =
    shows (record {
      per_bucket = quotient (length t.book) (2 + t.begins);
      per_page = quotient (length t.book) (40 * pages (decode t.state));
    })

moment-gauge : (t : Moment on_store) → Holds on_store decode t → gauge_outcome t.state ≡ book_gauge t
unfolding run_store standing_outcome standing gauge_outcome gauge_of
moment-gauge t h = go (tested true t.state) refl h.0.standing
  where
    told : (a b : Standing) → stands (Ok a) ≡ stands (Ok b) → a ≡ b
    told a b e = cc

    go : (k : Tested) → tested true t.state ≡ k
        → stands (standing_on k)
        ≡ stands (Ok (record {
          count = length t.book;
          buckets = 2 + t.begins;
          phase = phase_at on_store t.state;
          slack = sub_ℕ (t.fill * (2 + t.begins)) (length t.book);
        }))
        → gauge_on k ≡ book_gauge t
    go (failed r) e s = never (cc)
    go (passed x) e s =
        let same = told (standing x) _ s in
        let n : count x ≡ length t.book = ap (λ (z : Standing). z.count) same in
        let b : suc x.max_bucket ≡ 2 + t.begins = ap (λ (z : Standing). z.buckets) same in
        let read : x ≡ decode t.state = (verdict-passes t.state x (passed-sound t.state true x e).1).read in
        let per-bucket = ap₂ quotient n b in
        let per-page = ap₂ (λ (a p : ℕ). quotient a (40 * p)) n (ap pages read) in
        λ i. shows (record { per_bucket = per-bucket i; per_page = per-page i })

-- at every moment of every list of calls
pub gauge-book : Always on_store (λ t. gauge_outcome t.state ≡ book_gauge t)
gauge-book = always-map (Holds on_store decode) _ moment-gauge demand3-stores

last-holds : (P : Moment on_store → Type 0) (t : Moment on_store) (us : List (Moment on_store)) → Each P (t ∷ us)
    → P (last_of on_store t us)
last-holds P t [] h = h.0
last-holds P t (u ∷ us) h = last-holds P u us h.1

-- with power cuts: where the head is wiped, of the store as it lies
pub gauge-cuts : {s : List ℕ} {o : Order} {cs : List Call} {f : Disk} → Covered s o cs f → Ready f
    → let t = start on_store s o in gauge_outcome f.store ≡ book_gauge (last_of on_store t (history on_store cs t))
gauge-cuts {s} {o} {cs} {f} c r =
    let t = start on_store s o in
    ap gauge_outcome (c.lies r ∙ c.reached)
    ∙ moment-gauge (last_of on_store t (history on_store cs t))
    (last-holds (Holds on_store decode) t (history on_store cs t) c.faithful)
