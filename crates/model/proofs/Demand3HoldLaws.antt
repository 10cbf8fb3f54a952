-- What the invariant says of the calls' answers: all that demand 3 claims of a moment, and when there is no room.
use Rattle.std.specs.Prelude.{◌≡◌, refl, ◌≢◌, ◌+◌, length}
use Rattle.std.proofs.Common.{sym, ◌∙◌, arith}
use Rattle.model.specs.Index.{idle, Index}
use Rattle.model.specs.Held.{count}
use Rattle.model.specs.Machine.{run_index, on_index}
use Rattle.model.proofs.MachineLaws.{index-works}
use Rattle.model.specs.Book.{Split, no_split, since}
use Rattle.model.specs.History.{Moment}
use Rattle.model.specs.Demand.{SplitIs, Faithful}
use Rattle.model.specs.Room.{RoomIs}
use Rattle.model.proofs.RoomLaws.{step-no_room}
use Rattle.model.proofs.MatchesLaws.{matches-is}
use Rattle.model.proofs.CountLaws.{count-is}
use Rattle.model.proofs.FrameLaws.{job-not-idle}
use Rattle.model.proofs.StepsLeftLaws.{steps_left-at, steps_left-idle}
use Rattle.model.proofs.Demand3AnswerLaws.{held_already-is, not_held-is, inserted-is, removed-is, no_room-is}
use Rattle.model.proofs.Demand3AnswerLaws.{in_use-is, formatted-is, lookup-is}
use Rattle.model.proofs.Demand3AnswerLaws.{standing-is, job_is, phase-none, rests-is}
use Rattle.model.proofs.Demand3SqueezeLaws.{squeeze-is}
use Rattle.model.proofs.Demand3InvLaws.{Track, Inv}

-- a split has steps left exactly while there is a job
split-is : (x : Index) (k : Split) → Track k x → SplitIs on_index k x
split-is x no_split u = (phase-none x).1 u
split-is x (since r m k) u = (
  λ l.
      let ne : x.job ≢ idle = λ e. omega (arith, u.1, steps_left-at x idle e) in
      (λ e. ne ((phase-none x).0 e), job-not-idle x ne),
  λ e. (phase-none x).1 (steps_left-idle x (omega (arith, u.0))),
  omega (arith, u.0),
)

pub faithful : (t : Moment on_index) → Inv t → Faithful on_index t
faithful t i =
    record {
      set = i.set;
      lookups = λ h out fits. lookup-is x t.book h out (matches-is x i.wf h t.book i.set i.agree);
      count = counts;
      standing = standing-is x (length t.book) t.begins t.fill counts i.newest i.fill;
      job = job_is x (1 + t.begins) (i.newest ∙ omega arith);
      formats = λ o fits ok. in_use-is x i.wf o ok t.book counts;
      formatted = λ o fits ok. formatted-is x i.wf o ok;
      inserts = λ p fits ok. rw (i.agree p) (held_already-is x p ok);
      inserted = λ p fits ok e. inserted-is x p ok (sym (i.agree p) ∙ e);
      removals = λ p fits ok. rw (i.agree p) (not_held-is x p ok);
      removed = λ p fits ok e. removed-is x p ok (sym (i.agree p) ∙ e);
      works = index-works x;
      squeezes = λ b budget fits h. squeeze-is x (2 + t.begins) b budget (omega (arith, i.newest)) h;
      rests = rests-is x (length t.book) (2 + t.begins) t.fill counts (omega (arith, i.newest)) i.fill;
      splits = split-is x t.split i.track;
    }
  where
    x : Index
    x = t.state

    counts : count x ≡ length t.book
    counts = count-is x i.wf t.book i.set i.agree

pub room-is : (t : Moment on_index) → Inv t → RoomIs on_index (λ x. x) t
unfolding run_index
room-is t i =
    record {
      shows = record { wf = i.wf; fill = i.fill; newest = i.newest; phase = refl; holds = i.agree };
      inserts = λ p fits ok e. no_room-is t.state p ok (sym (i.agree p) ∙ e);
      steps = step-no_room t.state;
    }
