-- Lists of calls that an executive takes one after another.
--   events_of   calls with their replies, as a history
--   TookEach    the calls of a list were taken as the rules say
use Rattle.std.specs.Prelude.{◌≡◌, ℕ, Bool, List, [], ◌∷◌, ◌++◌}
use Rattle.model.specs.declared.job.Job.{Job}
use Rattle.planning.specs.Hyperperiods.{hyperperiod}
use Rattle.planning.specs.Places.{plan_set}
use Rattle.runs.specs.declared.call.Call.{Call}
use Rattle.runs.specs.Calls.{Reply}
use Rattle.runs.specs.Histories.{History, RanFrom, Ran, event}
use Rattle.runs.specs.Promise.{Promised}
use Rattle.model.specs.declared.ranking.Ranking.{Ghosts}
use Rattle.executive.specs.declared.executive.Executive.{Executive}
use Rattle.executive.specs.Views.{view_of}

-- each call with the reply in the same place, as far as both lists go
abbrev pub events_of : List Call → List Reply → History
events_of [] rs = []
events_of (c ∷ cs) [] = []
events_of (c ∷ cs) (r ∷ rs) = event c r ∷ events_of cs rs

-- Each call gets the reply that the rules say, and the last one leaves the state that they say; plan and
-- ranking stay; the events go on every run that led here; and that longer run keeps the promise.
pub record TookEach {X : Type 0} {B : Ghosts X} (ahead : Job → Job → Bool) (before after : Executive X B) (events : History) : Type 0 where
  pub exact : RanFrom ahead (view_of before) events (view_of after)
  pub plan : after.plan ≡ before.plan
  pub ranking : after.ranking ≡ before.ranking
  pub history : (start : ℕ) (h : History) → Ran ahead (plan_set before.plan).lines start h (view_of before)
      → Ran ahead (plan_set after.plan).lines start (h ++ events) (view_of after)
  pub promised : (start : ℕ) (h : History) → Ran ahead (plan_set before.plan).lines start h (view_of before)
      → Promised ahead (plan_set after.plan).lines (hyperperiod (plan_set after.plan).lines) start (h ++ events) (view_of after)
