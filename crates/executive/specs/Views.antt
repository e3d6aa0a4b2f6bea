-- An executive as the rules see it, and what a call on it must do.
--   view_of            the state of an executive
--   unit_or, done_or   a result as a reply
--   Took               a call was taken as the rules say
use Rattle.std.specs.Prelude.{◌≡◌, ℕ, Bool, [], ◌∷◌, ◌++◌, Ok, Err, Result}
use Rattle.model.specs.declared.fault.Fault.{Fault}
use Rattle.model.specs.declared.job.Job.{Job}
use Rattle.runs.specs.declared.call.Call.{Call}
use Rattle.runs.specs.declared.call.Accepted.TheVariants.{Done}
use Rattle.runs.specs.declared.call.Accepted.TheVariants.{Step as UnitGiven}
use Rattle.runs.specs.declared.call.StepReport.{StepReport}
use Rattle.model.specs.declared.ranking.Ranking.{Ghosts}
use Rattle.executive.specs.declared.executive.Executive.{Executive}
use Rattle.runs.specs.Calls.{Reply, State, state_of, next_of}
use Rattle.runs.specs.Histories.{History, Ran, event}
use Rattle.runs.specs.Promise.{Promised}
use Rattle.planning.specs.Hyperperiods.{hyperperiod}
use Rattle.planning.specs.Places.{plan_set}
use Rattle.executive.specs.Slots.{tasks_of, tracks_of}

-- its clock, the lines of its plan under way, where the last unit went, and the tracks of the lines
abbrev pub view_of : {X : Type 0} {B : Ghosts X} → Executive X B → State
view_of x = state_of x.slots.clock (tasks_of x.slots.list.items) x.last (tracks_of x.slots.list.items)

-- what a step returned
abbrev pub unit_or : Result StepReport Fault → Reply
unit_or (Ok r) = Ok (UnitGiven r)
unit_or (Err e) = Err e

-- what another call returned
abbrev pub done_or : Result (Unit {0}) Fault → Reply
done_or (Ok _) = Ok Done
done_or (Err e) = Err e

-- The call leaves the state and gets the reply that the rules say; plan and ranking stay; it is one event
-- more of every run that led here; and that longer run keeps the promise.
pub record Took {X : Type 0} {B : Ghosts X} (ahead : Job → Job → Bool) (before after : Executive X B) (call : Call) (told : Reply) : Type 0 where
  pub state : view_of after ≡ (next_of ahead (view_of before) call).0
  pub reply : told ≡ (next_of ahead (view_of before) call).1
  pub plan : after.plan ≡ before.plan
  pub ranking : after.ranking ≡ before.ranking
  pub history : (start : ℕ) (h : History) → Ran ahead (plan_set before.plan).lines start h (view_of before)
      → Ran ahead (plan_set after.plan).lines start (h ++ event call told ∷ []) (view_of after)
  pub promised : (start : ℕ) (h : History) → Ran ahead (plan_set before.plan).lines start h (view_of before)
      → Promised ahead (plan_set after.plan).lines (hyperperiod (plan_set after.plan).lines) start (h ++ event call told ∷ []) (view_of after)
