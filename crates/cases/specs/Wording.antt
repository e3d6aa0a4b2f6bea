-- Short words, so that a case reads as the rule book writes it.
--   regular, ordinary   a line: r, C, D and T
--   dm, ed              lines under a policy
--   reported            a fault: its number, its layer and its two places
--   rehearsing          the rehearsal of lines under a ranking
--   regular_job, ordinary_job   a job: its line, its release and its D*
--   stepped             a step and its reply
--   unit                a step whose unit was a line's
--   idle_with, idle     a step whose unit was nobody's
--   begins, goes_on, ends, whole   steps that struck nothing out
--   done, refused       other calls and their replies
--   Runs                an executive replies so to these calls
--   counted             the counts of a line that never rested
--   state_after         what an executive is left with after these calls
--   starts, figures     a start: its round and its instant; five jitter figures
use Rattle.std.specs.Prelude.{ℕ, Bool, true, false, List, fold, Some, None, Ok, Err, Option, Result}
use Rattle.model.specs.declared.fault.Fault.{Fault}
use Rattle.model.specs.declared.fault.FaultCode.{FaultCode}
use Rattle.model.specs.declared.job.Job.{Job}
use Rattle.model.specs.declared.kind.Kind.{Kind}
use Rattle.model.specs.declared.kind.Kind.TheVariants.{Ordinary, Regular}
use Rattle.model.specs.declared.line.Line.{Line}
use Rattle.model.specs.declared.policy.Policy.TheVariants.{Dm, Ed}
use Rattle.model.specs.Rankings.{dm_ahead}
use Rattle.model.specs.TaskSets.{TaskSet, task_set}
use Rattle.planning.specs.Hyperperiods.{hyperperiod}
use Rattle.runs.specs.declared.call.Accepted.TheVariants.{Done}
use Rattle.runs.specs.declared.call.Call.{Call}
use Rattle.runs.specs.declared.call.UnitReport.{UnitReport}
use Rattle.runs.specs.declared.jitter.Figures.{Figures}
use Rattle.runs.specs.declared.jitter.Start.{Start}
use Rattle.runs.specs.declared.task.Counts.{Counts}
use Rattle.runs.specs.Calls.{State, begun, next_of}
use Rattle.runs.specs.Histories.{Event, History, event, unit_event, Ran}
use Rattle.runs.specs.Rehearsals.{rehearsal_of}

abbrev line : Kind → ℕ → ℕ → ℕ → ℕ → Line
line k r c d t = record { kind = k; offset = r; length = c; deadline = d; period = t }

-- A regular line, its figures in the order of the sheet.
abbrev pub regular : ℕ → ℕ → ℕ → ℕ → Line
regular = line Regular

-- An ordinary line, its figures in the order of the sheet.
abbrev pub ordinary : ℕ → ℕ → ℕ → ℕ → Line
ordinary = line Ordinary

-- Lines under DM.
abbrev pub dm : List Line → TaskSet
dm = task_set Dm

-- Lines under ED.
abbrev pub ed : List Line → TaskSet
ed = task_set Ed

-- What is reported of a fault: its number, its layer and its two places.
abbrev pub reported : ℕ → ℕ → ℕ → ℕ → FaultCode
reported n l p q = record { number = n; layer = l; first = p; second = q }

-- What the rehearsal of these lines comes to under a ranking.
abbrev pub rehearsing : (Job → Job → Bool) → List Line → Result (Unit {0}) Fault
rehearsing ahead ls = rehearsal_of ahead (hyperperiod ls) ls

abbrev job : Kind → ℕ → ℕ → ℕ → Job
job k l r d = record { line = l; kind = k; release = r; deadline = d; period = 16 }

-- A job of a regular line: the line's number, the release and D*.
abbrev pub regular_job : ℕ → ℕ → ℕ → Job
regular_job = job Regular

-- A job of an ordinary line: the line's number, the release and D*.
abbrev pub ordinary_job : ℕ → ℕ → ℕ → Job
ordinary_job = job Ordinary

-- An accepted step: whose the unit was, and how many were struck out.
abbrev stepped : Option UnitReport → ℕ → Event
stepped o n = unit_event (record { unit = o; struck = n })

-- A line had the unit: whether the job began and ended, and how many were struck out.
abbrev pub unit : ℕ → Bool → Bool → ℕ → Event
unit l b e n = stepped (Some (record { line = l; began = b; ended = e })) n

-- Nobody had the unit, and so many were struck out.
abbrev pub idle_with : ℕ → Event
idle_with n = stepped None n

-- Nobody had the unit.
abbrev pub idle : Event
idle = idle_with 0

-- A job of this line had its first unit, and more are left.
abbrev pub begins : ℕ → Event
begins l = unit l true false 0

-- A job of this line had neither its first nor its last unit.
abbrev pub goes_on : ℕ → Event
goes_on l = unit l false false 0

-- A job of this line had its last unit, which was not its first.
abbrev pub ends : ℕ → Event
ends l = unit l false true 0

-- A job of this line had its only unit.
abbrev pub whole : ℕ → Event
whole l = unit l true true 0

-- A call that was accepted.
abbrev pub done : Call → Event
done c = event c (Ok Done)

-- A call that was refused.
abbrev pub refused : Call → Fault → Event
refused c f = event c (Err f)

-- Under DM an executive that is started on these lines at this instant gives these replies to these calls.
pub record Runs (ls : List Line) (start : ℕ) (h : History) : Type 0 where
  pub left : State
  pub ran : Ran dm_ahead ls start h left

-- Jobs made, ended and missed; none was set aside.
abbrev pub counted : ℕ → ℕ → ℕ → Counts
counted m e x = record { made = m; ended = e; missed = x; aside = 0 }

-- Under DM an executive that is started on these lines at this instant is left so by the calls of a history.
abbrev pub state_after : List Line → ℕ → History → State
state_after ls start h = fold (λ s e. (next_of dm_ahead s e.call).0) (begun start ls) h

-- A start: the round of its job, and its instant.
abbrev pub starts : ℕ → ℕ → Start
starts k t = record { round = k; instant = t }

-- A line's jitter figures, in the order in which they are printed.
abbrev pub figures : ℕ → ℕ → ℕ → ℕ → ℕ → Figures
figures n s l p q = record { number = n; sum = s; largest = l; numerator = p; denominator = q }
