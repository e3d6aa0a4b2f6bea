-- The state of an executive, and what one call makes of it and replies.
--   Reply        what an accepted call comes to, or the fault
--   State        the clock, the lines under way, where the last unit went, and the tracks of the lines
--   last_clock   the clock at which no step is taken any more
--   begun        an executive that has been started
--   is_line      there is a line of that number
--   step_of, end_of, rest_of, resume_of   the four calls
--   next_of      any of them
use Rattle.std.specs.Prelude.{ℕ, ◌+◌, ◌-◌, ◌^◌, min, Bool, true, false, ◌&&◌, if◌then◌else◌, List, map, length, Ok, Err, option_map, unwrap_or, Result, ◌==◌, nat_le, nat_lt, slice_index_or}
use Rattle.std.specs.Bool.{beq}
use Rattle.model.specs.Ranges.{is_regular}
use Rattle.model.specs.declared.fault.Fault.{Fault}
use Rattle.model.specs.declared.fault.Fault.TheVariants.{ClockAtEnd, NoJob, NoSuchLine, RegularLine, RestAsItIs}
use Rattle.model.specs.declared.job.Job.{Job}
use Rattle.model.specs.declared.line.Line.{Line}
use Rattle.runs.specs.declared.call.Accepted.{Accepted}
use Rattle.runs.specs.declared.call.Accepted.TheVariants.{Done}
use Rattle.runs.specs.declared.call.Accepted.TheVariants.{Step as UnitGiven}
use Rattle.runs.specs.declared.call.Call.{Call}
use Rattle.runs.specs.declared.call.Call.TheVariants.{Step, EarlyEnd, Rest, Resume}
use Rattle.runs.specs.declared.call.LastUnit.{LastUnit}
use Rattle.runs.specs.declared.call.LastUnit.TheVariants.{Idle, Running, Ended}
use Rattle.runs.specs.declared.call.StepReport.{StepReport}
use Rattle.runs.specs.declared.call.UnitReport.{UnitReport}
use Rattle.runs.specs.declared.jitter.Track.{Track}
use Rattle.runs.specs.declared.task.Task.{Task}
use Rattle.runs.specs.Jitter.{no_tracks, note_start}
use Rattle.runs.specs.Tasks.{new_tasks, blank_task, ended_early, rested, resumed}
use Rattle.runs.specs.Steps.{stepped, report_of}

abbrev pub Reply : Type 0
Reply = Result Accepted Fault

pub record State : Type 0 where
  pub clock : ℕ
  pub tasks : List Task
  pub last : LastUnit
  pub tracks : List Track

abbrev pub state_of : ℕ → List Task → LastUnit → List Track → State
state_of t xs u ks = record { clock = t; tasks = xs; last = u; tracks = ks }

-- what a call leaves, and what it replies
abbrev pub Outcome : Type 0
Outcome = State × Reply

abbrev pub last_clock : ℕ
last_clock = 10 ^ 12

abbrev pub begun : ℕ → List Line → State
begun start ls = state_of (min start last_clock) (new_tasks 1 ls) Idle (no_tracks ls)

abbrev refused_as : Fault → State → Outcome
refused_as f s = (s, Err f)

-- where a unit went, by what its step reported
abbrev pub went_to : UnitReport → LastUnit
went_to u = if u.ended then Ended u.line else Running u.line

abbrev pub last_of : StepReport → LastUnit
last_of r = unwrap_or (option_map went_to r.unit) Idle

module _ (ahead : Job → Job → Bool) where
  abbrev pub step_of : State → Outcome
  step_of s =
      let r : StepReport = report_of ahead s.clock s.tasks in
      if nat_lt s.clock last_clock then (state_of (s.clock + 1) (stepped ahead s.clock s.tasks) (last_of r) (note_start s.clock r s.tasks s.tracks), Ok (UnitGiven r))
      else refused_as (ClockAtEnd s.clock) s

-- line `number` alone is changed
abbrev pub on_line : ℕ → (Task → Task) → List Task → List Task
on_line number f xs = map (λ x. if x.number == number then f x else x) xs

-- An early end is accepted exactly if the last unit went to a job that is still pending.
abbrev end_at : LastUnit → State → Outcome
end_at Idle s = refused_as NoJob s
end_at (Ended l) s = refused_as NoJob s
end_at (Running l) s = (state_of s.clock (on_line l ended_early s.tasks) (Ended l) s.tracks, Ok Done)

abbrev pub end_of : State → Outcome
end_of s = end_at s.last s

-- the last unit after the job of line `number` was set aside
abbrev pub aside_of : ℕ → LastUnit → LastUnit
aside_of number Idle = Idle
aside_of number (Ended l) = Ended l
aside_of number (Running l) = if l == number then Ended l else Running l

-- the numbers of n lines
abbrev pub is_line : ℕ → ℕ → Bool
is_line n number = nat_le 1 number && nat_le number n

-- Rest and resume look first whether there is such a line, then at its kind, then whether it rests.
abbrev change_rest : Bool → ℕ → State → Outcome → Outcome
change_rest resting number s done =
    let x : Task = slice_index_or s.tasks (number - 1) blank_task in
    if is_line (length s.tasks) number then
    (if is_regular x.line then refused_as (RegularLine number) s
    else (if beq x.resting resting then refused_as (RestAsItIs number) s
    else done))
    else refused_as (NoSuchLine number) s

abbrev pub rest_of : ℕ → State → Outcome
rest_of number s = change_rest true number s (state_of s.clock (on_line number rested s.tasks) (aside_of number s.last) s.tracks, Ok Done)

abbrev pub resume_of : ℕ → State → Outcome
resume_of number s = change_rest false number s (state_of s.clock (on_line number resumed s.tasks) s.last s.tracks, Ok Done)

abbrev pub next_of : (Job → Job → Bool) → State → Call → Outcome
next_of ahead s Step = step_of ahead s
next_of ahead s EarlyEnd = end_of s
next_of ahead s (Rest number) = rest_of number s
next_of ahead s (Resume number) = resume_of number s
