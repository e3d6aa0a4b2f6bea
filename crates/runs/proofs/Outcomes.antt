-- What each call comes to: it is refused and leaves the state as it was, or it is accepted.
use Rattle.std.proofs.Common.{◌≡◌, ℕ, ◌+◌, ◌-◌, ◌^◌, ◌<◌, ◌≤◌, Bool, false, List, length, refl, Err, Ok, arith}
use Rattle.model.specs.Ranges.{is_regular}
use Rattle.model.specs.declared.fault.Fault.{Fault}
use Rattle.model.specs.declared.fault.Fault.TheVariants.{NoJob}
use Rattle.model.specs.declared.job.Job.{Job}
use Rattle.runs.specs.declared.call.LastUnit.{LastUnit}
use Rattle.runs.specs.declared.call.LastUnit.TheVariants.{Idle, Running, Ended}
use Rattle.runs.specs.declared.call.Accepted.TheVariants.{Done}
use Rattle.runs.specs.declared.call.Accepted.TheVariants.{Step as UnitGiven}
use Rattle.runs.specs.declared.jitter.Track.{Track}
use Rattle.runs.specs.declared.task.Task.{Task}
use Rattle.runs.specs.Tasks.{ended_early, rested, resumed}
use Rattle.runs.specs.Steps.{stepped, report_of}
use Rattle.runs.specs.Jitter.{note_start}
use Rattle.runs.specs.Calls.{State, state_of, Outcome, last_of, step_of, on_line, end_of, aside_of, rest_of, resume_of}
use Rattle.runs.proofs.Pointwise.{task_of}

-- what an accepted step leaves
abbrev pub after_unit : (Job → Job → Bool) → State → State
after_unit ahead s =
    state_of (s.clock + 1) (stepped ahead s.clock s.tasks) (last_of (report_of ahead s.clock s.tasks))
    (note_start s.clock (report_of ahead s.clock s.tasks) s.tasks s.tracks)

pub step_outcome : (P : Outcome → Type 0) (ahead : Job → Job → Bool) (s : State)
    → ((f : Fault) → P (s, Err f))
    → (s.clock < 10 ^ 12 → P (after_unit ahead s, Ok (UnitGiven (report_of ahead s.clock s.tasks))))
    → P (step_of ahead s)
step_outcome P ahead s refused given = grind arith

end_by : (P : Outcome → Type 0) (t : ℕ) (xs : List Task) (u : LastUnit) (ks : List Track)
    → ((f : Fault) → P (state_of t xs u ks, Err f))
    → ((l : ℕ) → u ≡ Running l → P (state_of t (on_line l ended_early xs) (Ended l) ks, Ok Done))
    → P (end_of (state_of t xs u ks))
end_by P t xs Idle ks refused done = refused NoJob
end_by P t xs (Ended l) ks refused done = refused NoJob
end_by P t xs (Running l) ks refused done = done l refl

pub end_outcome : (P : Outcome → Type 0) (s : State)
    → ((f : Fault) → P (s, Err f))
    → ((l : ℕ) → s.last ≡ Running l → P (state_of s.clock (on_line l ended_early s.tasks) (Ended l) s.tracks, Ok Done))
    → P (end_of s)
end_outcome P s refused done = end_by P s.clock s.tasks s.last s.tracks refused done

-- an ordinary line, by its number
pub record OrdinaryLine (xs : List Task) (number : ℕ) : Type 0 where
  pub some : 0 < number
  pub inside : number ≤ length xs
  pub ordinary : is_regular (task_of xs (number - 1)).line ≡ false

pub rest_outcome : (P : Outcome → Type 0) (number : ℕ) (s : State)
    → ((f : Fault) → P (s, Err f))
    → (OrdinaryLine s.tasks number → P (state_of s.clock (on_line number rested s.tasks) (aside_of number s.last) s.tracks, Ok Done))
    → P (rest_of number s)
rest_outcome P number s refused done = grind arith

pub resume_outcome : (P : Outcome → Type 0) (number : ℕ) (s : State)
    → ((f : Fault) → P (s, Err f))
    → (OrdinaryLine s.tasks number → P (state_of s.clock (on_line number resumed s.tasks) s.last s.tracks, Ok Done))
    → P (resume_of number s)
resume_outcome P number s refused done = grind arith
