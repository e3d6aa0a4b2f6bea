-- What each call makes of the state of an executive, by what its parts found.
use Rattle.std.proofs.Common.{◌≡◌, ℕ, ◌-◌, ◌<◌, ◌≤◌, true, false, List, length, Some, None, Ok, Err, refl, arith}
use Rattle.std.proofs.lemmas.Bool.Decides.{nat_tests}
use Rattle.std.proofs.lemmas.Grind.{common_steps}
use Rattle.model.specs.declared.fault.Fault.{Fault}
use Rattle.model.specs.declared.fault.Fault.TheVariants.{ClockAtEnd, NoJob, RestAsItIs}
use Rattle.model.specs.declared.job.Job.{Job}
use Rattle.std.proofs.Common.{Bool}
use Rattle.executive.specs.declared.between.Event.TheVariants.{EarlyEnd, SetAside}
use Rattle.executive.specs.declared.slot.Slot.{Slot}
use Rattle.executive.specs.declared.slots.Slots.{Slots}
use Rattle.runs.specs.declared.call.Accepted.TheVariants.{Done}
use Rattle.runs.specs.declared.call.LastUnit.{LastUnit}
use Rattle.runs.specs.declared.call.LastUnit.TheVariants.{Idle, Running, Ended}
use Rattle.runs.specs.declared.jitter.Track.{Track}
use Rattle.runs.specs.declared.task.Task.{Task}
use Rattle.runs.specs.Calls.{State, aside_of, end_of, last_clock, on_line, rest_of, resume_of, state_of, step_of}
use Rattle.runs.specs.Tasks.{rested, resumed}
use Rattle.executive.specs.Changes.{ended_by, last_after, line_in, ordinary_in}
use Rattle.executive.specs.Slots.{tasks_of}
use Rattle.executive.proofs.Places.{slot_at, length_tasks, task_at}

pub step_refused : (ahead : Job → Job → Bool) (s : State) → last_clock ≤ s.clock → step_of ahead s ≡ (s, Err (ClockAtEnd s.clock))
step_refused ahead s late = grind (arith, nat_tests)

-- the line whose job an early end takes is that of the last unit
pub ends_running : (u : LastUnit) (l : ℕ) → Some l ≡ ended_by u EarlyEnd → (u ≡ Running l) × (last_after u EarlyEnd ≡ Ended l)
ends_running Idle l e = grind arith
ends_running (Ended k) l e = grind arith
ends_running (Running k) l e = grind arith

pub end_refused : (t : ℕ) (xs : List Task) (u : LastUnit) (ks : List Track) → None ≡ ended_by u EarlyEnd → end_of (state_of t xs u ks) ≡ (state_of t xs (last_after u EarlyEnd) ks, Err NoJob)
end_refused t xs Idle ks e = refl
end_refused t xs (Ended l) ks e = refl
end_refused t xs (Running l) ks e = grind arith

pub end_leaves : (u : LastUnit) → None ≡ ended_by u EarlyEnd → last_after u EarlyEnd ≡ u
end_leaves Idle e = refl
end_leaves (Ended l) e = refl
end_leaves (Running l) e = grind arith

pub aside_as : (n : ℕ) (u : LastUnit) → last_after u (SetAside n) ≡ aside_of n u
aside_as n Idle = refl
aside_as n (Ended l) = refl
aside_as n (Running l) = refl

-- the line that a look-up found
pub line_is : (number : ℕ) (xs : List Slot) (y : Slot) → Ok y ≡ line_in number xs → (0 < number) × (number ≤ length xs) × (y ≡ slot_at xs (number - 1))
line_is number xs y e = grind (arith, nat_tests)

pub ordinary_number : (s : Slots) (number : ℕ) (y : Slot) → Ok y ≡ ordinary_in number s.list.items → y.task.number ≡ number
ordinary_number s number y e = grind (arith, nat_tests, s.kept (number - 1))

-- a rest or a resume, by what the look-up of its line found
module _ (number : ℕ) (xs : List Slot) (s : State) (tasks : s.tasks ≡ tasks_of xs) where
  pub rest_refused : (e : Fault) → Err e ≡ ordinary_in number xs → rest_of number s ≡ (s, Err e)
  rest_refused e is = grind (arith, nat_tests, common_steps, length_tasks, task_at)

  pub resume_refused : (e : Fault) → Err e ≡ ordinary_in number xs → resume_of number s ≡ (s, Err e)
  resume_refused e is = grind (arith, nat_tests, common_steps, length_tasks, task_at)

  module _ (y : Slot) (is : Ok y ≡ ordinary_in number xs) where
    pub rest_resting : y.task.resting ≡ true → rest_of number s ≡ (s, Err (RestAsItIs number))
    rest_resting r = grind (arith, nat_tests, common_steps, length_tasks, task_at)

    pub rest_taken : y.task.resting ≡ false → rest_of number s ≡ (state_of s.clock (on_line number rested s.tasks) (aside_of number s.last) s.tracks, Ok Done)
    rest_taken r = grind (arith, nat_tests, common_steps, length_tasks, task_at)

    pub resume_awake : y.task.resting ≡ false → resume_of number s ≡ (s, Err (RestAsItIs number))
    resume_awake r = grind (arith, nat_tests, common_steps, length_tasks, task_at)

    pub resume_taken : y.task.resting ≡ true → resume_of number s ≡ (state_of s.clock (on_line number resumed s.tasks) s.last s.tracks, Ok Done)
    resume_taken r = grind (arith, nat_tests, common_steps, length_tasks, task_at)
