-- The rehearsal as rules on the run of a plan's lines, with no order of tests in them.
--   state_at                  all lines before the step at an instant, in the run from instant 0
--   NoneStruckBelow           no job is struck out before an instant
--   LowestStruck              a line has a job that is struck out, and no lower line has one
--   first_mark, second_mark   the instants at which the units left are looked at
--   SameAtMarks               they are the same on every line
--   Rehearsed                 the results that the rules permit
--   OnlyRehearsed             the rules permit this result, and no other
use Rattle.std.specs.Prelude.{◌≡◌, ℕ, zero, suc, ◌+◌, ◌<◌, ◌≤◌, Bool, true, false, List, length, Ok, Err, Result, slice_index_or}
use Rattle.std.specs.List.{AllByRecursion}
use Rattle.model.specs.declared.fault.Fault.{Fault}
use Rattle.model.specs.declared.fault.Fault.TheVariants.{Overload, Missed, Unsettled}
use Rattle.model.specs.declared.job.Job.{Job}
use Rattle.model.specs.declared.line.Line.{Line}
use Rattle.runs.specs.declared.task.Task.{Task}
use Rattle.runs.specs.Tasks.{due, new_tasks}
use Rattle.runs.specs.Steps.{stepped}
use Rattle.runs.specs.Rehearsals.{load_of, last_offset, units_left}

abbrev pub state_at : (Job → Job → Bool) → List Line → ℕ → List Task
state_at ahead ls zero = new_tasks 1 ls
state_at ahead ls (suc t) = stepped ahead t (state_at ahead ls t)

abbrev pub NoneStruckBelow : (Job → Job → Bool) → List Line → ℕ → Type 0
NoneStruckBelow ahead ls n = (t : ℕ) → t < n → AllByRecursion (λ x. due t x ≡ false) (state_at ahead ls t)

-- line i + 1 stands at place i
abbrev pub LowestStruck : ℕ → List Task → ℕ → Type 0
LowestStruck t xs zero = ⊥
LowestStruck t xs (suc i) = (i < length xs) × ((d : Task) → due t (slice_index_or xs i d) ≡ true) × ((k : ℕ) (d : Task) → k < i → due t (slice_index_or xs k d) ≡ false)

-- the marks are one and two hyperperiods h after the largest offset
abbrev pub first_mark : ℕ → List Line → ℕ
first_mark h ls = last_offset ls + h

abbrev pub second_mark : ℕ → List Line → ℕ
second_mark h ls = last_offset ls + h + h

abbrev pub SameAtMarks : (Job → Job → Bool) → ℕ → List Line → Type 0
SameAtMarks ahead h ls = units_left (state_at ahead ls (first_mark h ls)) ≡ units_left (state_at ahead ls (second_mark h ls))

-- It passes if the load is at most h, no job is struck out before the second mark, and the units
-- left are the same at both marks. A miss names the instant before which nothing was struck out.
pub data Rehearsed (ahead : Job → Job → Bool) (h : ℕ) (ls : List Line) : Result (Unit {0}) Fault → Type 0 where
  passed : load_of h ls ≤ h → NoneStruckBelow ahead ls (second_mark h ls) → SameAtMarks ahead h ls → Rehearsed ahead h ls (Ok tt)
  overload : h < load_of h ls → Rehearsed ahead h ls (Err Overload)
  missed : (t line : ℕ) → load_of h ls ≤ h → t < second_mark h ls → NoneStruckBelow ahead ls t → LowestStruck t (state_at ahead ls t) line → Rehearsed ahead h ls (Err (Missed t line))
  unsettled : load_of h ls ≤ h → NoneStruckBelow ahead ls (second_mark h ls) → (SameAtMarks ahead h ls → ⊥) → Rehearsed ahead h ls (Err Unsettled)

abbrev pub OnlyRehearsed : (Job → Job → Bool) → ℕ → List Line → Result (Unit {0}) Fault → Type 0
OnlyRehearsed ahead h ls r = Rehearsed ahead h ls r × ((q : Result (Unit {0}) Fault) → Rehearsed ahead h ls q → q ≡ r)
