-- One unit of time: who gets it, and what all lines hold after it.
--   first_of     the line whose pending job goes ahead of all other pending jobs
--   stepped      all lines after the unit at an instant
--   lowest_due   the lowest line with a job that is struck out at an instant
--   report_of    what a step replies
--   line_of      the line that had a step's unit, or 0
--   Numbered     lines carry their numbers, counted from a number on
--   WellFormed   at most 24 lines, numbered from 1, with periods, released before 10^12
--   First        a line whose pending job goes ahead of every other pending job
--   ToFirst      the unit goes to that line, or to none if no line is pending
use Rattle.std.specs.Prelude.{◌≡◌, ℕ, zero, suc, ◌+◌, ◌^◌, ◌<◌, ◌≤◌, Bool, true, false, ◌&&◌, if◌then◌else◌, List, [], ◌∷◌, map, length, fold, find, Some, None, count_by, Option, option_map, unwrap_or, ◌==◌, ◌≢◌, slice_index_or}
use Rattle.std.specs.List.{AllByRecursion}
use Rattle.model.specs.declared.job.Job.{Job}
use Rattle.runs.specs.declared.task.Task.{Task}
use Rattle.runs.specs.declared.call.StepReport.{StepReport}
use Rattle.runs.specs.declared.call.UnitReport.{UnitReport}
use Rattle.runs.specs.Tasks.{pending, due, arrived, job_of, served}

-- the better of the best line so far and one more
abbrev pub better : (Job → Job → Bool) → Option Task → Task → Option Task
better ahead None x = if pending x then Some x else None
better ahead (Some b) x = if pending x && ahead (job_of x) (job_of b) then Some x else Some b

abbrev pub first_from : (Job → Job → Bool) → Option Task → List Task → Option Task
first_from ahead best xs = fold (better ahead) best xs

abbrev pub first_of : (Job → Job → Bool) → List Task → Option Task
first_of ahead xs = first_from ahead None xs

-- 0 where nobody gets the unit, as in the units of a history
abbrev pub number_of : Option Task → ℕ
number_of o = unwrap_or (option_map (λ x. x.number) o) 0

abbrev pub arrived_all : ℕ → List Task → List Task
arrived_all t xs = map (arrived t) xs

-- Strike out what is due, admit what arrives, and give the unit to the first.
abbrev pub stepped : (Job → Job → Bool) → ℕ → List Task → List Task
stepped ahead t xs = map (served (number_of (first_of ahead (arrived_all t xs)))) (arrived_all t xs)

abbrev pub lowest_due : ℕ → List Task → Option ℕ
lowest_due t xs = option_map (λ x. x.number) (find (due t) xs)

-- a job begins with its first unit and ends with its last
abbrev pub unit_for : Task → UnitReport
unit_for x = record { line = x.number; began = (x.left == x.line.length); ended = (x.left == 1) }

abbrev pub report_for : Option Task → ℕ → StepReport
report_for o n = record { unit = option_map unit_for o; struck = n }

abbrev pub report_of : (Job → Job → Bool) → ℕ → List Task → StepReport
report_of ahead t xs = report_for (first_of ahead (arrived_all t xs)) (count_by (due t) xs)

abbrev pub line_of : StepReport → ℕ
line_of r = unwrap_or (option_map (λ u. u.line) r.unit) 0

abbrev pub Numbered : ℕ → List Task → Type 0
Numbered n [] = Unit {0}
Numbered n (x ∷ xs) = (x.number ≡ n) × Numbered (n + 1) xs

-- a line that has a period, and a job that was released before 10^12
abbrev pub Timed : Task → Type 0
Timed x = (0 < x.line.period) × (x.release < 10 ^ 12)

abbrev pub WellFormed : List Task → Type 0
WellFormed xs = Numbered 1 xs × (length xs ≤ 24) × AllByRecursion Timed xs

-- The line at place i is pending, and its job goes ahead of that of every other pending line.
abbrev pub First : (Job → Job → Bool) → List Task → ℕ → Type 0
First ahead xs i = (i < length xs) × ((d : Task) → pending (slice_index_or xs i d) ≡ true)
    × ((k : ℕ) (d : Task) → k < length xs → (k ≢ i) → pending (slice_index_or xs k d) ≡ true → ahead (job_of (slice_index_or xs i d)) (job_of (slice_index_or xs k d)) ≡ true)

-- Line n, which stands at place n - 1, is the first; n is 0 only if no line is pending.
abbrev pub ToFirst : (Job → Job → Bool) → List Task → ℕ → Type 0
ToFirst ahead xs zero = AllByRecursion (λ x. pending x ≡ false) xs
ToFirst ahead xs (suc i) = First ahead xs i
