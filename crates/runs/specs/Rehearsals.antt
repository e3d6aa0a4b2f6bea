-- The rehearsal: a plan's lines run from instant 0, each job at its full length, with no other call.
--   share_of, load_of   units that a line, and all lines, take up in one hyperperiod
--   last_offset         the largest offset, 0 without lines
--   miss_at             a step that strikes a job out misses the lowest such line
--   run_units           some units from an instant on, up to the first job that is struck out
--   units_left          the units left on every line
--   same_left           the same units left on every line of two lists
--   between_marks       run to the first mark and on to the second, and compare the units left
--   rehearsal_of        what the rehearsal comes to
use Rattle.std.specs.Prelude.{ℕ, zero, suc, ◌+◌, ◌*◌, ◌/◌, max, Bool, if◌then◌else◌, List, map, fold, sum_by, Some, None, Ok, Err, Option, Result, nat_eq, nat_lt}
use Rattle.std.specs.Cmp.Lexicographic.{pointwise}
use Rattle.model.specs.declared.fault.Fault.{Fault}
use Rattle.model.specs.declared.fault.Fault.TheVariants.{Overload, Missed, Unsettled}
use Rattle.model.specs.declared.job.Job.{Job}
use Rattle.model.specs.declared.line.Line.{Line}
pub use Rattle.model.specs.Results.{and_then}
use Rattle.runs.specs.declared.task.Task.{Task}
use Rattle.runs.specs.Tasks.{new_tasks}
use Rattle.runs.specs.Steps.{stepped, lowest_due}

abbrev pub share_of : ℕ → Line → ℕ
share_of h l = l.length * h / l.period

abbrev pub load_of : ℕ → List Line → ℕ
load_of h ls = sum_by (share_of h) ls

abbrev pub last_offset : List Line → ℕ
last_offset ls = fold (λ m l. max m l.offset) 0 ls

-- a line that is struck out at t is a miss
abbrev pub miss_of : ℕ → Option ℕ → Result (Unit {0}) Fault
miss_of t None = Ok tt
miss_of t (Some line) = Err (Missed t line)

abbrev pub miss_at : ℕ → List Task → Result (Unit {0}) Fault
miss_at t xs = miss_of t (lowest_due t xs)

-- n units from instant t on
abbrev pub run_units : (Job → Job → Bool) → ℕ → ℕ → List Task → Result (List Task) Fault
run_units ahead zero t xs = Ok xs
run_units ahead (suc n) t xs = and_then (miss_at t xs) (λ _. run_units ahead n (suc t) (stepped ahead t xs))

abbrev pub units_left : List Task → List ℕ
units_left xs = map (λ x. x.left) xs

-- the same units left on every line
abbrev pub same_left : List Task → List Task → Bool
same_left xs ys = pointwise nat_eq (units_left xs) (units_left ys)

abbrev pub settled : List Task → List Task → Result (Unit {0}) Fault
settled first second = if same_left first second then Ok tt else Err Unsettled

-- from instant 0 to the first mark, and the hyperperiod h on to the second
abbrev pub between_marks : (Job → Job → Bool) → ℕ → ℕ → List Task → Result (Unit {0}) Fault
between_marks ahead mark h xs =
    and_then (run_units ahead mark 0 xs) (λ first.
    and_then (run_units ahead h mark first) (λ second. settled first second))

-- The marks are one and two hyperperiods h after the largest offset.
abbrev pub rehearsal_of : (Job → Job → Bool) → ℕ → List Line → Result (Unit {0}) Fault
rehearsal_of ahead h ls = if nat_lt h (load_of h ls) then Err Overload else between_marks ahead (last_offset ls + h) h (new_tasks 1 ls)
