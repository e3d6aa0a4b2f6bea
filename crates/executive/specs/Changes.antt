-- What a call between steps asks for.
--   place_in               the place of a line by its number, or that there is no such line
--   line_in, ordinary_in   the line of that number, and it if it is ordinary
--   changed                a line under way after a change
--   Allows                 what a line must be for that
--   last_after             where the last unit went, after an event
--   ended_by               the line whose job an event ends early, if it does
--   counts_of, counts_in   what became of a line's jobs, by its number
use Rattle.std.specs.Prelude.{◌≡◌, ℕ, ◌-◌, true, false, if◌then◌else◌, List, length, Some, None, Ok, Err, Option, Result, ◌==◌, slice_index_or}
use Rattle.model.specs.Ranges.{is_regular}
use Rattle.model.specs.declared.fault.Fault.{Fault}
use Rattle.model.specs.declared.fault.Fault.TheVariants.{NoSuchLine, RegularLine}
use Rattle.executive.specs.declared.between.Change.{Change}
use Rattle.executive.specs.declared.between.Change.TheVariants.{EndEarly, Rest, Resume}
use Rattle.executive.specs.declared.between.Event.{Event}
use Rattle.executive.specs.declared.between.Event.TheVariants.{EarlyEnd, SetAside}
use Rattle.runs.specs.declared.call.CountsReport.{CountsReport}
use Rattle.runs.specs.declared.call.LastUnit.{LastUnit}
use Rattle.runs.specs.declared.call.LastUnit.TheVariants.{Idle, Running, Ended}
use Rattle.executive.specs.declared.slot.Slot.{Slot}
use Rattle.runs.specs.declared.task.Task.{Task}
use Rattle.runs.specs.Calls.{is_line}
use Rattle.executive.specs.Slots.{blank_slot}
use Rattle.runs.specs.Tasks.{pending, blank_task, ended_early, rested, resumed}

-- the place of line `number` among n lines, which are numbered from 1
abbrev pub place_in : ℕ → ℕ → Result ℕ Fault
place_in n number = if is_line n number then Ok (number - 1) else Err (NoSuchLine number)

abbrev pub line_in : ℕ → List Slot → Result Slot Fault
line_in number xs = if is_line (length xs) number then Ok (slice_index_or xs (number - 1) blank_slot) else Err (NoSuchLine number)

-- only an ordinary line may rest and resume
abbrev pub ordinary_in : ℕ → List Slot → Result Slot Fault
ordinary_in number xs =
    let x : Slot = slice_index_or xs (number - 1) blank_slot in
    if is_line (length xs) number then (if is_regular x.task.line then Err (RegularLine number) else Ok x) else Err (NoSuchLine number)

abbrev pub changed : Change → Task → Task
changed EndEarly x = ended_early x
changed Rest x = rested x
changed Resume x = resumed x

-- only a pending job ends early, and only an ordinary line rests
abbrev pub Allows : Change → Task → Type 0
Allows EndEarly x = pending x ≡ true
Allows Rest x = is_regular x.line ≡ false
Allows Resume x = Unit {0}

-- An early end is the end of the last unit's job, and so is the setting aside of that job.
abbrev pub last_after : LastUnit → Event → LastUnit
last_after Idle e = Idle
last_after (Ended l) e = Ended l
last_after (Running l) EarlyEnd = Ended l
last_after (Running l) (SetAside number) = if l == number then Ended l else Running l

-- only a job that is still pending can end early
abbrev pub ended_by : LastUnit → Event → Option ℕ
ended_by Idle e = None
ended_by (Ended l) e = None
ended_by (Running l) EarlyEnd = Some l
ended_by (Running l) (SetAside number) = None

-- a pending job counts as one
abbrev pub counts_of : Task → CountsReport
counts_of x = record { made = x.counts.made; ended = x.counts.ended; missed = x.counts.missed; aside = x.counts.aside; pending = (if pending x then 1 else 0) }

-- the counts of line `number`, if there is one
abbrev pub counts_in : ℕ → List Task → Result CountsReport Fault
counts_in number xs = if is_line (length xs) number then Ok (counts_of (slice_index_or xs (number - 1) blank_task)) else Err (NoSuchLine number)
