-- What every executive keeps between its calls, beside what its lines under way keep.
--   lines_of       the lines of lines under way
--   StillPending   where the last unit is said to be of a pending job, that job is pending
use Rattle.std.specs.Prelude.{◌≡◌, ℕ, ◌-◌, ◌<◌, ◌≤◌, true, List, map, length, slice_index_or}
use Rattle.model.specs.declared.line.Line.{Line}
use Rattle.runs.specs.declared.call.LastUnit.{LastUnit}
use Rattle.runs.specs.declared.call.LastUnit.TheVariants.{Running}
use Rattle.runs.specs.declared.task.Task.{Task}
use Rattle.runs.specs.Tasks.{pending, blank_task}

-- the plan's lines, as they stand in the lines under way
abbrev pub lines_of : List Task → List Line
lines_of xs = map (λ x. x.line) xs

-- the line of a unit whose job is not over is one of the list's, and has a pending job
abbrev pub StillPending : LastUnit → List Task → Type 0
StillPending u xs = (l : ℕ) → u ≡ Running l → (0 < l) × (l ≤ length xs) × (pending (slice_index_or xs (l - 1) blank_task) ≡ true)
