-- What one call that prints replies, what its buffer holds then, and what its desk holds.
--   rehearsed             the rehearsal of a plan, under the ranking of its policy
--   planned_from          the plan of a text, or the fault of reading or planning
--   report_text           what is printed of a plan, or of the fault that stood in its way
--   report_of             what is printed of a text
--   buffer_least          the shortest buffer that is taken
--   reply_of              the reply: the number of bytes, or the refusal
--   buffer_of             the buffer after the call
--   kept_or, held_after   what a place holds after a call that fills it
use Rattle.std.specs.Prelude.{ℕ, cond, List, length, Ok, Err, Result, nat_lt}
use Rattle.std.specs.Result.{result_err}
use Rattle.model.specs.declared.fault.Fault.{Fault}
use Rattle.model.specs.declared.fault.Fault.TheVariants.{BufferTooSmall}
pub use Rattle.model.specs.Rankings.{ahead_of}
use Rattle.model.specs.Results.{and_then}
use Rattle.model.specs.TaskSets.{TaskSet}
use Rattle.sheet.specs.Reading.{read_sheet}
use Rattle.planning.specs.Hyperperiods.{hyperperiod}
use Rattle.planning.specs.Plans.{plan_of}
use Rattle.runs.specs.Rehearsals.{rehearsal_of}
use Rattle.report.specs.Pages.{written}
use Rattle.report.specs.Printed.{fault_line, outcome_text}

abbrev pub rehearsed : TaskSet → Result (Unit {0}) Fault
rehearsed plan = rehearsal_of (ahead_of plan.policy) (hyperperiod plan.lines) plan.lines

abbrev pub planned_from : List ℕ → Result TaskSet Fault
planned_from text = and_then (read_sheet text) plan_of

-- A plan prints itself, with its hyperperiod, and what its rehearsal came to; where there is none,
-- its fault stands alone.
abbrev pub report_text : Result TaskSet Fault → List ℕ
report_text (Ok plan) = outcome_text (hyperperiod plan.lines) plan.lines (result_err (rehearsed plan))
report_text (Err f) = fault_line f

abbrev pub report_of : List ℕ → List ℕ
report_of text = report_text (planned_from text)

-- No report is longer.
abbrev pub buffer_least : ℕ
buffer_least = 1024

-- A shorter buffer is refused; else the reply is the number of bytes of the report.
abbrev pub reply_of : List ℕ → List ℕ → Result ℕ Fault
reply_of buffer report = cond (nat_lt (length buffer) buffer_least) (Err BufferTooSmall) (Ok (length report))

-- A refused buffer is as it was; else the report stands at its start, and the bytes behind it keep
-- their values.
abbrev pub buffer_of : List ℕ → List ℕ → List ℕ
buffer_of buffer report = cond (nat_lt (length buffer) buffer_least) buffer (written buffer 0 report)

-- A place keeps what it held where the buffer or the text was refused.
abbrev pub kept_or : Result TaskSet Fault → TaskSet → TaskSet
kept_or (Ok x) before = x
kept_or (Err f) before = before

abbrev pub held_after : List ℕ → Result TaskSet Fault → TaskSet → TaskSet
held_after buffer right before = cond (nat_lt (length buffer) buffer_least) before (kept_or right before)
