-- A run as it is seen from outside: its calls and their replies, the oldest first.
--   Event, History          a call with its reply, and all of them since the start
--   unit_event, end_event, rest_event, resume_event   the accepted calls
--   units_of                the lines that the accepted steps returned; 0 is an idle unit
--   clock_of                the clock after a history
--   line_at                 the line that had the unit at an instant
--   units_in                how many of the units from one instant to before another a line had
--   StepAt, EndAt, RestAt   what was accepted at a clock
--   rests_after             a line is at rest after a history
--   line_in                 a line of a plan, by its place
--   release                 the instant of a line's release k
--   releases_in             how many releases of a line fall into some units
--   Ran                     a history that an executive made, and the state that it left
use Rattle.std.specs.Prelude.{◌≡◌, ℕ, zero, suc, ◌+◌, ◌-◌, ◌*◌, min, Bool, true, false, if◌then◌else◌, List, [], ◌∷◌, ◌++◌, length, take, drop, fold, flat_map, count_by, Ok, Err, ◌==◌, nat_eq, slice_index, slice_index_or}
use Rattle.model.specs.Ranges.{blank}
use Rattle.model.specs.declared.job.Job.{Job}
use Rattle.model.specs.declared.line.Line.{Line}
use Rattle.runs.specs.declared.call.Accepted.TheVariants.{Done}
use Rattle.runs.specs.declared.call.Accepted.TheVariants.{Step as UnitGiven}
use Rattle.runs.specs.declared.call.Call.{Call}
use Rattle.runs.specs.declared.call.Call.TheVariants.{Step, EarlyEnd, Rest, Resume}
use Rattle.runs.specs.declared.call.StepReport.{StepReport}
use Rattle.runs.specs.Tasks.{releases_at}
use Rattle.runs.specs.Steps.{line_of}
use Rattle.runs.specs.Calls.{Reply, State, begun, next_of, last_clock}

pub record Event : Type 0 where
  pub call : Call
  pub reply : Reply

abbrev pub event : Call → Reply → Event
event c r = record { call = c; reply = r }

abbrev pub unit_event : StepReport → Event
unit_event r = event Step (Ok (UnitGiven r))

abbrev pub end_event : Event
end_event = event EarlyEnd (Ok Done)

abbrev pub rest_event : ℕ → Event
rest_event number = event (Rest number) (Ok Done)

abbrev pub resume_event : ℕ → Event
resume_event number = event (Resume number) (Ok Done)

abbrev pub History : Type 0
History = List Event

-- an accepted step returns a line, and nothing else does
abbrev pub unit_of : Reply → List ℕ
unit_of (Ok (UnitGiven r)) = line_of r ∷ []
unit_of (Ok Done) = []
unit_of (Err f) = []

abbrev pub units_of : History → List ℕ
units_of h = flat_map (λ e. unit_of e.reply) h

-- an instant above the last clock counts as the last clock
abbrev pub start_of : ℕ → ℕ
start_of start = min start last_clock

-- `start` is the clock with which the run began
abbrev pub clock_of : ℕ → History → ℕ
clock_of start h = start + length (units_of h)

abbrev pub line_at : ℕ → History → ℕ → ℕ
line_at start h u = slice_index (units_of h) (u - start)

abbrev pub units_in : ℕ → History → ℕ → ℕ → ℕ → ℕ
units_in start h number from to = count_by (nat_eq number) (take (to - from) (drop (from - start) (units_of h)))

-- at clock t a step was accepted, and reported r
abbrev pub StepAt : ℕ → History → ℕ → StepReport → Type 0
StepAt start h t r = (a : History) × (b : History) × (h ≡ a ++ unit_event r ∷ b) × (clock_of start a ≡ t)

-- at clock c an early end was accepted
abbrev pub EndAt : ℕ → History → ℕ → Type 0
EndAt start h c = (a : History) × (b : History) × (h ≡ a ++ end_event ∷ b) × (clock_of start a ≡ c)

-- at clock c a rest of line `number` was accepted
abbrev pub RestAt : ℕ → History → ℕ → ℕ → Type 0
RestAt start h number c = (a : History) × (b : History) × (h ≡ a ++ rest_event number ∷ b) × (clock_of start a ≡ c)

abbrev pub rest_change : ℕ → Bool → Call → Reply → Bool
rest_change number b Step r = b
rest_change number b EarlyEnd r = b
rest_change number b (Rest n) (Ok Done) = if n == number then true else b
rest_change number b (Rest n) (Ok (UnitGiven r)) = b
rest_change number b (Rest n) (Err f) = b
rest_change number b (Resume n) (Ok Done) = if n == number then false else b
rest_change number b (Resume n) (Ok (UnitGiven r)) = b
rest_change number b (Resume n) (Err f) = b

abbrev pub rests_from : Bool → ℕ → History → Bool
rests_from b number h = fold (λ r e. rest_change number r e.call e.reply) b h

abbrev pub rests_after : History → ℕ → Bool
rests_after h number = rests_from false number h

-- line i + 1 of a plan stands at place i
abbrev pub line_in : List Line → ℕ → Line
line_in ls i = slice_index_or ls i blank

abbrev pub release : Line → ℕ → ℕ
release l k = l.offset + k * l.period

-- how many releases fall into n units from an instant on
abbrev pub releases_in : Line → ℕ → ℕ → ℕ
releases_in l from zero = 0
releases_in l from (suc n) = releases_in l from n + (if releases_at l (from + n) then 1 else 0)

-- every reply is the one that its call had to get, from state s on, and s' is what is left
abbrev pub RanFrom : (Job → Job → Bool) → State → History → State → Type 0
RanFrom ahead s [] s' = s ≡ s'
RanFrom ahead s (e ∷ h) s' = ((next_of ahead s e.call).1 ≡ e.reply) × RanFrom ahead (next_of ahead s e.call).0 h s'

abbrev pub Ran : (Job → Job → Bool) → List Line → ℕ → History → State → Type 0
Ran ahead ls start h s = RanFrom ahead (begun start ls) h s
