-- What planning makes of a sheet, and what every plan keeps.
--   refuse                a refusal where something was found
--   plan_of               the plan, or the first refusal in the order: hyperperiod, pair, offsets, deadline
--   Unplaceable           no offsets keep every two regular lines apart
--   TooShortAt            the first line whose deadline in the plan would be too short
--   FirstPlaced           the offsets of a plan
--   RightlyRefused        what a refusal says of them
--   PlacedFirst           the one or the other
--   Planned, AllPlanned   the ranges of a plan's lines
use Rattle.std.specs.Prelude.{◌≡◌, ℕ, ◌<◌, true, List, [], length, Some, None, Ok, Err, Option, Result, MatchResult, slice_index_or}
use Rattle.model.specs.Ranges.{Ranged, is_regular, blank}
use Rattle.model.specs.Results.{or_fault}
use Rattle.model.specs.TaskSets.{TaskSet, task_set}
use Rattle.model.specs.declared.fault.Fault.{Fault}
use Rattle.model.specs.declared.fault.Fault.TheVariants.{HyperperiodTooLong, PairTooLong, NoOffsets, DeadlineTooShort}
use Rattle.model.specs.declared.line.Line.{Line}
use Rattle.model.specs.declared.policy.Policy.{Policy}
use Rattle.planning.specs.Hyperperiods.{passes_at}
use Rattle.planning.specs.Offsets.{short_pair, place, Placing, Least}
use Rattle.planning.specs.Deadlines.{with_deadlines, tight_at}

-- A refusal where something was found, else what follows.
abbrev pub refuse : {X Y : Type 0} → Option X → (X → Fault) → Result Y Fault → Result Y Fault
refuse (Some x) fault next = Err (fault x)
refuse None fault next = next

-- The hyperperiod is looked at first, then the pairs, the offsets and the deadlines.
abbrev pub plan_of : TaskSet → Result TaskSet Fault
plan_of s =
    refuse (passes_at 1 1 s.lines) HyperperiodTooLong
    (refuse (short_pair 1 s.lines) (λ pair. PairTooLong pair.0 pair.1)
    (or_fault (place [] s.lines) NoOffsets (λ placed.
    refuse (tight_at 1 (with_deadlines s.policy placed)) DeadlineTooShort
    (Ok (task_set s.policy (with_deadlines s.policy placed))))))

-- No offsets keep every two regular lines apart.
abbrev pub Unplaceable : List Line → Type 0
Unplaceable ls = (q : List Line) → Placing ls q → ⊥

-- With the first placing and the plan's deadlines, line n is the first whose deadline is below its length.
abbrev pub TooShortAt : Policy → List Line → ℕ → Type 0
TooShortAt policy ls n = (q : List Line) × Least ls q × (tight_at 1 (with_deadlines policy q) ≡ Some n)

-- The lines after planning are the first placing of ls, with the plan's deadlines.
abbrev pub FirstPlaced : Policy → List Line → List Line → Type 0
FirstPlaced policy ls after = (q : List Line) × Least ls q × (after ≡ with_deadlines policy q)

-- A refusal e of ls: for want of offsets only where ls has no placing; where a deadline is too short, there was one.
abbrev pub RightlyRefused : Policy → List Line → Fault → Type 0
RightlyRefused policy ls e = ((i j : ℕ) → e ≡ PairTooLong i j → Unplaceable ls) × (e ≡ NoOffsets → Unplaceable ls) × ((n : ℕ) → e ≡ DeadlineTooShort n → TooShortAt policy ls n)

-- What a plan made of ls has for offsets, and what a refusal says of them.
abbrev pub PlacedFirst : {X : Type 0} → Result X Fault → Policy → List Line → List Line → Type 0
PlacedFirst r policy ls after = MatchResult r (λ _. FirstPlaced policy ls after) (RightlyRefused policy ls)

-- Every figure is in its range, and a regular line's offset is below its period.
abbrev pub Planned : Line → Type 0
Planned l = Ranged l × (is_regular l ≡ true → l.offset < l.period)

-- Every line is so.
abbrev pub AllPlanned : List Line → Type 0
AllPlanned ls = (i : ℕ) → i < length ls → Planned (slice_index_or ls i blank)
