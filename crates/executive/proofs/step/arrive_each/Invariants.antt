use Rattle.std.proofs.Common.{◌≡◌, ◌≤◌, ◌++◌, map, take, drop, count_by}
use Rattle.runs.specs.Tasks.{due}
use Rattle.runs.specs.Steps.{lowest_due}
use Rattle.executive.specs.Slots.{arrived_slot, tasks_of}
use Rattle.executive.proofs.step.arrive_each.Given as goal

abbrev pub invariant-loop-slot : goal.invariant-loop-slot
invariant-loop-slot l =
    (l.slots ≡ map (arrived_slot l.t) (take l.slot-index l.initial.slots) ++ drop l.slot-index l.initial.slots)
    × (l.struck.count ≡ count_by (due l.t) (take l.slot-index (tasks_of l.initial.slots)))
    × (l.struck.lowest ≡ lowest_due l.t (take l.slot-index (tasks_of l.initial.slots)))
    × (l.struck.count ≤ l.slot-index)
