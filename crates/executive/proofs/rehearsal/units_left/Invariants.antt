use Rattle.std.proofs.Common.{◌≡◌, take}
use Rattle.runs.specs.Rehearsals.{units_left}
use Rattle.executive.specs.Slots.{tasks_of}
use Rattle.executive.proofs.rehearsal.units_left.Given as goal

abbrev pub invariant-loop-slot : goal.invariant-loop-slot
invariant-loop-slot l = l.left.items ≡ units_left (tasks_of (take l.slot-index l.slot-items))
