use Rattle.std.proofs.Common.{◌≡◌, ◌+◌, ◌-◌}
use Rattle.executive.specs.Slots.{tasks_of}
use Rattle.runs.specs.Rehearsals.{run_units}
use Rattle.executive.proofs.rehearsal.run.Given as goal

abbrev pub invariant-loop : goal.invariant-loop
invariant-loop g l =
    let ahead = g.R.Ranking.ahead l.ranking in
    (run_units ahead (l.units - l.counter) l.slots.clock (tasks_of l.slots.list.items) ≡ run_units ahead l.units l.initial.slots.clock (tasks_of l.initial.slots.list.items))
    × (l.slots.clock ≡ l.initial.slots.clock + l.counter)
