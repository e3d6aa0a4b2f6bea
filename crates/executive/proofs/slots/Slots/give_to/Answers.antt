use Rattle.std.proofs.Common.{◌-◌, refl}
use Rattle.runs.specs.Tasks.{given}
use Rattle.executive.proofs.Arriving.{given_kept}
use Rattle.executive.proofs.OneLine.{one_changed}
use Rattle.executive.proofs.Places.{slot_at}
use Rattle.executive.proofs.slots.Slots.give_to.Goals as goal

pub invariant_of-self : goal.invariant_of-self
invariant_of-self c =
    let s = c.args.self.now in
    let x = slot_at s.list.items (c.args.line - 1) in
    let now = one_changed s _ c.as_mut_slice.ensures.value c.args.line c.requires.line given _ c.give_unit.ensures.task (given_kept s.clock x c.requires.pending) refl in
    record { early = s.early; few = now.few; kept = now.kept }

pub returns-clause-tasks : goal.returns-clause-tasks
returns-clause-tasks c =
    let s = c.args.self.now in
    let x = slot_at s.list.items (c.args.line - 1) in
    (one_changed s _ c.as_mut_slice.ensures.value c.args.line c.requires.line given _ c.give_unit.ensures.task (given_kept s.clock x c.requires.pending) refl).tasks

pub returns-clause-tracks : goal.returns-clause-tracks
returns-clause-tracks c =
    let s = c.args.self.now in
    let x = slot_at s.list.items (c.args.line - 1) in
    (one_changed s _ c.as_mut_slice.ensures.value c.args.line c.requires.line given _ c.give_unit.ensures.task (given_kept s.clock x c.requires.pending) refl).tracks
