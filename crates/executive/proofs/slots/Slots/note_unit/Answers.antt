use Rattle.executive.proofs.Tracking.{few_noted, kept_noted, tasks_noted, tracks_noted, tracked_noted}
use Rattle.runs.specs.Jitter.{noted}
use Rattle.std.proofs.Common.{◌-◌, ap, ◌∙◌}
use Rattle.executive.proofs.Places.{slot_at}
use Rattle.executive.proofs.slots.Slots.note_unit.Goals as goal

pub returns-then-unit-clause-tracked : goal.returns-then-unit-clause-tracked
returns-then-unit-clause-tracked c =
    let x = slot_at c.as_mut_slice.result.now (c.args.unit.line - 1) in
    tracked_noted c.args.self.now c.args.t c.requires.tracked _ c.as_mut_slice.ensures.value c.args.unit c.requires.line c.note.new.track (c.note.ensures ∙ ap (λ b. noted x.task.line b x.track) c.start_at.ensures)

pub returns-then-unit-clause-tracks : goal.returns-then-unit-clause-tracks
returns-then-unit-clause-tracks c =
    let x = slot_at c.as_mut_slice.result.now (c.args.unit.line - 1) in
    tracks_noted c.args.self.now c.args.t c.requires.tracked _ c.as_mut_slice.ensures.value c.args.unit c.requires.line c.note.new.track (c.note.ensures ∙ ap (λ b. noted x.task.line b x.track) c.start_at.ensures) c.if-unit.true

pub returns-then-unit-clause-tasks : goal.returns-then-unit-clause-tasks
returns-then-unit-clause-tasks c =
    let x = slot_at c.as_mut_slice.result.now (c.args.unit.line - 1) in
    tasks_noted c.args.self.now c.args.t c.requires.tracked _ c.as_mut_slice.ensures.value c.args.unit c.requires.line c.note.new.track (c.note.ensures ∙ ap (λ b. noted x.task.line b x.track) c.start_at.ensures)

pub invariant_of-self : goal.invariant_of-self
invariant_of-self c =
    let s = c.args.self.now in
    let x = slot_at c.as_mut_slice.result.now (c.args.unit.line - 1) in
    let is = c.note.ensures ∙ ap (λ b. noted x.task.line b x.track) c.start_at.ensures in
    record {
      early = s.early;
      few = few_noted s c.args.t c.requires.tracked _ c.as_mut_slice.ensures.value c.args.unit c.requires.line c.note.new.track is;
      kept = kept_noted s c.args.t c.requires.tracked _ c.as_mut_slice.ensures.value c.args.unit c.requires.line c.note.new.track is;
    }
