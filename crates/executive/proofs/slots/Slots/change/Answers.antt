use Rattle.executive.specs.Changes.{changed}
use Rattle.executive.proofs.Arriving.{changed_kept, changed_same}
use Rattle.executive.proofs.OneLine.{one_changed}
use Rattle.executive.proofs.slots.Slots.change.Goals as goal

pub invariant_of-self : goal.invariant_of-self
invariant_of-self c =
    let s = c.args.self.now in
    let change = c.args.change in
    let now = one_changed s _ c.as_mut_slice.ensures.value c.args.line c.requires.line (changed change) _ c.make_change.ensures (changed_kept s.clock change _ c.requires.allowed) (changed_same change _).0 in
    record { early = s.early; few = now.few; kept = now.kept }

pub returns-clause-tasks : goal.returns-clause-tasks
returns-clause-tasks c =
    let s = c.args.self.now in
    let change = c.args.change in
    (one_changed s _ c.as_mut_slice.ensures.value c.args.line c.requires.line (changed change) _ c.make_change.ensures (changed_kept s.clock change _ c.requires.allowed) (changed_same change _).0).tasks

pub returns-clause-tracks : goal.returns-clause-tracks
returns-clause-tracks c =
    let s = c.args.self.now in
    let change = c.args.change in
    (one_changed s _ c.as_mut_slice.ensures.value c.args.line c.requires.line (changed change) _ c.make_change.ensures (changed_kept s.clock change _ c.requires.allowed) (changed_same change _).0).tracks
