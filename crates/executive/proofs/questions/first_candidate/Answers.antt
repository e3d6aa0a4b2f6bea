use Rattle.std.proofs.Common.{length, ap, ◌∙◌, arith}
use Rattle.executive.specs.Slots.{blank_slot}
use Rattle.executive.proofs.Listed.{listed_some, listed_none}
use Rattle.executive.proofs.questions.first_candidate.Goals as goal
use Rattle.executive.proofs.questions.first_candidate.Goals.{in-Some, in_default}

pub loop-slot-preserved : goal.loop-slot-preserved
loop-slot-preserved g c =
    let h = g.T.Candidate.candidate in
    let i = c.loop-slot.slot-index in
    let inv = c.loop-slot.invariant in
    let es = c.match-of.candidates.items in
    elim c.match-of.branch [
      | in-Some w ↦ (
        listed_some h c.args.slots.now i blank_slot c.loop-slot-test.true _ es inv.0 w.in-Some.candidate w.in-Some.ensures (ap (λ v. v.items) w.candidates-is ∙ w.push.ensures.items),
        omega (arith, ap (λ v. length v.items) w.candidates-is, w.push.ensures.len, inv.1),
      )
      | in_default w ↦ (
        listed_none h c.args.slots.now i blank_slot c.loop-slot-test.true _ es inv.0 w.in_default.ensures (ap (λ v. v.items) w.candidates-is),
        omega (arith, ap (λ v. length v.items) w.candidates-is, inv.1),
      )
    ]
