use Rattle.std.proofs.Common.{arith}
use Rattle.executive.proofs.Places.{few_arrived, kept_arrived}
use Rattle.executive.proofs.slots.Slots.arrive_all.Goals as goal

pub invariant_of-self : goal.invariant_of-self
invariant_of-self c =
    let s = c.args.self.now in
    let lent = c.as_mut_slice.ensures.value in
    let is = c.arrive_each-struck.ensures.slots in
    record { early = omega (arith, c.requires); few = few_arrived s c.requires _ _ lent is; kept = kept_arrived s c.requires _ _ lent is }
