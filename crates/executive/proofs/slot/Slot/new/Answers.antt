use Rattle.std.proofs.Common.{sym, subst}
use Rattle.executive.specs.Slots.{IsComing}
use Rattle.executive.proofs.Arriving.{some_period}
use Rattle.executive.proofs.Coming.{coming_is}
use Rattle.executive.proofs.slot.Slot.new.Goals as goal

pub returns-clause-coming : goal.returns-clause-coming
returns-clause-coming c =
    let l = c.args.line in
    let t = c.args.start in
    subst (IsComing l t) (sym c.coming.ensures) (coming_is l (some_period l c.requires.0) t)
