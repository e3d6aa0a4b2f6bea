use Rattle.std.proofs.Common.{arith}
use Rattle.std.proofs.lemmas.Bool.Decides.{nat_tests}
use Rattle.executive.proofs.Arriving.{some_period}
use Rattle.executive.proofs.Coming.{coming_next, released_now}
use Rattle.executive.proofs.slot.Slot.release_at.Goals as goal

pub returns-then-self-t : goal.returns-then-self-t
returns-then-self-t c = grind (arith, nat_tests, some_period, coming_next, released_now)

pub admit-requires : goal.admit-requires
admit-requires c = grind (arith, nat_tests, some_period, released_now)

pub returns-then-not-self : goal.returns-then-not-self
returns-then-not-self c = grind (arith, nat_tests, some_period, coming_next, released_now)

pub returns-else-not-self : goal.returns-else-not-self
returns-else-not-self c = grind (arith, nat_tests, some_period, coming_next, released_now)
