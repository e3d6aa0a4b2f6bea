use Rattle.std.proofs.Common.{◌*◌, ◌/◌, refl, arith}
use Rattle.std.proofs.lemmas.Grind.{common_steps}
use Rattle.windows.proofs.Lcm.{is_lcm}
use Rattle.windows.proofs.euclid.lcm.Goals as goal

pub returns-then-b-eq0-clause-least : goal.returns-then-b-eq0-clause-least
returns-then-b-eq0-clause-least c = is_lcm c.args.a c.args.b 0 (grind (arith, common_steps))

pub returns-clause-least : goal.returns-clause-least
returns-clause-least c = is_lcm c.args.a c.args.b (c.args.a / c.gcd.result * c.args.b) (rw c.gcd.ensures.value refl)
