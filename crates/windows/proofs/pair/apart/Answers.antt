use Rattle.std.proofs.Common.{◌+◌, false, leb, arith}
use Rattle.std.proofs.lemmas.Bool.Decides.{nat_tests}
use Rattle.windows.proofs.Rule.{apart_told}
use Rattle.windows.proofs.pair.apart.Goals as goal

pub returns-then-p-eq0-clause-meaning : goal.returns-then-p-eq0-clause-meaning
returns-then-p-eq0-clause-meaning c = apart_told c.args.a.now c.args.b.now false (grind (arith, nat_tests))

pub returns-then-a-behind-clause-meaning : goal.returns-then-a-behind-clause-meaning
returns-then-a-behind-clause-meaning c = apart_told c.args.a.now c.args.b.now (leb (c.gap-behind.result + c.args.b.now.length) c.gcd-p.result) (grind (arith, nat_tests))

pub returns-else-a-behind-clause-meaning : goal.returns-else-a-behind-clause-meaning
returns-else-a-behind-clause-meaning c = apart_told c.args.a.now c.args.b.now (leb c.args.a.now.length c.gap-behind.result) (grind (arith, nat_tests))
