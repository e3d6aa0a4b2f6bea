use Rattle.std.proofs.Common.{Err, arith}
use Rattle.std.proofs.lemmas.Grind.{common_steps}
use Rattle.model.specs.declared.fault.Fault.TheVariants.{Overload}
use Rattle.planning.specs.Hyperperiods.{hyperperiod}
use Rattle.planning.specs.Places.{plan_set}
use Rattle.runs.proofs.Rules.{only_rehearsed}
use Rattle.executive.proofs.rehearsal.rehearse.Goals as goal

pub returns-then-load-h-clause-only : goal.returns-then-load-h-clause-only
returns-then-load-h-clause-only g c = only_rehearsed (g.R.Ranking.ahead c.args.ranking.now) (plan_set c.args.plan.now).lines (hyperperiod (plan_set c.args.plan.now).lines) (Err Overload) (grind (arith, common_steps))

pub returns-clause-only : goal.returns-clause-only
returns-clause-only g c = only_rehearsed (g.R.Ranking.ahead c.args.ranking.now) (plan_set c.args.plan.now).lines (hyperperiod (plan_set c.args.plan.now).lines) c.between_marks.result (grind (arith, common_steps))
