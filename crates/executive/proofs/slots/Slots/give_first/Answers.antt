use Rattle.std.proofs.Common.{map, Some, ap, ◌∙◌}
use Rattle.std.specs.Option.{option_map}
use Rattle.runs.specs.Tasks.{served, pending}
use Rattle.runs.specs.Steps.{number_of, unit_for}
use Rattle.executive.specs.Slots.{tasks_of}
use Rattle.executive.proofs.Firsts.{none_first, none_served, some_first, first_here}
use Rattle.executive.proofs.slots.Slots.give_first.Goals as goal

pub returns-in_err-line-clause-tasks : goal.returns-in_err-line-clause-tasks
returns-in_err-line-clause-tasks g c =
    none_served (g.R.Ranking.ahead c.args.ranking.now) (g.met.R.Ranking.lawful c.args.ranking.now) c.args.self.now _ c.as_slice.ensures.value c.first.result c.first.ensures (cc)

pub returns-in_err-line-clause-unit : goal.returns-in_err-line-clause-unit
returns-in_err-line-clause-unit g c =
    c.from_residual.ensures ∙ ap (option_map unit_for) (none_first (g.R.Ranking.ahead c.args.ranking.now) (g.met.R.Ranking.lawful c.args.ranking.now) c.args.self.now _ c.as_slice.ensures.value c.first.result c.first.ensures (cc))

pub give_to-requires-clause-line : goal.give_to-requires-clause-line
give_to-requires-clause-line g c =
    let at = first_here (g.R.Ranking.ahead c.args.ranking.now) (g.met.R.Ranking.lawful c.args.ranking.now) c.args.self.now _ c.as_slice.ensures.value c.first.result c.first.ensures c.in_ok-line.field-0 (cc) in
    (at.0, at.1)

pub give_to-requires-clause-pending : goal.give_to-requires-clause-pending
give_to-requires-clause-pending g c =
    let at = first_here (g.R.Ranking.ahead c.args.ranking.now) (g.met.R.Ranking.lawful c.args.ranking.now) c.args.self.now _ c.as_slice.ensures.value c.first.result c.first.ensures c.in_ok-line.field-0 (cc) in
    ap pending at.2 ∙ at.3

pub returns-clause-tasks : goal.returns-clause-tasks
returns-clause-tasks g c =
    c.give_to.ensures.tasks
    ∙ ap (λ o. map (served (number_of o)) (tasks_of c.args.self.now.list.items)) (some_first (g.R.Ranking.ahead c.args.ranking.now) (g.met.R.Ranking.lawful c.args.ranking.now) c.args.self.now _ c.as_slice.ensures.value c.first.result c.first.ensures c.in_ok-line.field-0 (cc))

pub returns-clause-unit : goal.returns-clause-unit
returns-clause-unit g c =
    let x = c.in_ok-line.field-0 in
    ap Some (c.give_to.ensures.report ∙ ap unit_for (first_here (g.R.Ranking.ahead c.args.ranking.now) (g.met.R.Ranking.lawful c.args.ranking.now) c.args.self.now _ c.as_slice.ensures.value c.first.result c.first.ensures x (cc)).2)
    ∙ ap (option_map unit_for) (some_first (g.R.Ranking.ahead c.args.ranking.now) (g.met.R.Ranking.lawful c.args.ranking.now) c.args.self.now _ c.as_slice.ensures.value c.first.result c.first.ensures x (cc))
