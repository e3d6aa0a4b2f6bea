use Rattle.std.proofs.Common.{◌≡◌, Ok, sym, ap, ◌∙◌, arith}
use Rattle.std.proofs.lemmas.Grind.{common_steps}
use Rattle.model.specs.TaskSets.{task_set}
use Rattle.planning.specs.Plans.{plan_of}
use Rattle.planning.proofs.Planned.{all_ranged, first_placed, is_plan}
use Rattle.planning.proofs.Refusals.{refused, refused_first}
use Rattle.planning.proofs.plan.Plan.plan.Goals as goal

pub returns-in_err-lines-clause-offsets : goal.returns-in_err-lines-clause-offsets
returns-in_err-lines-clause-offsets c =
    let s = c.args.sheet.now in
    let e = c.in_err-lines.field-0.0 in
    refused_first c.from_residual.result s.tasks.policy s.tasks.lines _ e (grind (arith, common_steps)) (refused s.tasks.policy s.tasks.lines (all_ranged s.tasks.lines s.ranged) e c.in_err-lines.ensures)

pub invariant_of-self : goal.invariant_of-self
invariant_of-self c =
    let s = c.args.sheet.now in
    let made : plan_of s.tasks ≡ Ok c.fill.new.self = c.in_ok-lines.ensures ∙ ap (λ p. Ok (task_set p c.in_ok-lines.lines.items)) (sym c.policy.ensures) ∙ ap Ok (sym c.fill.ensures) in
    let w = is_plan s.tasks c.fill.new.self s.ranged made s.few s.limited in
    record { few = w.few; planned = w.planned; limited = w.limited; apart = w.apart; short = w.short }

pub returns-clause-offsets : goal.returns-clause-offsets
returns-clause-offsets c =
    let s = c.args.sheet.now in
    first_placed s.tasks c.fill.new.self s.ranged (c.in_ok-lines.ensures ∙ ap (λ p. Ok (task_set p c.in_ok-lines.lines.items)) (sym c.policy.ensures) ∙ ap Ok (sym c.fill.ensures))
