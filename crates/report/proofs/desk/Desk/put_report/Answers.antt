use Rattle.std.proofs.Common.{◌≤◌, length, sym, ap, subst, arith}
use Rattle.std.specs.List.{AllByRecursion}
use Rattle.report.specs.Desks.{plan_held}
use Rattle.report.specs.Pages.{Wrote}
use Rattle.report.specs.Printed.{Narrow}
use Rattle.report.specs.Reports.{buffer_least}
use Rattle.report.proofs.Bounds.{ranged_narrow, outcome_fits}
use Rattle.report.proofs.Places.{filled_kept, filled_ok, filled_err}
use Rattle.report.proofs.Told.{told_of_plan, told_of_fault}
use Rattle.report.proofs.desk.Desk.put_report.Goals as goal

pub outcome_text-requires : goal.outcome_text-requires
outcome_text-requires c =
    let p = c.prepare.new.self.plan in
    let fit = outcome_fits c.hyperperiod.result c.lines.result.now (omega (arith, c.hyperperiod.type_inv)) (omega (arith, ap length c.lines.ensures, p.few))
    (subst (AllByRecursion Narrow) (sym c.lines.ensures) (ranged_narrow _ (λ i below. (p.planned i below).0))) in
    omega (arith, c.requires, fit)

pub returns-in-Ok : goal.returns-in-Ok
returns-in-Ok c =
    let p = c.prepare.new.self.plan in
    let fit = outcome_fits c.hyperperiod.result c.lines.result.now (omega (arith, c.hyperperiod.type_inv)) (omega (arith, ap length c.lines.ensures, p.few))
    (subst (AllByRecursion Narrow) (sym c.lines.ensures) (ranged_narrow _ (λ i below. (p.planned i below).0))) in
    let e = filled_ok _ _ _ _ c.in-Ok.ensures.plan in
    let told = told_of_plan c.args.text.now (plan_held c.prepare.new.self) _ _ _ e c.hyperperiod.ensures.value c.lines.ensures c.verdict-verdict.ensures in
    let w = c.outcome_text.ensures in
    record {
      wrote = subst (Wrote c.args.page.now c.outcome_text.new.page) told w.wrote;
      short = subst (λ t. length t ≤ buffer_least) told (omega (arith, w.short, fit));
      sheet = c.prepare.ensures.sheet;
      plan = filled_kept c.prepare.result _ _ _ c.prepare.ensures.plan;
    }

pub returns-in-Err : goal.returns-in-Err
returns-in-Err c =
    let e = filled_err _ _ _ _ c.in-Err.ensures.plan in
    let told = told_of_fault c.args.text.now _ e in
    let w = c.fault_line.ensures in
    record {
      wrote = record {
        stored = grind (arith, w.wrote.stored, told);
        moved = grind (arith, w.wrote.moved, told);
        long = grind (arith, w.wrote.long);
        same = grind (arith, w.wrote.same);
      };
      short = subst (λ t. length t ≤ buffer_least) told (omega (arith, w.short));
      sheet = c.prepare.ensures.sheet;
      plan = filled_kept c.prepare.result _ _ _ c.prepare.ensures.plan;
    }
