use Rattle.std.proofs.Common.{arith, length-append}
use Rattle.report.specs.Printed.{plan_text, verdict_line}
use Rattle.report.proofs.Pages.{wrote_both}
use Rattle.report.proofs.lines.outcome_text.Goals as goal

pub plan_text-requires : goal.plan_text-requires
plan_text-requires c = omega (arith, c.requires)

pub verdict_line-requires : goal.verdict_line-requires
verdict_line-requires c = omega (arith, c.requires, c.plan_text.ensures.moved, c.plan_text.ensures.long)

pub returns : goal.returns
returns c =
    let p = c.args.page.now in
    let plan = plan_text c.args.hyperperiod c.args.lines.now in
    let verdict = verdict_line c.args.fault in
    record {
      wrote = wrote_both p plan verdict (omega (arith, c.requires)) c.plan_text.new.page c.verdict_line.new.page c.plan_text.ensures c.verdict_line.ensures.wrote;
      short = omega (arith, length-append plan verdict, c.verdict_line.ensures.short);
    }
