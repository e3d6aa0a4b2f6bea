use Rattle.report.specs.Printed.{cycle_line, task_lines}
use Rattle.report.proofs.Pages.{room_first, room_rest, wrote_both}
use Rattle.report.proofs.lines.plan_text.Goals as goal

pub cycle_line-requires : goal.cycle_line-requires
cycle_line-requires c = room_first c.args.page.now (cycle_line c.args.hyperperiod) (task_lines 1 c.args.lines.now) c.requires

pub task_lines-requires : goal.task_lines-requires
task_lines-requires c =
    room_rest c.args.page.now (cycle_line c.args.hyperperiod) (task_lines 1 c.args.lines.now) c.requires c.cycle_line.new.page c.cycle_line.ensures

pub returns : goal.returns
returns c =
    let p = c.args.page.now in
    let first = cycle_line c.args.hyperperiod in
    let rest = task_lines 1 c.args.lines.now in
    wrote_both p first rest (room_first p first rest c.requires) c.cycle_line.new.page c.task_lines.new.page c.cycle_line.ensures c.task_lines.ensures
