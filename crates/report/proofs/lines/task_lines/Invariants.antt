use Rattle.std.proofs.Common.{◌+◌, drop}
use Rattle.report.specs.Printed.{task_lines}
use Rattle.report.proofs.Pages.{Half}
use Rattle.report.proofs.lines.task_lines.Given as goal

abbrev pub invariant-loop-i : goal.invariant-loop-i
invariant-loop-i l = Half l.initial.page l.page (task_lines 1 l.lines) (task_lines (l.i + 1) (drop l.i l.lines))
