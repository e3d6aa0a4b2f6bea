use Rattle.std.proofs.Common.{◌≡◌}
use Rattle.sheet.specs.Cutting.{lines_of}
use Rattle.sheet.specs.Reading.{read_tasks}
use Rattle.sheet.proofs.task_lines.read_tasks.Given as goal

abbrev pub invariant-loop-text : goal.invariant-loop-text
invariant-loop-text l = read_tasks l.lines.items (lines_of l.text-iterator.0.now) ≡ read_tasks l.initial.lines.items (lines_of l.fn.texts.0.now)
