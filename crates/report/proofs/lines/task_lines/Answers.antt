use Rattle.std.proofs.Common.{◌≡◌, ℕ, ◌+◌, ◌<◌, List, ◌++◌, length, get_or, drop, subst}
use Rattle.std.proofs.lemmas.List.{at_drop_more, at_drop_all}
use Rattle.model.specs.declared.line.Line.{Line}
use Rattle.model.specs.Ranges.{blank}
use Rattle.report.specs.Printed.{task_line, task_lines}
use Rattle.report.proofs.Pages.{Half, half_start, half_room, half_more, half_end}
use Rattle.report.proofs.lines.task_lines.Goals as goal

-- a line, and those behind it
module _ (ls : List Line) (i : ℕ) where
  abbrev this : List ℕ
  this = task_line (i + 1) (get_or ls i blank)

  abbrev behind : List ℕ
  behind = task_lines (i + 1 + 1) (drop (i + 1) ls)

  next : i < length ls → task_lines (i + 1) (drop i ls) ≡ this ++ behind
  next h = at_drop_more (task_lines (i + 1)) ls i blank h

pub loop-i-init : goal.loop-i-init
loop-i-init c = half_start c.args.page.now (task_lines 1 c.args.lines.now) c.requires

pub task_line-requires : goal.task_line-requires
task_line-requires c =
    let ls = c.args.lines.now in
    let i = c.loop-i.i in
    half_room (this ls i) (behind ls i) (next ls i c.loop-i-test.true) c.loop-i.invariant

pub loop-i-preserved : goal.loop-i-preserved
loop-i-preserved c =
    let ls = c.args.lines.now in
    let i = c.loop-i.i in
    half_more (this ls i) (behind ls i) (next ls i c.loop-i-test.true) c.loop-i.invariant c.task_line.new.page c.task_line.ensures

pub returns : goal.returns
returns c =
    let ls = c.args.lines.now in
    let i = c.loop-i.i in
    half_end (subst (Half c.args.page.now c.loop-i.page (task_lines 1 ls)) (at_drop_all (task_lines (i + 1)) ls i c.loop-i-test.false) c.loop-i.invariant)
