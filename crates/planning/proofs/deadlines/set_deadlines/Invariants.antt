use Rattle.std.proofs.Common.{◌≡◌, ◌++◌, map, take, drop}
use Rattle.planning.specs.Deadlines.{changed}
use Rattle.planning.proofs.deadlines.set_deadlines.Given as goal

abbrev pub invariant-loop-line : goal.invariant-loop-line
invariant-loop-line l = l.lines ≡ map (changed l.policy l.least) (take l.line-index l.initial.lines) ++ drop l.line-index l.initial.lines
