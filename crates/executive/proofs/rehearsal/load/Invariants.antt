use Rattle.std.proofs.Common.{◌≡◌, ◌*◌, ◌≤◌, take, sum_by}
use Rattle.runs.specs.Rehearsals.{share_of}
use Rattle.executive.proofs.rehearsal.load.Given as goal

abbrev pub invariant-loop-line : goal.invariant-loop-line
invariant-loop-line l = (l.sum ≡ sum_by (share_of l.h) (take l.line-index l.lines)) × (l.sum ≤ 60000000000 * l.line-index)
