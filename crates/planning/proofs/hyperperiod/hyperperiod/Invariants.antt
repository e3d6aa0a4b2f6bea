use Rattle.std.proofs.Common.{◌≡◌, ◌+◌, drop}
use Rattle.planning.specs.Hyperperiods.{passes_at}
use Rattle.planning.proofs.Multiples.{hyper_from}
use Rattle.planning.proofs.hyperperiod.hyperperiod.Given as goal

abbrev pub invariant-loop-i : goal.invariant-loop-i
invariant-loop-i l = (passes_at (l.i + 1) l.h (drop l.i l.lines) ≡ passes_at 1 1 l.lines) × (hyper_from l.h (drop l.i l.lines) ≡ hyper_from 1 l.lines)
