use Rattle.std.proofs.Common.{◌≡◌, ◌+◌, length, drop}
use Rattle.planning.specs.Offsets.{short_pair}
use Rattle.planning.proofs.PairLoops.{left}
use Rattle.planning.proofs.offsets.short_pair.Given as goal

abbrev pub invariant-loop-i : goal.invariant-loop-i
invariant-loop-i l = short_pair (l.i + 1) (drop l.i l.lines) ≡ short_pair 1 l.lines

abbrev pub invariant-loop-j : goal.invariant-loop-j
invariant-loop-j l = left l.lines l.a (l.i + 1) (l.i + 1 + length l.yielded) ≡ short_pair 1 l.lines
