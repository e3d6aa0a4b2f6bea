use Rattle.std.proofs.Common.{◌≡◌, ◌+◌, length, take, drop}
use Rattle.std.specs.List.{filter}
use Rattle.model.specs.Ranges.{is_regular, regulars}
use Rattle.planning.proofs.offsets.regular_lines.Given as goal

abbrev pub invariant-loop-line : goal.invariant-loop-line
invariant-loop-line l =
    (l.regular.items ≡ filter is_regular (take l.line-index l.lines))
    × (length l.regular.items + regulars (drop l.line-index l.lines) ≡ regulars l.lines)
