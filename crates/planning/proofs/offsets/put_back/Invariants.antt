use Rattle.std.proofs.Common.{◌≡◌, ◌+◌, ◌++◌, drop, length}
use Rattle.planning.specs.Offsets.{put_back}
use Rattle.planning.proofs.offsets.put_back.Given as goal

-- what is in its place, and then the lines behind, each in its own
abbrev pub invariant-loop-line : goal.invariant-loop-line
invariant-loop-line l =
    (l.lines.items ++ put_back (drop l.line-index l.all) l.left ≡ l.initial.lines.items ++ put_back l.all l.placed)
    × (length l.lines.items ≡ length l.initial.lines.items + l.line-index)
