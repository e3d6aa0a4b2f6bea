use Rattle.std.proofs.Common.{◌≡◌, ◌+◌, ◌-◌, ◌*◌, length}
use Rattle.planning.proofs.Candidates.{candidate}
use Rattle.planning.specs.Offsets.{place, try_from}
use Rattle.planning.proofs.offsets.+place.Given as goal

abbrev pub decreases-place : goal.decreases-place
decreases-place g l = length l.left.now * 2

abbrev pub decreases-place_behind : goal.decreases-place_behind
decreases-place_behind g l = length l.left.now * 2 + 1

-- the candidates from this offset on lead where the search leads
abbrev pub invariant-place-loop-offset : goal.invariant-place-loop-offset
invariant-place-loop-offset g l =
    (l.placed.items ≡ l.fn.placed.items)
    × (try_from (l.line.period - l.offset) l.offset (candidate l.fn.placed.items l.line l.rest) ≡ place l.fn.placed.items l.fn.left)
