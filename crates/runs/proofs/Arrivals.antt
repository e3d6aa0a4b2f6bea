-- What an instant does to a line: at a release, between releases, and before its job's deadline.
use Rattle.std.proofs.Common.{◌≡◌, ℕ, ◌+◌, ◌<◌, ◌≤◌, true, false, mul-le-mul_right, add-mul, arith}
use Rattle.model.specs.declared.line.Line.{Line}
use Rattle.runs.specs.declared.task.Task.{Task}
use Rattle.runs.specs.Tasks.{struck, releases_at, arrived}
use Rattle.runs.specs.Histories.{release}

-- from one release of a line to a later one it is a period or more
pub next_release_lem : (l : Line) (j k : ℕ) → release l j < release l k → release l j + l.period ≤ release l k
next_release_lem l j k low = grind (arith, mul-le-mul_right, add-mul)

pub release_at_lem : (l : Line) (k t : ℕ) → t ≡ release l k → releases_at l t ≡ true
release_at_lem l k t now = grind arith

-- less than a period after a release there is no other
pub no_release : (l : Line) (k t : ℕ) → release l k < t → t < release l k + l.period → releases_at l t ≡ false
no_release l k t after before = grind arith

-- between its releases
pub arrived_old : (t : ℕ) (x : Task) → releases_at x.line t ≡ false → arrived t x ≡ struck t x
arrived_old t x none = grind arith
