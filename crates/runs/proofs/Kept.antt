-- What every line of a reached state keeps: each change of a line, by itself, leaves it so.
use Rattle.std.proofs.Common.{◌≡◌, ℕ, ◌+◌, ◌^◌, ◌<◌, ◌≤◌, Bool, true, false, mul_comm, arith, rules}
use Rattle.model.specs.declared.line.Line.{Line}
use Rattle.model.specs.Ranges.{is_regular, Ranged}
use Rattle.runs.specs.declared.task.Task.{Task}
use Rattle.runs.specs.Tasks.{struck, releases_at, arrived, served}
use Rattle.runs.specs.Histories.{release}

-- The job of x is one of line l's releases, from the start to before clock t, and not past its deadline.
pub record Released (start t : ℕ) (l : Line) (x : Task) : Type 0 where
  pub from_start : start ≤ x.release
  pub before : x.release < t
  pub within : t ≤ x.release + l.deadline
  pub no_more : x.left ≤ l.length
  pub turn : (k : ℕ) × (x.release ≡ release l k)

-- Line n, of the plan's line l, at clock t.
pub record Kept (start t n : ℕ) (l : Line) (rests : Bool) (x : Task) : Type 0 where
  pub number : x.number ≡ n
  pub line : x.line ≡ l
  pub resting : x.resting ≡ rests
  pub quiet : x.resting ≡ true → x.left ≡ 0
  pub up : is_regular l ≡ true → x.resting ≡ false
  pub soon : x.release < 10 ^ 12
  pub released : 0 < x.left → Released start t l x

pub releases_at_lem : (l : Line) (t : ℕ) → releases_at l t ≡ true → (k : ℕ) × (t ≡ release l k)
releases_at_lem l t e = grind (arith, mul_comm)

-- what striking out leaves
pub record Struck (t : ℕ) (x y : Task) : Type 0 where
  pub number : y.number ≡ x.number
  pub line : y.line ≡ x.line
  pub resting : y.resting ≡ x.resting
  pub release : y.release ≡ x.release
  pub left : y.left ≤ x.left
  pub pending : 0 < y.left → (y.left ≡ x.left) × (x.release + x.line.deadline ≡ t → ⊥)

pub struck_is : (t : ℕ) (x : Task) → Struck t x (struck t x)
struck_is t x = grind arith

module _ (start t n : ℕ) (l : Line) (rests : Bool) where
  pub arrived_kept : (x : Task) → start ≤ t → t < 10 ^ 12 → Ranged l → Kept start t n l rests x → Kept start (t + 1) n l rests (arrived t x)
  arrived_kept x from soon ranged k = search (rules, releases_at_lem)

  -- one unit less left is no more than before
  pub served_kept : (m : ℕ) (x : Task) → Kept start t n l rests x → Kept start t n l rests (served m x)
  served_kept m x k = grind arith
