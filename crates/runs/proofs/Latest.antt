-- The latest release of a line before an instant; whole periods on, it is as much later.
use Rattle.std.proofs.Common.{inl, inr, ◌≡◌, ℕ, ◌+◌, ◌-◌, ◌*◌, ◌<◌, ◌≤◌, mul-le-mul_right, add-mul, arith}
use native.Mathlib.Nat.{add-mul-mod_self_right}
use Rattle.std.proofs.lemmas.Bool.{cases_order}
use Rattle.model.specs.declared.line.Line.{Line}
use Rattle.runs.specs.Tasks.{releases_at}
use Rattle.runs.specs.Histories.{release}

-- whole periods later a line has a release again
pub release_again : (l : Line) (t n c : ℕ) → l.offset ≤ t → n ≡ c * l.period → releases_at l (t + n) ≡ releases_at l t
release_again l t n c from e = grind (arith, add-mul-mod_self_right (t - l.offset) c l.period)

-- r is the latest release of a line before instant n
abbrev pub Latest : Line → ℕ → ℕ → Type 0
Latest l n r = (k : ℕ) × (r ≡ release l k) × (r < n) × (n ≤ r + l.period)

-- at an instant whole periods later, so is the latest release
pub latest_later : (l : Line) (n m c r q : ℕ) → m ≡ c * l.period → Latest l n r → Latest l (n + m) q → q ≡ r + m
latest_later l n m c r q e a b =
    elim (cases_order (a.0 + c) b.0) [
      | inl same ↦ grind (arith, add-mul a.0 c l.period)
      | inr (inl low) ↦ let next = mul-le-mul_right l.period low in grind arith
      | inr (inr low) ↦ let next = mul-le-mul_right l.period low in grind arith
    ]
