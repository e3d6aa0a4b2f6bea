-- The hyperperiod of a list of lines, and its limit.
--   hyperperiod     the least common multiple of all periods, 1 without lines
--   limit           the longest hyperperiod that a plan may have
--   passes_at       the first line with which the least common multiple passes the limit
--   PassesFirst     a line is the first with which it does
--   IsHyperperiod   what makes a number the hyperperiod
use Rattle.std.specs.Prelude.{ℕ, ◌+◌, ◌-◌, ◌<◌, ◌≤◌, cond, List, [], ◌∷◌, length, take, Some, None, Option, nat_lt}
use Rattle.std.specs.Int.{◌∣◌}
use Rattle.std.specs.List.{fold, AllByRecursion}
use Rattle.model.specs.declared.line.Line.{Line}
use Rattle.windows.specs.Euclid.{lcm_of}

-- The least common multiple of all periods.
abbrev pub hyperperiod : List Line → ℕ
hyperperiod ls = fold (λ h l. lcm_of h l.period) 1 ls

-- A plan's hyperperiod is at most a million.
abbrev pub limit : ℕ
limit = 1000000

-- Lines are counted from n, and h is the least common multiple so far.
abbrev pub passes_at : ℕ → ℕ → List Line → Option ℕ
passes_at n h [] = None
passes_at n h (l ∷ ls) = cond (nat_lt limit (lcm_of h l.period)) (Some n) (passes_at (n + 1) (lcm_of h l.period) ls)

-- The periods of the first n lines pass the limit, and those of the first n − 1 do not.
pub record PassesFirst (ls : List Line) (n : ℕ) : Type 0 where
  pub place : (0 < n) × (n ≤ length ls)
  pub before : hyperperiod (take (n - 1) ls) ≤ limit
  pub past : limit < hyperperiod (take n ls)

-- Every period divides h, and h divides every number that every period divides.
pub record IsHyperperiod (ls : List Line) (h : ℕ) : Type 0 where
  pub common : AllByRecursion (λ l. l.period ∣ h) ls
  pub least : (n : ℕ) → AllByRecursion (λ l. l.period ∣ n) ls → h ∣ n
