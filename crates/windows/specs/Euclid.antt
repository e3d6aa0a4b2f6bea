-- Divisors and multiples that two numbers have in common.
--   euclid   Euclid's rule, in so many steps
--   gcd_of   the greatest common divisor, by Euclid's rule
--   lcm_of   the least common multiple
--   IsGcd    what makes a number the greatest common divisor, a word of std
--   IsLcm    what makes a number the least common multiple
use Rattle.std.specs.Prelude.{ℕ, zero, suc, ◌+◌, ◌*◌, ◌/◌, ◌%◌, cond, ◌==◌}
use Rattle.std.specs.Int.{◌∣◌}
pub use Rattle.std.specs.Int.{IsGcd}

-- Euclid's rule: divide the first by the second, go on with the second and the remainder, down to
-- a remainder of 0. The remainders fall below b, so b + 1 steps are enough.
abbrev pub euclid : ℕ → ℕ → ℕ → ℕ
euclid zero a b = a
euclid (suc steps) a b = cond (b == 0) a (euclid steps b (a % b))

-- The greatest common divisor; of 0 and 0 it is 0.
abbrev pub gcd_of : ℕ → ℕ → ℕ
gcd_of a b = euclid (b + 1) a b

-- The least common multiple; it is 0 where a or b is.
abbrev pub lcm_of : ℕ → ℕ → ℕ
lcm_of a b = a / gcd_of a b * b

-- Both divide m, and m divides every number that both divide.
pub record IsLcm (a b m : ℕ) : Type 0 where
  pub left : a ∣ m
  pub right : b ∣ m
  pub least : (n : ℕ) → a ∣ n → b ∣ n → m ∣ n
