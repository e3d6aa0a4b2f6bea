-- Euclid's rule gives the greatest common divisor.
use Rattle.std.proofs.Common.{◌≡◌, ℕ, zero, suc, ◌+◌, ◌%◌, ◌<◌, eqb, mod-lt, arith}
use native.Mathlib.Nat.{pos_of_dvd_of_pos}
use Rattle.std.proofs.lemmas.Bool.{cond_both, eqb-true, eqb-false}
use Rattle.std.proofs.lemmas.Nat.Gcd.{IsGcd-from_zero, IsGcd-from_mod, IsGcd-swap, same_from_IsGcd}
use Rattle.windows.specs.Euclid.{euclid, gcd_of, IsGcd}

by_steps : (steps a b : ℕ) → b < steps → IsGcd a b (euclid steps a b)
by_steps zero a b h = absurd (omega arith)
by_steps (suc steps) a b h =
    cond_both (eqb b 0) a (euclid steps b (a % b)) (IsGcd a b)
    (λ e. IsGcd-from_zero a b (eqb-true b 0 e))
    (λ e. let some : 0 < b = omega (arith, eqb-false b 0 e) in IsGcd-from_mod a b (euclid steps b (a % b)) (by_steps steps b (a % b) (omega (arith, mod-lt a some))))

pub gcd_is : (a b : ℕ) → IsGcd a b (gcd_of a b)
gcd_is a b = by_steps (b + 1) a b (omega arith)

pub one_gcd : {a b : ℕ} (g h : ℕ) → IsGcd a b g → IsGcd a b h → g ≡ h
one_gcd {a} {b} g h p q = same_from_IsGcd a b g h p q

-- no other number is
pub is_gcd_of : (a b g : ℕ) → IsGcd a b g → g ≡ gcd_of a b
is_gcd_of a b g h = same_from_IsGcd a b g (gcd_of a b) h (gcd_is a b)

pub gcd_comm : (a b : ℕ) → gcd_of a b ≡ gcd_of b a
gcd_comm a b = is_gcd_of b a (gcd_of a b) (IsGcd-swap a b (gcd_of a b) (gcd_is a b))

pub gcd_positive_left : (a b : ℕ) → 0 < a → 0 < gcd_of a b
gcd_positive_left a b h = pos_of_dvd_of_pos (gcd_is a b).0 h

pub gcd_positive_right : (a b g : ℕ) → IsGcd a b g → 0 < b → 0 < g
gcd_positive_right a b g h = pos_of_dvd_of_pos h.1
