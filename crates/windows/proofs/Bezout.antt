-- The greatest common divisor of a and b is what some multiple of a is beyond some multiple of b.
use Rattle.std.proofs.Common.{◌≡◌, ℕ, zero, suc, ◌+◌, ◌-◌, ◌*◌, ◌/◌, ◌%◌, ◌<◌, ◌≤◌, eqb, sym, ap, ◌∙◌, mod-lt, mul_assoc, mul_comm, add-mul, mul-add, sub-add_cancel, mul_right_comm, le-mul_of_pos_right, arith}
use native.Mathlib.Nat.{div-add-mod}
use Rattle.std.proofs.lemmas.Bool.{cond_both, eqb-true, eqb-false}
use Rattle.windows.specs.Euclid.{euclid, gcd_of}

pub record Combined (a b g : ℕ) : Type 0 where
  pub s : ℕ
  pub t : ℕ
  pub sum : s * a ≡ t * b + g

-- u × b = v × a + g, turned round
turned : (a b g u v : ℕ) → 0 < a → 0 < b → u * b ≡ v * a + g → Combined a b g
turned a b g u v pa pb e =
    let n = u + v in
    let s = n * b - v in
    let t = n * a - u in
    let lv : v ≤ n * b = omega (arith, le-mul_of_pos_right n pb) in
    let lu : u ≤ n * a = omega (arith, le-mul_of_pos_right n pa) in
    let e1 : n * b * a ≡ s * a + v * a = sym (ap (λ x. x * a) (sub-add_cancel lv)) ∙ add-mul s v a in
    let e2 : n * a * b ≡ t * b + u * b = sym (ap (λ x. x * b) (sub-add_cancel lu)) ∙ add-mul t u b in
    record { s = s; t = t; sum = omega (arith, e, e1, e2, mul_right_comm n b a) }

step_sum : (a b g s t : ℕ) → s * b ≡ t * (a % b) + g → (s + t * (a / b)) * b ≡ t * a + g
step_sum a b g s t e =
    let whole : t * a ≡ t * (b * (a / b)) + t * (a % b) = ap (λ x. t * x) (sym (div-add-mod a b)) ∙ mul-add t (b * (a / b)) (a % b) in
    let part : t * (a / b) * b ≡ t * (b * (a / b)) = mul_assoc t (a / b) b ∙ ap (λ x. t * x) (mul_comm (a / b) b) in
    omega (arith, add-mul s (t * (a / b)) b, whole, part, e)

by_steps : (steps a b : ℕ) → b < steps → 0 < a → Combined a b (euclid steps a b)
by_steps zero a b h pa = absurd (omega arith)
by_steps (suc steps) a b h pa =
    cond_both (eqb b 0) a (euclid steps b (a % b)) (Combined a b)
    (λ e. record { s = 1; t = 0; sum = omega (arith, eqb-true b 0 e) })
    (λ e.
    let some : 0 < b = omega (arith, eqb-false b 0 e) in
    let r = by_steps steps b (a % b) (omega (arith, mod-lt a some)) some in
    turned a b (euclid steps b (a % b)) (r.s + r.t * (a / b)) r.t pa some (step_sum a b (euclid steps b (a % b)) r.s r.t r.sum))

pub bezout : (a b : ℕ) → 0 < a → Combined a b (gcd_of a b)
bezout a b pa = by_steps (b + 1) a b (omega arith) pa
