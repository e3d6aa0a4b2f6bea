-- The product divided by the greatest common divisor is the least common multiple.
use Rattle.std.proofs.Common.{◌≡◌, ℕ, ◌+◌, ◌*◌, ◌/◌, ◌<◌, ◌≤◌, sym, ap, ◌∙◌, subst, subst₂, ⊎_elim, mul_assoc, mul_comm, mul-pos, mul-add, div-le_self, mul_right_comm, arith}
use Prim.Native.Nat.{◌∣◌}
use native.Mathlib.Nat.{mul-div_cancel', div-mul_cancel, dvd-mul_left, dvd-mul_right, dvd-mul_left_of_dvd, dvd-add_iff_right, mul-dvd-mul_left, dvd_of_mul-dvd-mul_right, dvd_antisymm, le_of_dvd, pos_of_dvd_of_pos}
use Rattle.std.proofs.lemmas.Nat.{mul-le}
use Rattle.std.proofs.lemmas.Bool.{cases_lt}
use Rattle.windows.specs.Euclid.{gcd_of, lcm_of, IsLcm}
use Rattle.windows.proofs.Gcd.{gcd_is, gcd_positive_left}
use Rattle.windows.proofs.Bezout.{bezout}

module _ (a b : ℕ) where
  g : ℕ
  g = gcd_of a b

  -- the same, with the divisor taken from b
  other : lcm_of a b ≡ a * (b / g)
  unfolding g
  other =
      let α = a / g in
      let β = b / g in
      ap (λ n. α * n) (sym (mul-div_cancel' g (gcd_is a b).1)) ∙ sym (mul_assoc α g β) ∙ ap (λ n. n * β) (div-mul_cancel g (gcd_is a b).0)

  product : lcm_of a b * g ≡ a * b
  unfolding g
  product = mul_right_comm (a / g) b g ∙ ap (λ n. n * b) (div-mul_cancel g (gcd_is a b).0)

  zero_left : a ≡ 0 → lcm_of a b ≡ 0
  unfolding g
  zero_left e = other ∙ ap (λ n. n * (b / g)) e ∙ omega arith

  -- a × b divides n × s × a and n × t × b, so n × g
  least : 0 < a → (n : ℕ) → a ∣ n → b ∣ n → lcm_of a b ∣ n
  unfolding g
  least pa n da db =
      let c = bezout a b pa in
      let first : a * b ∣ n * (c.s * a) = subst (λ m. a * b ∣ m) (regroup a n c.s) (dvd-mul_left_of_dvd (a * b) (mul-dvd-mul_left b a db) c.s) in
      let second : a * b ∣ n * (c.t * b) = subst₂ (λ m k. m ∣ k) (mul_comm b a) (regroup b n c.t) (dvd-mul_left_of_dvd (b * a) (mul-dvd-mul_left a b da) c.t) in
      let sum : n * (c.s * a) ≡ n * (c.t * b) + n * g = ap (λ m. n * m) c.sum ∙ mul-add n (c.t * b) g in
      let both : a * b ∣ n * g = (dvd-add_iff_right (a * b) second).1 (subst (λ m. a * b ∣ m) sum first) in
      dvd_of_mul-dvd-mul_right (lcm_of a b) (gcd_positive_left a b pa) (subst (λ m. m ∣ n * g) (sym product) both)
    where
      regroup : (x y z : ℕ) → z * (x * y) ≡ y * (z * x)
      regroup x y z = sym (mul_assoc z x y) ∙ mul_comm (z * x) y

  pub lcm_is : IsLcm a b (lcm_of a b)
  unfolding g
  lcm_is = record {
    left = subst (λ m. a ∣ m) (sym other) (dvd-mul_right a (b / g));
    right = dvd-mul_left b (a / g);
    least = λ n da db.
        ⊎_elim
        (λ (pa : 0 < a). least pa n da db)
        (λ (no : a ≤ 0).
        let z : a ≡ 0 = omega arith in
        subst (λ m. m ∣ n) (z ∙ sym (zero_left z)) da)
        (cases_lt 0 a);
  }

  pub lcm_positive : 0 < a → 0 < b → 0 < lcm_of a b
  lcm_positive pa pb = pos_of_dvd_of_pos (lcm_is.least (a * b) (dvd-mul_right a b) (dvd-mul_left b a)) (mul-pos pa pb)

  pub lcm_from_left : 0 < a → 0 < b → a ≤ lcm_of a b
  lcm_from_left pa pb = le_of_dvd (lcm_positive pa pb) lcm_is.left

  pub lcm_below : (m n : ℕ) → a ≤ m → b ≤ n → lcm_of a b ≤ m * n
  unfolding g
  lcm_below m n ha hb = mul-le (a / g) b m n (omega (arith, div-le_self a g)) hb

pub one_lcm : {a b : ℕ} (m n : ℕ) → IsLcm a b m → IsLcm a b n → m ≡ n
one_lcm m n p q = dvd_antisymm (p.least n q.left q.right) (q.least m p.left p.right)

pub is_lcm : (a b m : ℕ) → m ≡ lcm_of a b → IsLcm a b m
is_lcm a b m e = rw e (lcm_is a b)
