-- The pair test by the greatest common divisor is the rule of the windows.
use Rattle.std.proofs.Common.{◌≡◌, ℕ, ◌+◌, ◌-◌, ◌*◌, ◌/◌, ◌%◌, ◌<◌, ◌≤◌, Bool, Decides, sym, ap, ◌∙◌, subst, mod-lt, mod-eq_of_lt, add-mul, mul-add, mul_right_comm, arith}
use Rattle.std.proofs.Math.Nat.{mul_left_comm}
use native.Mathlib.Nat.{mul-div_cancel', div-add-mod, add-mul-mod_self_left}
use Rattle.std.proofs.lemmas.Bool.Decides.{nat_tests, same_from_decides, Decides-like}
use Rattle.model.specs.declared.line.Line.{Line}
use Rattle.windows.specs.Euclid.{gcd_of}
use Rattle.windows.specs.Windows.{Meet, Periodic, gap_of, apart_lines}
use Rattle.windows.proofs.Gcd.{gcd_is, gcd_comm, gcd_positive_left}
use Rattle.windows.proofs.Bezout.{Combined, bezout}

same_rest : (p x z i j : ℕ) → x < p → z < p → x + p * i ≡ z + p * j → x ≡ z
same_rest p x z i j hx hz e =
    sym (mod-eq_of_lt hx) ∙ sym (add-mul-mod_self_left x p i) ∙ ap (λ n. n % p) e ∙ add-mul-mod_self_left z p j ∙ mod-eq_of_lt hz

-- multiples of the two periods that make up for any multiples of their greatest common divisor
make_up : (s t n m : ℕ) → 0 < s → 0 < t → (k : ℕ) × (j : ℕ) × (k * s + gcd_of s t * n ≡ j * t + gcd_of s t * m)
make_up s t n m ps pt =
    let p = gcd_of s t in
    let f = bezout s t ps in
    let b : Combined t s p = subst (Combined t s) (gcd_comm t s) (bezout t s pt) in
    let fore : f.s * m * s ≡ f.t * m * t + p * m = many f.s s f.t t p m f.sum in
    let back : b.s * n * t ≡ b.t * n * s + p * n = many b.s t b.t s p n b.sum in
    (f.s * m + b.t * n, f.t * m + b.s * n, omega (arith, fore, back, add-mul (f.s * m) (b.t * n) s, add-mul (f.t * m) (b.s * n) t))
  where
    many : (x s y t p m : ℕ) → x * s ≡ y * t + p → x * m * s ≡ y * m * t + p * m
    many x s y t p m e = omega (arith, mul_right_comm x m s, ap (λ n. n * m) e, add-mul (y * t) p m, mul_right_comm y m t)

module _ (a b : Line) (pa : Periodic a) (pb : Periodic b) where
  p : ℕ
  p = gcd_of a.period b.period

  d : ℕ
  d = gap_of a b p

  n : ℕ
  n = a.offset / p + 1

  m : ℕ
  m = b.offset / p + (b.offset % p + (p - a.offset % p)) / p

  pos : 0 < p
  unfolding p
  pos = gcd_positive_left a.period b.period pa.1

  small : d < p
  unfolding d
  small = mod-lt (b.offset % p + (p - a.offset % p)) pos

  -- b begins d after a, but for whole multiples of p
  tied : b.offset + p * n ≡ a.offset + p * m + d
  unfolding d n m
  tied =
      let q = (b.offset % p + (p - a.offset % p)) / p in
      omega (arith, div-add-mod a.offset p, div-add-mod b.offset p, div-add-mod (b.offset % p + (p - a.offset % p)) p, mod-lt a.offset pos, mul-add p (a.offset / p) 1, mul-add p (b.offset / p) q)

  never : a.length ≤ d → d + b.length ≤ p → Meet a b → ⊥
  unfolding p
  never low high h =
      let u = h.0 in
      let k = h.1 in
      let j = h.2 in
      let α = a.period / p in
      let β = b.period / p in
      let x = u - (a.offset + k * a.period) in
      let y = u - (b.offset + j * b.period) in
      let g = gcd_is a.period b.period in
      let ka : k * a.period ≡ p * (k * α) = ap (λ z. k * z) (sym (mul-div_cancel' p g.0)) ∙ mul_left_comm k p α in
      let jb : j * b.period ≡ p * (j * β) = ap (λ z. j * z) (sym (mul-div_cancel' p g.1)) ∙ mul_left_comm j p β in
      let hx : x < a.length = omega (arith, h.3) in
      let hy : y < b.length = omega (arith, h.4) in
      let e : x + p * (k * α + n) ≡ (d + y) + p * (m + j * β) =
      omega (arith, h.3, h.4, ka, jb, tied, mul-add p (k * α) n, mul-add p m (j * β)) in
      let r : x ≡ d + y = same_rest p x (d + y) (k * α + n) (m + j * β) (omega (arith, low, small)) (omega (arith, high)) e in
      omega (arith, r, hx, low)

  meets_early : d < a.length → Meet a b
  unfolding p
  meets_early h =
      let w = make_up a.period b.period n m pa.1 pb.1 in
      let u = b.offset + w.1 * b.period in
      (u, w.0, w.1, (omega (arith, w.2, tied), omega (arith, w.2, tied, h)), (omega arith, omega (arith, pb.0)))

  meets_late : p < d + b.length → Meet a b
  unfolding p
  meets_late h =
      let w = make_up a.period b.period n (m + 1) pa.1 pb.1 in
      let u = a.offset + w.0 * a.period in
      let e : p * (m + 1) ≡ p * m + p = mul-add p m 1 ∙ omega arith in
      (u, w.0, w.1, (omega arith, omega (arith, pa.0)), (omega (arith, w.2, tied, e, small), omega (arith, w.2, tied, e, h, small)))

  pub apart_means : Decides (apart_lines a b) (Meet a b → ⊥)
  unfolding p d
  apart_means = (λ e. never (grind (arith, nat_tests)) (grind (arith, nat_tests)), λ none. grind (arith, nat_tests, pos, none, meets_early, meets_late))

pub apart_told : (a b : Line) (r : Bool) → r ≡ apart_lines a b → Periodic a → Periodic b → Decides r (Meet a b → ⊥)
apart_told a b r e pa pb = rw e (apart_means a b pa pb)

pub meet_sym : (a b : Line) → Meet a b → Meet b a
meet_sym a b h = (h.0, h.2, h.1, h.4, h.3)

pub apart_sym : (a b : Line) → Periodic a → Periodic b → apart_lines a b ≡ apart_lines b a
apart_sym a b pa pb =
    same_from_decides (apart_lines a b) (apart_lines b a) (apart_means a b pa pb)
    (Decides-like (apart_lines b a) (λ none h. none (meet_sym a b h)) (λ none h. none (meet_sym b a h)) (apart_means b a pb pa))
