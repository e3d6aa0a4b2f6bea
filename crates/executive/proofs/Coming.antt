-- A line's next release: it is the first from an instant on, and one instant on it stays or moves by a period.
use Rattle.std.proofs.Common.{◌≡◌, ℕ, ◌+◌, ◌-◌, ◌*◌, ◌/◌, ◌%◌, ◌<◌, ◌≤◌, true, false, cond, eqb, leb, sym, ap, ◌∙◌, subst, ⊎_elim, mod-lt, mul_comm, add-mul, arith}
use native.Mathlib.Nat.{div-add-mod, mul-mod_left}
use Rattle.std.proofs.lemmas.Nat.{mul-le}
use Rattle.std.proofs.lemmas.Bool.{and_from, and_parts, cases_lt, cond_both, eqb-true, eq-eqb, leb-true, leb-false, le-leb}
use Rattle.std.proofs.lemmas.Bool.Decides.{nat_tests}
use Rattle.model.specs.declared.line.Line.{Line}
use Rattle.runs.specs.Tasks.{releases_at}
use Rattle.executive.specs.Slots.{coming_at, IsComing}

-- release k of a line
pub released_at : (l : Line) (k : ℕ) → releases_at l (l.offset + k * l.period) ≡ true
released_at l k =
    let o = l.offset in
    let T = l.period in
    let gone : o + k * T - o ≡ k * T = omega arith in
    and_from _ _ (le-leb o (o + k * T) (omega arith)) (eq-eqb _ _ (ap (λ n. n % T) gone ∙ mul-mod_left k T))

-- which release an instant is
pub release_number : (l : Line) (t : ℕ) → releases_at l t ≡ true → (k : ℕ) × (t ≡ l.offset + k * l.period)
release_number l t e =
    let o = l.offset in
    let T = l.period in
    let parts = and_parts (leb o t) (eqb ((t - o) % T) 0) e in
    let q = (t - o) / T in
    (q, omega (arith, leb-true o t parts.0, eqb-true _ _ parts.1, div-add-mod (t - o) T, mul_comm T q))

-- two releases of a line are a period or more apart
pub a_period_apart : (l : Line) (a b : ℕ) → releases_at l a ≡ true → releases_at l b ≡ true → a < b → a + l.period ≤ b
a_period_apart l a b p q before =
    let T = l.period in
    let i = release_number l a p in
    let j = release_number l b q in
    let next : (i.0 + 1) * T ≡ i.0 * T + T = add-mul i.0 1 T ∙ omega arith in
    ⊎_elim
    (λ (up : i.0 < j.0). omega (arith, i.1, j.1, next, mul-le (i.0 + 1) T j.0 T (omega arith) (omega arith)))
    (λ (down : j.0 ≤ i.0). absurd (omega (arith, i.1, j.1, mul-le j.0 T i.0 T down (omega arith))))
    (cases_lt i.0 j.0)

module _ (l : Line) (some : 0 < l.period) where
  first_is : (t : ℕ) → t ≤ l.offset → IsComing l t l.offset
  first_is t h = record {
    from = h;
    released = subst (λ n. releases_at l n ≡ true) (omega arith) (released_at l 0);
    least = λ u _ e. leb-true _ _ (and_parts (leb l.offset u) _ e).0;
  }

  later_is : (t : ℕ) → l.offset < t → IsComing l t (l.offset + (t - l.offset + (l.period - 1)) / l.period * l.period)
  later_is t h =
      let o = l.offset in
      let T = l.period in
      let n = t - o + (T - 1) in
      let q = n / T in
      let whole : q * T + n % T ≡ n = omega (arith, div-add-mod n T, mul_comm T q) in
      let rest : n % T < T = mod-lt n some in
      record {
        from = omega (arith, whole, rest);
        released = released_at l q;
        least = λ u p e.
            let k = release_number l u e in
            ⊎_elim
            (λ (low : k.0 < q). absurd (omega (arith, whole, k.1, mul-le (k.0 + 1) T q T (omega arith) (omega arith), add-mul k.0 1 T)))
            (λ (high : q ≤ k.0). omega (arith, k.1, mul-le q T k.0 T high (omega arith)))
            (cases_lt k.0 q);
      }

  pub coming_is : (t : ℕ) → IsComing l t (coming_at l t)
  coming_is t = cond_both (leb t l.offset) _ _ (IsComing l t) (λ e. first_is t (leb-true _ _ e)) (λ e. later_is t (leb-false _ _ e))

  pub one_coming : (t a b : ℕ) → IsComing l t a → IsComing l t b → a ≡ b
  one_coming t a b p q = omega (arith, p.least b q.from q.released, q.least a p.from p.released)

  -- a line has a release at t exactly if its next one comes at t
  pub released_now : (t : ℕ) → releases_at l t ≡ eqb (coming_at l t) t
  released_now t =
      let coming = coming_is t in
      grind (arith, nat_tests, coming.from, coming.released, coming.least t)

  moves : (t : ℕ) → releases_at l t ≡ true → IsComing l (t + 1) (coming_at l t + l.period)
  moves t e =
      let now : coming_at l t ≡ t = eqb-true _ _ (sym (released_now t) ∙ e) in
      let k = release_number l t e in
      let on : l.offset + (k.0 + 1) * l.period ≡ coming_at l t + l.period = omega (arith, now, k.1, add-mul k.0 1 l.period) in
      record {
        from = omega arith;
        released = subst (λ n. releases_at l n ≡ true) on (released_at l (k.0 + 1));
        least = λ u p q. omega (arith, now, a_period_apart l t u e q (omega arith));
      }

  stays : (t : ℕ) → releases_at l t ≡ false → IsComing l (t + 1) (coming_at l t)
  stays t e =
      let coming = coming_is t in
      record { from = grind (arith, nat_tests, coming.from, released_now t); released = coming.released; least = λ u p q. coming.least u (omega arith) q }

  -- one instant on, the next release is a period further if there was one, and else the same
  pub coming_next : (t : ℕ) → coming_at l (t + 1) ≡ cond (releases_at l t) (coming_at l t + l.period) (coming_at l t)
  coming_next t = one_coming (t + 1) _ _ (coming_is (t + 1)) (cond_both (releases_at l t) _ _ (IsComing l (t + 1)) (moves t) (stays t))
