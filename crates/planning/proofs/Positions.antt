-- The first place of a list that passes a test, where places count from n.
use Rattle.std.proofs.Common.{◌≡◌, ℕ, zero, suc, ◌+◌, ◌-◌, ◌<◌, Bool, true, false, List, [], ◌∷◌, position, length, get_or, Some, None, refl, ap, ◌∙◌, arith}
use Rattle.std.proofs.lemmas.Grind.{common_steps}
use Rattle.std.proofs.lemmas.Iterator.Adapters.{position_from-zero}
use Rattle.std.specs.List.{position_from}
use Rattle.std.specs.Option.{option_map}

module _ {X : Type 0} (t : X → Bool) where
  counted : (n : ℕ) (xs : List X) → option_map (λ i. i + 1) (position_from t n xs) ≡ position_from t (n + 1) xs
  counted n [] = refl
  counted n (x ∷ xs) = grind (arith, common_steps, counted (n + 1) xs)

  -- places count from 0, lines from 1
  pub line_number : (xs : List X) → option_map (λ i. i + 1) (position t xs) ≡ position_from t 1 xs
  line_number xs = ap (option_map (λ i. i + 1)) (position_from-zero t xs) ∙ counted 0 xs

  pub none_passes : (n : ℕ) (xs : List X) (d : X) → position_from t n xs ≡ None → (j : ℕ) → j < length xs → t (get_or xs j d) ≡ false
  none_passes n [] d e j h = absurd (omega arith)
  none_passes n (x ∷ xs) d e zero h = grind (arith, common_steps)
  none_passes n (x ∷ xs) d e (suc j) h = grind (arith, common_steps, none_passes (n + 1) xs d)

  -- place m is the first that passes
  pub record FirstAt (n : ℕ) (xs : List X) (d : X) (k : ℕ) : Type 0 where
    pub m : ℕ
    pub inside : m < length xs
    pub is : k ≡ n + m
    pub here : t (get_or xs m d) ≡ true
    pub before : (j : ℕ) → j < m → t (get_or xs j d) ≡ false

  pub first_at : (n : ℕ) (xs : List X) (d : X) (k : ℕ) → position_from t n xs ≡ Some k → FirstAt n xs d k
  first_at n [] d k e = cc
  first_at n (x ∷ xs) d k e = go (first_at (n + 1) xs d k) (t x) refl
    where
      go : (position_from t (n + 1) xs ≡ Some k → FirstAt (n + 1) xs d k) → (b : Bool) → t x ≡ b → FirstAt n (x ∷ xs) d k
      go next true h = record { m = 0; inside = omega arith; is = grind (arith, common_steps); here = h; before = λ j l. absurd (omega arith) }
      go next false h =
          let w = next (grind (arith, common_steps)) in
          record { m = suc w.m; inside = omega (arith, w.inside); is = omega (arith, w.is); here = w.here; before = λ j l. grind (arith, common_steps, w.before (j - 1)) }
