-- A text cut at the first byte of a kind.
use Rattle.std.proofs.Common.{◌≡◌, ℕ, ◌+◌, ◌-◌, ◌<◌, false, eqb, List, [], ◌∷◌, ◌++◌, length, get_or, take, drop, All, Some, None, position, refl, ap, ◌∙◌, arith, drop-cons}
use Rattle.std.specs.List.{onto_first}
use Rattle.std.proofs.lemmas.Bool.{cond-false}
use Rattle.std.proofs.lemmas.List.Elements.{All-head, All-tail}
use Rattle.sheet.specs.Cutting.{lines_of}
use Rattle.std.proofs.lemmas.List.{take-append-drop}
use Rattle.std.proofs.lemmas.List.Quantifiers.{position-Some}
use Rattle.std.proofs.lemmas.List.Sums.{fails_before_first}
use Rattle.std.proofs.lemmas.Bool.{eqb-true}
use Rattle.std.proofs.lemmas.Bool.Decides.{nat_tests}
use Rattle.std.proofs.lemmas.Grind.{common_steps}

module _ (byte : ℕ) (s : List ℕ) where
  pub first_at : (n : ℕ) → position (λ b. eqb b byte) s ≡ Some n → (s ≡ take n s ++ byte ∷ take (length s - (n + 1)) (drop (n + 1) s)) × All (λ b. eqb b byte ≡ false) (take n s)
  first_at n e =
      let h = position-Some (λ b. eqb b byte) s n 0 e in
      let here : get_or s n 0 ≡ byte = eqb-true _ _ h.1 in
      (grind (arith, common_steps, here, h.0, take-append-drop n s, drop-cons s n 0 h.0), λ k d l. grind (arith, common_steps, h.2 k))

  pub nowhere : position (λ b. eqb b byte) s ≡ None → All (λ b. eqb b byte ≡ false) s
  nowhere e = λ k d l. fails_before_first (λ b. eqb b byte) s k d (grind (arith, nat_tests, common_steps))

-- no byte ends a line
abbrev pub Unended : List ℕ → Type 0
Unended = All (λ b. eqb b 10 ≡ false)

step : (b : ℕ) (bs : List ℕ) → Unended (b ∷ bs) → lines_of (b ∷ bs) ≡ onto_first b (lines_of bs)
step b bs h = cond-false (eqb b 10) _ _ (All-head (λ c. eqb c 10 ≡ false) b bs h)

pub lines_at : (l rest : List ℕ) → Unended l → lines_of (l ++ 10 ∷ rest) ≡ l ∷ lines_of rest
lines_at [] rest h = refl
lines_at (b ∷ bs) rest h =
    cond-false (eqb b 10) _ _ (All-head (λ c. eqb c 10 ≡ false) b bs h) ∙ ap (onto_first b) (lines_at bs rest (All-tail (λ c. eqb c 10 ≡ false) b bs h))

pub lines_end : (l : List ℕ) → 0 < length l → Unended l → lines_of l ≡ l ∷ []
lines_end [] some h = absurd (omega arith)
lines_end (b ∷ []) some h = step b [] h
lines_end (b ∷ c ∷ cs) some h = step b (c ∷ cs) h ∙ ap (onto_first b) (lines_end (c ∷ cs) (omega arith) (All-tail (λ x. eqb x 10 ≡ false) b (c ∷ cs) h))
