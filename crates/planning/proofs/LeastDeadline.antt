-- What `min` picks among the deadlines of the ordinary lines.
use Rattle.std.proofs.Common.{◌≡◌, ℕ, suc, ◌-◌, ◌<◌, ◌≤◌, min, true, false, List, [], ◌∷◌, Some, None, Option, MatchOption, refl, ap, ◌∙◌, ⊎_elim, arith}
use Rattle.std.specs.List.{fold, reduce}
use Rattle.std.proofs.lemmas.Bool.{cases_Bool, cases_lt}
use Rattle.std.proofs.lemmas.Grind.{common_steps}
use Rattle.model.specs.Ranges.{is_regular}
use Rattle.model.specs.declared.line.Line.{Line}
use Rattle.planning.specs.Deadlines.{least_ordinary, IsLeastOrdinary, NoneOrdinary}

abbrev smaller : ℕ → Option ℕ → ℕ
smaller d None = d
smaller d (Some m) = min d m

fold_min : (a x : ℕ) (xs : List ℕ) → fold min (min a x) xs ≡ min a (fold min x xs)
fold_min a x [] = refl
fold_min a x (y ∷ ys) = let e : min (min a x) y ≡ min a (min x y) = omega arith in ap (λ m. fold min m ys) e ∙ fold_min a (min x y) ys

least_of : (d : ℕ) (xs : List ℕ) → fold min d xs ≡ smaller d (reduce min xs)
least_of d [] = refl
least_of d (x ∷ xs) = fold_min d x xs

abbrev IsLeast : List Line → Option ℕ → Type 0
IsLeast ls o = MatchOption o (NoneOrdinary ls) (IsLeastOrdinary ls)

regular : (l : Line) (ls : List Line) → is_regular l ≡ true → (o : Option ℕ) → IsLeast ls o → IsLeast (l ∷ ls) o
regular l ls reg None w = λ i h. grind (arith, common_steps, w (i - 1))
regular l ls reg (Some m) w = record { bound = λ i h r. grind (arith, common_steps, w.bound (i - 1)); reached = (suc w.reached.0, omega (arith, w.reached.1), w.reached.2, w.reached.3) }

ordinary : (l : Line) (ls : List Line) → is_regular l ≡ false → (o : Option ℕ) → IsLeast ls o → IsLeastOrdinary (l ∷ ls) (smaller l.deadline o)
ordinary l ls ord None w = record {
  bound = λ i h r. grind (arith, common_steps, w (i - 1));
  reached = (0, omega arith, ord, refl);
}
ordinary l ls ord (Some m) w = record {
  bound = λ i h r. grind (arith, common_steps, w.bound (i - 1));
  reached =
      ⊎_elim
      (λ (low : l.deadline < m). (0, omega arith, ord, omega arith))
      (λ (high : m ≤ l.deadline). (suc w.reached.0, omega (arith, w.reached.1), w.reached.2, omega (arith, w.reached.3)))
      (cases_lt l.deadline m);
}

pub least_is : (ls : List Line) → IsLeast ls (least_ordinary ls)
least_is [] = λ i h. absurd (omega arith)
least_is (l ∷ ls) =
    ⊎_elim
    (λ (reg : is_regular l ≡ true). simp reg (regular l ls reg (least_ordinary ls) (least_is ls)))
    (λ (ord : is_regular l ≡ false). simp (ord, least_of) (ordinary l ls ord (least_ordinary ls) (least_is ls)))
    (cases_Bool (is_regular l))
