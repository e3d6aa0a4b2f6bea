-- How many lines are regular, in std's words.
use Rattle.std.proofs.Common.{◌≡◌, ◌+◌, cond, List, [], ◌∷◌, ◌++◌, count_by, refl, arith}
use Rattle.std.proofs.lemmas.List.Recursion.{is_sum_by}
use Rattle.model.specs.declared.line.Line.{Line}
use Rattle.model.specs.Ranges.{is_regular, regulars}

pub regulars_counts : (ls : List Line) → regulars ls ≡ count_by is_regular ls
regulars_counts = is_sum_by regulars (λ l. cond (is_regular l) 1 0) refl (λ _ _. refl)

pub regulars_push : (ls : List Line) (l : Line) → regulars (ls ++ l ∷ []) ≡ regulars ls + cond (is_regular l) 1 0
regulars_push [] l = omega arith
regulars_push (x ∷ xs) l = omega (arith, regulars_push xs l)
