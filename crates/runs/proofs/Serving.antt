-- Lines that carry their numbers: one number stands at one place, so that one line alone is served.
use Rattle.std.proofs.Common.{◌≡◌, ℕ, zero, suc, ◌+◌, ◌<◌, List, [], ◌∷◌, map, length, get_or, set, refl, arith, rules}
use Rattle.std.proofs.lemmas.List.{same_lists, length-map, get_or-map}
use Rattle.runs.specs.Tasks.{served}
use Rattle.runs.specs.Steps.{Numbered}
use Rattle.runs.specs.declared.task.Task.{Task}

-- the number of the line at place i
pub numbered_at : (n : ℕ) (xs : List Task) (i : ℕ) (d : Task) → i < length xs → Numbered n xs → (get_or xs i d).number ≡ n + i
numbered_at n [] i d h s = absurd (omega arith)
numbered_at n (x ∷ xs) zero d h s = omega (arith, s.0)
numbered_at n (x ∷ xs) (suc i) d h s = omega (arith, numbered_at (n + 1) xs i d (omega arith) s.1)

pub serve_one : (xs : List Task) (i : ℕ) (d : Task) → i < length xs → Numbered 1 xs → set xs i (served (get_or xs i d).number (get_or xs i d)) ≡ map (served (get_or xs i d).number) xs
serve_one xs i d h s = search (rules, same_lists, length-map, get_or-map, numbered_at)

pub serve_none : (n : ℕ) (xs : List Task) → 0 < n → Numbered n xs → xs ≡ map (served 0) xs
serve_none n [] p s = refl
serve_none n (x ∷ xs) p s = grind (arith, (serve_none (n + 1) xs (omega arith) s.1))
