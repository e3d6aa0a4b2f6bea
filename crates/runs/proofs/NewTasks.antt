-- Lines before their first instant, by their places.
use Rattle.std.proofs.Common.{◌≡◌, ℕ, zero, suc, ◌+◌, ◌<◌, ◌≤◌, List, [], ◌∷◌, length, get_or, sym, refl, ap, ◌∙◌, arith}
use Rattle.std.specs.List.{AllByRecursion}
use Rattle.std.proofs.lemmas.List.{same_lists, get_or_default}
use Rattle.model.specs.declared.line.Line.{Line}
use Rattle.model.specs.Ranges.{blank, AllRanged}
use Rattle.runs.specs.declared.task.Task.{Task}
use Rattle.runs.specs.Tasks.{new_task, new_tasks, blank_task}
use Rattle.runs.specs.Steps.{Numbered, Timed, WellFormed}

pub length_new_tasks : (n : ℕ) (ls : List Line) → length (new_tasks n ls) ≡ length ls
length_new_tasks n [] = refl
length_new_tasks n (l ∷ ls) = ap suc (length_new_tasks (n + 1) ls)

pub new_tasks_at : (n : ℕ) (ls : List Line) (k : ℕ) (d : Task) (e : Line) → k < length ls → get_or (new_tasks n ls) k d ≡ new_task (n + k) (get_or ls k e)
new_tasks_at n [] k d e h = absurd (omega arith)
new_tasks_at n (l ∷ ls) zero d e h = ap (λ m. new_task m l) (omega arith)
new_tasks_at n (l ∷ ls) (suc k) d e h = grind (arith, (new_tasks_at (n + 1) ls k d e (omega arith)))

-- a list that holds the new line at every place
pub new_tasks_from : (xs : List Task) (ls : List Line) → length xs ≡ length ls → ((k : ℕ) → k < length ls → get_or xs k blank_task ≡ new_task (k + 1) (get_or ls k blank)) → xs ≡ new_tasks 1 ls
new_tasks_from xs ls len each = same_lists xs (new_tasks 1 ls) (len ∙ sym (length_new_tasks 1 ls))
    (λ k d h. get_or_default xs k d blank_task h ∙ each k (omega arith) ∙ ap (λ m. new_task m (get_or ls k blank)) (omega arith) ∙ sym (new_tasks_at 1 ls k d blank (omega arith)))

pub new_numbered : (n : ℕ) (ls : List Line) → Numbered n (new_tasks n ls)
new_numbered n [] = tt
new_numbered n (l ∷ ls) = (refl, new_numbered (n + 1) ls)

new_timed : (n : ℕ) (ls : List Line) → AllRanged ls → AllByRecursion Timed (new_tasks n ls)
new_timed n [] h = tt
new_timed n (l ∷ ls) h = grind (arith, h 0, new_timed (n + 1) ls (λ i below. h (suc i) (omega arith)))

pub new_well_formed : (ls : List Line) → length ls ≤ 24 → AllRanged ls → WellFormed (new_tasks 1 ls)
new_well_formed ls few ranged = grind (arith, new_numbered, length_new_tasks, new_timed)
