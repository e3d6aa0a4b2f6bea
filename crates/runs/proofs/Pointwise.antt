-- What a step and the calls between steps do, line by line.
use Rattle.std.proofs.Common.{◌≡◌, ℕ, ◌<◌, Bool, cond, eqb, List, length, get_or, ap, ◌∙◌, arith}
use Rattle.std.proofs.lemmas.List.{length-map, get_or-map}
use Rattle.std.proofs.lemmas.Grind.{common_steps}
use Rattle.model.specs.declared.job.Job.{Job}
use Rattle.runs.specs.declared.task.Task.{Task}
use Rattle.runs.specs.Tasks.{arrived, served, blank_task}
use Rattle.runs.specs.Steps.{first_of, number_of, arrived_all, stepped}
use Rattle.runs.specs.Calls.{on_line}

-- the line at a place
abbrev pub task_of : List Task → ℕ → Task
task_of xs i = get_or xs i blank_task

-- the number of the line that gets the unit at t
abbrev pub who : (Job → Job → Bool) → ℕ → List Task → ℕ
who ahead t xs = number_of (first_of ahead (arrived_all t xs))

pub arrived_at : (t : ℕ) (xs : List Task) (i : ℕ) → i < length xs → task_of (arrived_all t xs) i ≡ arrived t (task_of xs i)
arrived_at t xs i h = get_or-map (arrived t) xs i blank_task blank_task h

pub length_arrived : (t : ℕ) (xs : List Task) → length (arrived_all t xs) ≡ length xs
length_arrived t xs = length-map xs (arrived t)

pub length_stepped : (ahead : Job → Job → Bool) (t : ℕ) (xs : List Task) → length (stepped ahead t xs) ≡ length xs
length_stepped ahead t xs = grind (arith, common_steps)

pub stepped_at : (ahead : Job → Job → Bool) (t : ℕ) (xs : List Task) (i : ℕ) → i < length xs → task_of (stepped ahead t xs) i ≡ served (who ahead t xs) (arrived t (task_of xs i))
stepped_at ahead t xs i h =
    let inside : i < length (arrived_all t xs) = rw (length_arrived t xs) h in
    get_or-map (served (who ahead t xs)) (arrived_all t xs) i blank_task blank_task inside ∙ ap (served (who ahead t xs)) (arrived_at t xs i h)

pub length_on_line : (n : ℕ) (f : Task → Task) (xs : List Task) → length (on_line n f xs) ≡ length xs
length_on_line n f xs = length-map xs (λ x. cond (eqb x.number n) (f x) x)

pub on_line_at : (n : ℕ) (f : Task → Task) (xs : List Task) (i : ℕ) → i < length xs → task_of (on_line n f xs) i ≡ cond (eqb (task_of xs i).number n) (f (task_of xs i)) (task_of xs i)
on_line_at n f xs i h = grind (arith, common_steps)
