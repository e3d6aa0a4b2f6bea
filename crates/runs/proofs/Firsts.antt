-- Under a lawful ranking the line that `first_of` finds stands in the list, is pending, and goes ahead
-- of every other pending line.
use Rattle.std.proofs.Common.{◌≡◌, ℕ, zero, suc, ◌+◌, ◌<◌, ◌≤◌, Bool, true, false, List, length, take, Some, None, Option, sym, ap, ◌∙◌, subst, add-one, one-add, arith}
use Rattle.std.proofs.ByRecursion.{All-from_get_or}
use Rattle.std.proofs.lemmas.List.{take_all}
use Rattle.std.proofs.lemmas.List.Sums.{fold_more}
use Rattle.std.proofs.lemmas.Grind.{common_steps}
use Rattle.model.specs.declared.job.Job.{Job}
use Rattle.model.specs.Rankings.{Lawful, Sound}
use Rattle.runs.specs.declared.task.Task.{Task}
use Rattle.runs.specs.Tasks.{pending, job_of, blank_task}
use Rattle.runs.specs.Steps.{better, first_from, first_of, number_of, WellFormed, First, ToFirst}
use Rattle.runs.proofs.Pointwise.{task_of}
use Rattle.runs.proofs.Serving.{numbered_at}

-- the jobs of well-formed lines are those that the laws of a ranking speak of
pub sound_at : (xs : List Task) (i : ℕ) → WellFormed xs → i < length xs → Sound (job_of (task_of xs i))
sound_at xs i w h = grind (arith, common_steps, numbered_at)

module _ (ahead : Job → Job → Bool) (lawful : Lawful ahead) (xs : List Task) (w : WellFormed xs) where
  abbrev at : ℕ → Task
  at i = task_of xs i

  number_at : (i : ℕ) → i < length xs → (at i).number ≡ 1 + i
  number_at i h = numbered_at 1 xs i blank_task h w.0

  -- Of the first i lines the one at place p goes first.
  record Leads (i p : ℕ) : Type 0 where
    inside : p < i
    waits : pending (at p) ≡ true
    before : (k : ℕ) → k < i → (k ≡ p → ⊥) → pending (at k) ≡ true → ahead (job_of (at p)) (job_of (at k)) ≡ true

  abbrev Best : ℕ → Option Task → Type 0
  Best i None = (k : ℕ) → k < i → pending (at k) ≡ false
  Best i (Some b) = (p : ℕ) × (at p ≡ b) × Leads i p

  -- one line more, which is pending and is not, goes ahead of the best so far or does not
  overtakes : (i p : ℕ) → i < length xs → Leads i p → pending (at i) ≡ true → ahead (job_of (at i)) (job_of (at p)) ≡ true → Leads (i + 1) i
  overtakes i p h lead some first = grind (arith, sound_at, number_at)

  stays : (i p : ℕ) → i < length xs → Leads i p → (pending (at i) ≡ true → ahead (job_of (at i)) (job_of (at p)) ≡ false) → Leads (i + 1) p
  stays i p h lead behind = grind (arith, sound_at, number_at)

  best_more : (i : ℕ) (best : Option Task) → i < length xs → Best i best → Best (i + 1) (better ahead best (at i))
  best_more i None h none = grind arith
  best_more i (Some b) h lead = grind (arith, overtakes i lead.0 h lead.2, stays i lead.0 h lead.2)

  best_of_first : (i : ℕ) → i ≤ length xs → Best i (first_from ahead None (take i xs))
  best_of_first zero h = λ k below. absurd (omega arith)
  best_of_first (suc i) h =
      let now = best_more i (first_from ahead None (take i xs)) h (best_of_first i (omega arith)) in
      subst (λ n. Best n (first_from ahead None (take n xs))) (add-one i) (subst (Best (i + 1)) (sym (fold_more (better ahead) None xs i blank_task h)) now)

  best : Best (length xs) (first_of ahead xs)
  best = subst (λ ys. Best (length xs) (first_of ahead ys)) (take_all (length xs) xs (omega arith)) (best_of_first (length xs) (omega arith))

  -- the same of whatever stands past the end
  leads_first : (p : ℕ) → Leads (length xs) p → First ahead xs p
  leads_first p lead = grind (arith, common_steps)

  goes_first : (o : Option Task) → Best (length xs) o → ToFirst ahead xs (number_of o)
  goes_first None none = All-from_get_or (λ x. pending x ≡ false) xs blank_task none
  goes_first (Some b) (p, is, lead) = subst (ToFirst ahead xs) (sym (ap (λ x. x.number) (sym is) ∙ number_at p lead.inside ∙ one-add p)) (leads_first p lead)

  pub first_goes_first : ToFirst ahead xs (number_of (first_of ahead xs))
  first_goes_first = goes_first (first_of ahead xs) best

  pub first_place : (b : Task) → first_of ahead xs ≡ Some b → (i : ℕ) × (task_of xs i ≡ b) × First ahead xs i
  first_place b e = grind (arith, best, leads_first)
