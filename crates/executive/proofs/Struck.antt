-- The slots one arrival on, with what was struck out so far.
use Rattle.std.proofs.Common.{◌≡◌, ℕ, ◌+◌, ◌<◌, Bool, true, false, List, ◌++◌, map, length, get_or, take, drop, set, Some, Option, count_by, sym, ap, ◌∙◌, arith}
use Rattle.std.proofs.lemmas.Grind.{common_steps}
use Rattle.std.proofs.lemmas.List.{get_or_default, places}
use Rattle.std.proofs.lemmas.List.Edits.{map_over_more}
use Rattle.std.proofs.lemmas.List.Sums.{count_by_more_yes, count_by_more_no}
use Rattle.std.specs.Option.{option_or}
use Rattle.runs.specs.declared.task.Task.{Task}
use Rattle.runs.specs.Tasks.{due, blank_task}
use Rattle.runs.specs.Steps.{lowest_due}
use Rattle.runs.proofs.Keeps.{arrived_number}
use Rattle.runs.proofs.Lowest.{lowest_more_yes, lowest_more_no}
use Rattle.executive.specs.declared.slot.Slot.{Slot}
use Rattle.executive.specs.Slots.{arrived_slot, blank_slot, tasks_of}
use Rattle.executive.proofs.Places.{slot_at, length_tasks, task_at}

-- the slots xs of which the first i have arrived at t
module _ (t : ℕ) (xs ys : List Slot) (i : ℕ) (within : i < length xs) (long : length ys ≡ length xs) (so_far : ys ≡ map (arrived_slot t) (take i xs) ++ drop i xs) where
  pub still : slot_at ys i ≡ slot_at xs i
  still = grind (arith, common_steps, places)

  pub arrived_more : (y : Slot) → y ≡ arrived_slot t (slot_at ys i) → set ys i y ≡ map (arrived_slot t) (take (i + 1) xs) ++ drop (i + 1) xs
  arrived_more y e = ap (set ys i) e ∙ map_over_more (arrived_slot t) xs ys i (slot_at ys i) within so_far (get_or_default ys i blank_slot (slot_at ys i) (omega arith))

  abbrev ts : List Task
  ts = tasks_of xs

  inside : i < length ts
  inside = omega (arith, length_tasks xs)

  told : (b : Bool) → b ≡ due t (slot_at ys i).task → due t (get_or ts i blank_task) ≡ b
  told b e = ap (due t) (task_at xs i) ∙ ap (λ s. due t s.task) (sym still) ∙ sym e

  pub count_yes : (n : ℕ) → n ≡ count_by (due t) (take i ts) → true ≡ due t (slot_at ys i).task → n + 1 ≡ count_by (due t) (take (i + 1) ts)
  count_yes n e hit = ap (λ m. m + 1) e ∙ sym (count_by_more_yes (due t) ts i blank_task inside (told true hit))

  pub count_no : (n : ℕ) → n ≡ count_by (due t) (take i ts) → false ≡ due t (slot_at ys i).task → n ≡ count_by (due t) (take (i + 1) ts)
  count_no n e miss = e ∙ sym (count_by_more_no (due t) ts i blank_task inside (told false miss))

  pub lowest_yes : (o : Option ℕ) → o ≡ lowest_due t (take i ts) → true ≡ due t (slot_at ys i).task → (y : Slot) → y ≡ arrived_slot t (slot_at ys i) → option_or o (Some y.task.number) ≡ lowest_due t (take (i + 1) ts)
  lowest_yes o e hit y is =
      let number : y.task.number ≡ (get_or ts i blank_task).number = ap (λ z. z.task.number) is ∙ arrived_number t (slot_at ys i).task ∙ ap (λ z. z.task.number) still ∙ ap (λ z. z.number) (sym (task_at xs i)) in
      ap (λ p. option_or p (Some y.task.number)) e ∙ ap (λ n. option_or (lowest_due t (take i ts)) (Some n)) number ∙ sym (lowest_more_yes t ts i blank_task inside (told true hit))

  pub lowest_no : (o : Option ℕ) → o ≡ lowest_due t (take i ts) → false ≡ due t (slot_at ys i).task → o ≡ lowest_due t (take (i + 1) ts)
  lowest_no o e miss = e ∙ sym (lowest_more_no t ts i blank_task inside (told false miss))
