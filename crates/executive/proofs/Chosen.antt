-- The slot whose pending job goes first: what `step::first` finds, by the words of the rules.
use Rattle.std.proofs.Common.{◌≡◌, ℕ, ◌+◌, Bool, List, [], ◌∷◌, Some, None, drop, get_or, position, refl, arith}
use Rattle.std.specs.List.{filter, fold, reduce}
use Rattle.std.specs.Option.{option_map}
use Rattle.std.proofs.lemmas.Bool.Decides.{nat_tests}
use Rattle.model.specs.declared.job.Job.{Job}
use Rattle.executive.specs.declared.slot.Slot.{Slot}
use Rattle.runs.specs.Steps.{first_from, first_of}
use Rattle.runs.specs.Tasks.{pending}
use Rattle.executive.specs.Slots.{first_of_two, tasks_of}

abbrev waits : Slot → Bool
waits x = pending x.task

abbrev pub seen : List Slot → List Slot
seen xs = filter waits xs

pub none_seen : (xs : List Slot) → position waits xs ≡ None → seen xs ≡ []
none_seen [] e = refl
none_seen (x ∷ xs) e = grind (arith, nat_tests, none_seen xs)

-- the first of them stands at the first place that passes
pub seen_from : (xs : List Slot) (k : ℕ) (d : Slot) → position waits xs ≡ Some k → seen xs ≡ get_or xs k d ∷ seen (drop (k + 1) xs)
seen_from [] k d e = grind (arith, nat_tests)
seen_from (x ∷ xs) k d e = grind (arith, nat_tests, seen_from xs)

module _ (ahead : Job → Job → Bool) where
  -- from a slot that is the best so far
  from_one : (b : Slot) (xs : List Slot) → Some (fold (first_of_two ahead) b (seen xs)).task ≡ first_from ahead (Some b.task) (tasks_of xs)
  from_one b [] = refl
  from_one b (x ∷ xs) = grind (arith, nat_tests, from_one x xs, from_one b xs)

  pub found : (xs : List Slot) → option_map (λ x. x.task) (reduce (first_of_two ahead) (seen xs)) ≡ first_of ahead (tasks_of xs)
  found [] = refl
  found (x ∷ xs) = grind (arith, nat_tests, from_one x xs, found xs)
