-- What a rehearsal that passed says of its run, by its rules.
use Rattle.std.proofs.Common.{◌≡◌, ℕ, ◌<◌, Bool, List, length, get_or, Ok, Result, sym, ap, ◌∙◌}
use Rattle.std.proofs.lemmas.List.{get_or-map}
use Rattle.model.specs.declared.fault.Fault.{Fault}
use Rattle.model.specs.declared.job.Job.{Job}
use Rattle.model.specs.declared.line.Line.{Line}
use Rattle.runs.specs.declared.task.Task.{Task}
use Rattle.runs.specs.Tasks.{blank_task}
use Rattle.runs.specs.Rehearsals.{units_left, rehearsal_of}
use Rattle.runs.specs.RehearsalRules.{NoneStruckBelow, SameAtMarks, second_mark, Rehearsed, passed, overload, missed, unsettled}
use Rattle.runs.proofs.Pointwise.{task_of}
use Rattle.runs.proofs.Rules.{keeps_rules}

pub same_units_at : (xs ys : List Task) → units_left xs ≡ units_left ys → (i : ℕ) → i < length xs → i < length ys → (task_of xs i).left ≡ (task_of ys i).left
same_units_at xs ys same i p q = sym (get_or-map (λ x. x.left) xs i blank_task 0 p) ∙ ap (λ us. get_or us i 0) same ∙ get_or-map (λ x. x.left) ys i blank_task 0 q

module _ (ahead : Job → Job → Bool) (ls : List Line) (h : ℕ) where
  passes : (r : Result (Unit {0}) Fault) → r ≡ Ok tt → Rehearsed ahead h ls r → NoneStruckBelow ahead ls (second_mark h ls) × SameAtMarks ahead h ls
  passes r ok (passed light clear same) = (clear, same)
  passes r ok (overload over) = absurd (cc)
  passes r ok (missed t l light in' clear struck) = absurd (cc)
  passes r ok (unsettled light clear differ) = absurd (cc)

  -- Up to the second mark nothing is struck out; at both marks the same units are left.
  pub marks : rehearsal_of ahead h ls ≡ Ok tt → NoneStruckBelow ahead ls (second_mark h ls) × SameAtMarks ahead h ls
  marks ok = passes (rehearsal_of ahead h ls) ok (keeps_rules ahead ls h)
