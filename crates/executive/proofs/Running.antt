-- The run, one unit on.
use Rattle.std.proofs.Common.{◌≡◌, ℕ, suc, ◌+◌, ◌-◌, ◌<◌, Bool, List, Ok, Err, Result, sym, ap, ◌∙◌, add-one, arith}
use Rattle.model.specs.declared.fault.Fault.{Fault}
use Rattle.model.specs.declared.job.Job.{Job}
use Rattle.runs.specs.declared.task.Task.{Task}
use Rattle.runs.specs.Steps.{stepped}
use Rattle.runs.specs.Rehearsals.{and_then, miss_at, run_units}

-- what the step at t replied, when k of the units are run, while the run that was asked for comes to `all`
module _ (ahead : Job → Job → Bool) (units k t : ℕ) (xs : List Task) (all : Result (List Task) Fault) (within : k < units) (rest : run_units ahead (units - k) t xs ≡ all) where
  one_unit : and_then (miss_at t xs) (λ _. run_units ahead (units - (k + 1)) (t + 1) (stepped ahead t xs)) ≡ all
  one_unit =
      let n : units - k ≡ suc (units - (k + 1)) = omega arith in
      sym (ap (λ m. run_units ahead m t xs) n ∙ ap (λ u. and_then (miss_at t xs) (λ _. run_units ahead (units - (k + 1)) u (stepped ahead t xs))) (sym (add-one t))) ∙ rest

  pub run_on : (u : ℕ) (ys : List Task) → u ≡ t + 1 → ys ≡ stepped ahead t xs → Ok tt ≡ miss_at t xs → run_units ahead (units - (k + 1)) u ys ≡ all
  run_on u ys e after none =
      ap (λ v. run_units ahead (units - (k + 1)) v ys) e ∙ ap (run_units ahead (units - (k + 1)) (t + 1)) after
      ∙ ap (λ m. and_then m (λ _. run_units ahead (units - (k + 1)) (t + 1) (stepped ahead t xs))) none ∙ one_unit

  pub run_stops : (e : Fault) → Err e ≡ miss_at t xs → Err e ≡ all
  run_stops e miss = ap (λ m. and_then m (λ _. run_units ahead (units - (k + 1)) (t + 1) (stepped ahead t xs))) miss ∙ one_unit
