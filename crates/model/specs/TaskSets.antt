-- A policy and its lines: what a sheet says, and what a plan says.
--   TaskSet, task_set   the policy and the lines, in sheet order
--   no_tasks            what a new place holds
--   Filled              what a call that fills a place replies, and what the place holds then
use Rattle.std.specs.Prelude.{◌≡◌, List, [], Ok, Err, Result}
use Rattle.model.specs.declared.fault.Fault.{Fault}
use Rattle.model.specs.declared.line.Line.{Line}
use Rattle.model.specs.declared.policy.Policy.{Policy}
use Rattle.model.specs.declared.policy.Policy.TheVariants.{Dm}

pub record TaskSet : Type 0 where
  pub policy : Policy
  pub lines : List Line

abbrev pub task_set : Policy → List Line → TaskSet
task_set p ls = record { policy = p; lines = ls }

abbrev pub no_tasks : TaskSet
no_tasks = task_set Dm []

-- The call should come to `right`: it then says so, and the place holds that or, refused, what it held.
abbrev pub Filled : {X : Type 0} → Result X Fault → Result TaskSet Fault → TaskSet → TaskSet → Type 0
Filled (Ok _) (Ok right) before after = after ≡ right
Filled (Err e) (Err right) before after = (e ≡ right) × (after ≡ before)
Filled (Ok _) (Err right) before after = ⊥
Filled (Err e) (Ok right) before after = ⊥
