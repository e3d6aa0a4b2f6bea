-- What a plan's place holds.
--   plan_set   its policy and its lines
use Rattle.model.specs.TaskSets.{TaskSet}
use Rattle.planning.specs.declared.plan.Plan.{Plan}

-- What the plan says: its policy and its lines.
abbrev pub plan_set : Plan → TaskSet
plan_set p = p.tasks
