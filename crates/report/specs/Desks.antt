-- What the two places of a desk hold.
--   sheet_held   the policy and the lines of its sheet
--   plan_held    the policy and the lines of its plan
use Rattle.model.specs.TaskSets.{TaskSet}
use Rattle.report.specs.declared.desk.Desk.{Desk}

abbrev pub sheet_held : Desk → TaskSet
sheet_held d = d.sheet.tasks

abbrev pub plan_held : Desk → TaskSet
plan_held d = d.plan.tasks
