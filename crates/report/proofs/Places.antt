-- What a place holds by what a call that fills it replied.
use Rattle.std.proofs.Common.{◌≡◌, Ok, Err, Result}
use Rattle.model.specs.TaskSets.{TaskSet, Filled}
use Rattle.model.specs.declared.fault.Fault.{Fault}
use Rattle.report.specs.Reports.{kept_or}

-- whatever was replied, the place holds what the call should come to, or what it held
pub filled_kept : (r : Result (Unit {0}) Fault) (right : Result TaskSet Fault) (before after : TaskSet) → Filled r right before after → after ≡ kept_or right before
filled_kept (Ok _) (Ok right) before after f = f
filled_kept (Ok _) (Err right) before after f = absurd f
filled_kept (Err e) (Ok right) before after f = absurd f
filled_kept (Err e) (Err right) before after f = f.1

pub filled_ok : (x : Unit {0}) (right : Result TaskSet Fault) (before after : TaskSet) → Filled {X = Unit {0}} (Ok x) right before after → right ≡ Ok after
filled_ok x (Ok right) before after f = cc
filled_ok x (Err right) before after f = absurd f

pub filled_err : (e : Fault) (right : Result TaskSet Fault) (before after : TaskSet) → Filled {X = Unit {0}} (Err e) right before after → right ≡ Err e
filled_err e (Ok right) before after f = absurd f
filled_err e (Err right) before after f = cc
