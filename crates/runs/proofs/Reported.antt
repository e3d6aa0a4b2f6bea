-- What a step reports is read off the line that gets the unit.
use Rattle.std.proofs.Common.{◌≡◌, ℕ, Some, None, Option, refl, ap}
use Rattle.std.specs.Option.{option_map, unwrap_or}
use Rattle.runs.specs.declared.call.StepReport.{StepReport}
use Rattle.runs.specs.declared.call.UnitReport.{UnitReport}
use Rattle.runs.specs.declared.task.Task.{Task}
use Rattle.runs.specs.Steps.{number_of, report_for, line_of}

pub report_line : (o : Option Task) (n : ℕ) → line_of (report_for o n) ≡ number_of o
report_line None n = refl
report_line (Some x) n = refl

pub unit_line : (r : StepReport) (u : UnitReport) → r.unit ≡ Some u → line_of r ≡ u.line
unit_line r u is = ap (λ o. unwrap_or (option_map (λ v. v.line) o) 0) is
