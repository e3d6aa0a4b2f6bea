-- What is printed of a text, by what reading, planning and the rehearsal came to.
use Rattle.std.proofs.Common.{◌≡◌, ℕ, List, Ok, Err, Option, sym, ap, ◌∙◌}
use Rattle.std.specs.Result.{result_err}
use Rattle.model.specs.TaskSets.{TaskSet}
use Rattle.model.specs.declared.fault.Fault.{Fault}
use Rattle.model.specs.declared.line.Line.{Line}
use Rattle.planning.specs.Hyperperiods.{hyperperiod}
use Rattle.report.specs.Printed.{fault_line, outcome_text}
use Rattle.report.specs.Reports.{planned_from, rehearsed, report_of, report_text}

pub told_of_plan : (text : List ℕ) (s : TaskSet) (h : ℕ) (ls : List Line) (v : Option Fault) → planned_from text ≡ Ok s → h ≡ hyperperiod s.lines → ls ≡ s.lines → v ≡ result_err (rehearsed s) → outcome_text h ls v ≡ report_of text
told_of_plan text s h ls v e eh el ev =
    ap (λ (x : ℕ). outcome_text x ls v) eh ∙ ap (λ (x : List Line). outcome_text (hyperperiod s.lines) x v) el ∙ ap (λ (x : Option Fault). outcome_text (hyperperiod s.lines) s.lines x) ev ∙ sym (ap report_text e)

pub told_of_fault : (text : List ℕ) (f : Fault) → planned_from text ≡ Err f → fault_line f ≡ report_of text
told_of_fault text f e = sym (ap report_text e)
