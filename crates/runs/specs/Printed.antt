-- How what an executive tells is printed.
--   numbers_text   numbers, a space between each two
--   report_text    what a step replied
--   counts_text    what became of a line's jobs
--   figures_text   a line's jitter figures
use Rattle.std.specs.Prelude.{ℕ, Bool, List, [], ◌∷◌, map, false, decimal, unwrap_or, if◌then◌else◌}
use Rattle.std.specs.List.{join_with_byte}
use Rattle.runs.specs.declared.call.CountsReport.{CountsReport}
use Rattle.runs.specs.declared.call.StepReport.{StepReport}
use Rattle.runs.specs.declared.call.UnitReport.{UnitReport}
use Rattle.runs.specs.declared.jitter.Figures.{Figures}

abbrev pub numbers_text : List ℕ → List ℕ
numbers_text ns = join_with_byte 32 (map decimal ns)

abbrev flag : Bool → ℕ
flag b = if b then 1 else 0

-- what is told of a unit that was nobody's
abbrev idle : UnitReport
idle = record { line = 0; began = false; ended = false }

-- the line, whether its job began and ended, and how many jobs were struck out
abbrev pub report_text : StepReport → List ℕ
report_text r = let u : UnitReport = unwrap_or r.unit idle in numbers_text (u.line ∷ flag u.began ∷ flag u.ended ∷ r.struck ∷ [])

abbrev pub counts_text : CountsReport → List ℕ
counts_text c = numbers_text (c.made ∷ c.ended ∷ c.missed ∷ c.aside ∷ c.pending ∷ [])

abbrev pub figures_text : Figures → List ℕ
figures_text x = numbers_text (x.number ∷ x.sum ∷ x.largest ∷ x.numerator ∷ x.denominator ∷ [])
