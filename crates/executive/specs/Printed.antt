-- How the answers to the two questions are printed.
--   release_text     a release: its instant and its line
--   deviating_text   a line with deviations, and the largest of them
use Rattle.std.specs.Prelude.{ℕ, List, [], ◌∷◌}
use Rattle.runs.specs.Printed.{numbers_text}
use Rattle.executive.specs.declared.questions.Deviating.{Deviating}
use Rattle.executive.specs.declared.questions.Release.{Release}

abbrev pub release_text : Release → List ℕ
release_text r = numbers_text (r.instant ∷ r.line ∷ [])

abbrev pub deviating_text : Deviating → List ℕ
deviating_text d = numbers_text (d.line ∷ d.largest ∷ [])
