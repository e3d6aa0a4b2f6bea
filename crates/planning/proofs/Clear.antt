-- The test of a line against those placed, with one line more behind them.
use Rattle.std.proofs.Common.{◌≡◌, true, List, [], ◌∷◌, ◌++◌, not, ◌||◌, arith}
use Rattle.std.proofs.lemmas.Grind.{common_steps}
use Rattle.std.proofs.lemmas.List.Folds.{list_all-append}
use Rattle.model.specs.Ranges.{is_regular}
use Rattle.model.specs.declared.line.Line.{Line}
use Rattle.windows.specs.Windows.{apart_lines}
use Rattle.planning.specs.Offsets.{clear_of}

module _ (placed : List Line) (m x : Line) where
  pub clear_push : clear_of placed x ≡ true → (is_regular m ≡ true → apart_lines m x ≡ true) → clear_of (placed ++ m ∷ []) x ≡ true
  clear_push c f = grind (arith, common_steps, list_all-append (λ a. not (is_regular a) || apart_lines a x) placed (m ∷ []))

  pub clear_pushed : clear_of (placed ++ m ∷ []) x ≡ true → (clear_of placed x ≡ true) × (is_regular m ≡ true → apart_lines m x ≡ true)
  clear_pushed c = grind (arith, common_steps, list_all-append (λ a. not (is_regular a) || apart_lines a x) placed (m ∷ []))
