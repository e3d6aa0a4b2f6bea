-- How long the printed lines can be.
use Rattle.std.proofs.Common.{ℕ, suc, ◌+◌, ◌*◌, ◌^◌, ◌<◌, ◌≤◌, List, [], ◌∷◌, ◌++◌, length, codes, decimal, mul-suc, arith, length-append}
use Rattle.std.specs.List.{AllByRecursion}
use Rattle.std.proofs.lemmas.Fmt.{length-decimal-le}
use Rattle.std.proofs.ByRecursion.{All-weaker}
use Rattle.model.specs.Ranges.{AllRanged}
use Rattle.model.specs.declared.kind.Kind.{Kind}
use Rattle.model.specs.declared.kind.Kind.TheVariants.{Ordinary, Regular}
use Rattle.model.specs.declared.line.Line.{Line}
use Rattle.report.specs.declared.page.Page.{Page}
use Rattle.report.specs.Pages.{Room}
use Rattle.report.specs.Printed.{figures, row, cycle_line, kind_word, task_figures, task_line, task_lines, plan_text, verdict_room, Narrow}
use Rattle.report.specs.Reports.{buffer_least}

-- a number of at most k digits
abbrev Digits : ℕ → ℕ → Type 0
Digits k n = (n < 10 ^ k) × (n < 2 ^ 64)

figures_le : (k : ℕ) → 0 < k → (ns : List ℕ) → AllByRecursion (Digits k) ns → length (figures ns) ≤ (k + 1) * length ns
figures_le k some [] all = omega arith
figures_le k some (n ∷ ns) all =
    omega (arith, length-append (decimal n) (figures ns), length-decimal-le k n some all.0.0 all.0.1, figures_le k some ns all.1, mul-suc (k + 1) (length ns))

row_le : (k : ℕ) → 0 < k → (word ns : List ℕ) → AllByRecursion (Digits k) ns → length (row word ns) ≤ length word + (k + 1) * length ns + 1
row_le k some word ns all = omega (arith, length-append word (figures ns ++ 10 ∷ []), length-append (figures ns) (10 ∷ []), figures_le k some ns all)

cycle_le : (h : ℕ) → h < 2 ^ 32 → length (cycle_line h) ≤ 13
cycle_le h fits = row_le 10 (omega arith) (codes "H") (h ∷ []) ((omega arith, omega arith), tt)

-- a fault's line, whatever its four figures
pub fault_le : (a b c d : ℕ) → a < 2 ^ 64 → b < 2 ^ 64 → c < 2 ^ 64 → d < 2 ^ 64 → length (row (codes "fault") (a ∷ b ∷ c ∷ d ∷ [])) ≤ verdict_room
fault_le a b c d h i j k =
    row_le 20 (omega arith) (codes "fault") (a ∷ b ∷ c ∷ d ∷ []) ((omega arith, h), ((omega arith, i), ((omega arith, j), ((omega arith, k), tt))))

pub fault_room : (p : Page) (a b c d : ℕ) → p.at + verdict_room ≤ length p.out.now → a < 2 ^ 64 → b < 2 ^ 64 → c < 2 ^ 64 → d < 2 ^ 64 → Room p (row (codes "fault") (a ∷ b ∷ c ∷ d ∷ []))
fault_room p a b c d room h i j k = omega (arith, fault_le a b c d h i j k)

-- a letter behind a space
kind_le : (k : Kind) → length (kind_word k) ≤ 2
kind_le Ordinary = omega arith
kind_le Regular = omega arith

task_le : (n : ℕ) (l : Line) → n < 100 → Narrow l → length (task_line n l) ≤ 29
task_le n l few narrow =
    let word = kind_word l.kind in
    let ns = task_figures l in
    let all = All-weaker (λ m. m < 10 ^ 5) (Digits 5) (λ m h. (h, omega arith)) ns narrow in
    omega (arith, length-append (decimal n) (row word ns), length-decimal-le 2 n (omega arith) (omega arith) (omega arith), kind_le l.kind, row_le 5 (omega arith) word ns all)

tasks_le : (n : ℕ) (ls : List Line) → n + length ls ≤ 100 → AllByRecursion Narrow ls → length (task_lines n ls) ≤ 29 * length ls
tasks_le n [] few all = omega arith
tasks_le n (l ∷ ls) few all =
    omega (arith, length-append (task_line n l) (task_lines (n + 1) ls), task_le n l (omega arith) all.0, tasks_le (n + 1) ls (omega arith) all.1)

-- a plan of at most 24 lines, and any verdict below it
pub outcome_fits : (h : ℕ) (ls : List Line) → h < 2 ^ 32 → length ls ≤ 24 → AllByRecursion Narrow ls → length (plan_text h ls) + verdict_room ≤ buffer_least
outcome_fits h ls fits few all = omega (arith, length-append (cycle_line h) (task_lines 1 ls), cycle_le h fits, tasks_le 1 ls (omega arith) all)

-- lines whose figures lie in their ranges are narrow
pub ranged_narrow : (ls : List Line) → AllRanged ls → AllByRecursion Narrow ls
ranged_narrow [] all = tt
ranged_narrow (l ∷ ls) all =
    let r = all 0 (omega arith) in
    ((omega (arith, r.0), (omega (arith, r.2, r.3, r.4), (omega (arith, r.3, r.4), (omega (arith, r.4), tt)))), ranged_narrow ls (λ i below. all (suc i) (omega arith)))
