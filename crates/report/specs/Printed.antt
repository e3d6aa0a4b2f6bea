-- What the planning program prints, as bytes; every line ends with the byte 10.
--   figure, figures  numbers, each behind a space
--   row              a line: a word and figures
--   cycle_line        the hyperperiod
--   kind_word, task_figures, task_line, task_lines
--                    the lines of a plan, each with its number
--   Narrow           a line whose figures are short
--   plan_text         what is printed of a plan
--   passed_line       the rehearsal passed
--   code_figures, code_line, fault_line
--                    a fault: its number, its layer and its two places
--   verdict_line, verdict_room
--                    what the rehearsal came to, and how long that can be
--   outcome_text      what is printed of a plan and its rehearsal
use Rattle.std.specs.Prelude.{ℕ, ◌+◌, ◌^◌, ◌<◌, List, [], ◌∷◌, ◌++◌, Some, None, codes, decimal, Option}
use Rattle.std.specs.List.{flat_map, AllByRecursion}
use Rattle.model.specs.Faults.{code_of}
use Rattle.model.specs.declared.fault.Fault.{Fault}
use Rattle.model.specs.declared.fault.FaultCode.{FaultCode}
use Rattle.model.specs.declared.kind.Kind.{Kind}
use Rattle.model.specs.declared.kind.Kind.TheVariants.{Ordinary, Regular}
use Rattle.model.specs.declared.line.Line.{Line}

-- A number in decimal digits, behind a space.
abbrev pub figure : ℕ → List ℕ
figure n = 32 ∷ decimal n

-- One figure behind the other.
abbrev pub figures : List ℕ → List ℕ
figures ns = flat_map figure ns

-- A word, the figures behind it, and the byte 10.
abbrev pub row : List ℕ → List ℕ → List ℕ
row word ns = word ++ (figures ns ++ 10 ∷ [])

-- H and the hyperperiod.
abbrev pub cycle_line : ℕ → List ℕ
cycle_line h = row (codes "H") (h ∷ [])

-- The letter of a kind, behind a space.
abbrev pub kind_word : Kind → List ℕ
kind_word Ordinary = codes " N"
kind_word Regular = codes " R"

-- The figures of a line: r, C, D* and T.
abbrev pub task_figures : Line → List ℕ
task_figures l = l.offset ∷ l.length ∷ l.deadline ∷ l.period ∷ []

-- The line's number, its kind and its figures.
abbrev pub task_line : ℕ → Line → List ℕ
task_line n l = decimal n ++ row (kind_word l.kind) (task_figures l)

-- Every figure of the line has at most five digits.
abbrev pub Narrow : Line → Type 0
Narrow l = AllByRecursion (λ n. n < 10 ^ 5) (task_figures l)

-- The lines one below the other, numbered n, n + 1 and so on.
abbrev pub task_lines : ℕ → List Line → List ℕ
task_lines n [] = []
task_lines n (l ∷ ls) = task_line n l ++ task_lines (n + 1) ls

-- The hyperperiod, then the lines counted from 1.
abbrev pub plan_text : ℕ → List Line → List ℕ
plan_text h ls = cycle_line h ++ task_lines 1 ls

-- The word alone.
abbrev pub passed_line : List ℕ
passed_line = row (codes "passed") []

-- The figures of a fault: its number, its layer and its two places.
abbrev pub code_figures : FaultCode → List ℕ
code_figures c = c.number ∷ c.layer ∷ c.first ∷ c.second ∷ []

-- The word and the figures.
abbrev pub code_line : FaultCode → List ℕ
code_line c = row (codes "fault") (code_figures c)

-- The line of a fault.
abbrev pub fault_line : Fault → List ℕ
fault_line f = code_line (code_of f)

-- The last line of a report: the rehearsal passed, or its fault.
abbrev pub verdict_line : Option Fault → List ℕ
verdict_line None = passed_line
verdict_line (Some f) = fault_line f

-- No verdict is longer: five letters, four figures of 64 bits and the byte 10.
abbrev pub verdict_room : ℕ
verdict_room = 90

-- The plan, then its verdict.
abbrev pub outcome_text : ℕ → List Line → Option Fault → List ℕ
outcome_text h ls v = plan_text h ls ++ verdict_line v
