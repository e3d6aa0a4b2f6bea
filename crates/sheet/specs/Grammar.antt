-- Which texts are sheets, and what they say, without any order of faults.
--   NamedTask                 a task as the sheet's writer names it
--   letter, spaced, task_words   how a task is written
--   task_text, tasks_text     the lines that say tasks
--   policy_word, sheet_text   the text of a policy and its tasks
--   lines_of_tasks            tasks without their names
--   Sound                     a task that may stand on a sheet
--   Admits                    a text is the sheet of a policy and its tasks
--   Admitted                  a text is a sheet
--   Says                      what a sheet says
use Rattle.std.specs.Prelude.{◌≡◌, ℕ, ◌≤◌, true, List, [], ◌∷◌, ◌++◌, map, length, All, decimal}
use Rattle.std.specs.List.{concat, join_with_byte}
use Rattle.model.specs.declared.kind.Kind.{Kind}
use Rattle.model.specs.declared.kind.Kind.TheVariants.{Ordinary, Regular}
use Rattle.model.specs.declared.line.Line.{Line}
use Rattle.model.specs.declared.policy.Policy.{Policy}
use Rattle.model.specs.declared.policy.Policy.TheVariants.{Dm, Ed}
use Rattle.model.specs.Ranges.{Ranged, regulars}
use Rattle.model.specs.TaskSets.{TaskSet, task_set}
use Rattle.sheet.specs.Reading.{is_name}

-- The name serves only the writer: nothing later needs it.
pub record NamedTask : Type 0 where
  pub name : List ℕ
  pub line : Line

-- The letter of a kind: R or N.
abbrev pub letter : Kind → ℕ
letter Ordinary = 78
letter Regular = 82

-- Words with a single space between each two.
abbrev pub spaced : List (List ℕ) → List ℕ
spaced = join_with_byte 32

-- Kind, name, first release, length, deadline and period.
abbrev pub task_words : NamedTask → List (List ℕ)
task_words t = (letter t.line.kind ∷ []) ∷ t.name ∷ decimal t.line.offset ∷ decimal t.line.length ∷ decimal t.line.deadline ∷ decimal t.line.period ∷ []

-- Every line ends with the byte 10.
abbrev pub task_text : NamedTask → List ℕ
task_text t = spaced (task_words t) ++ 10 ∷ []

-- One line behind the other.
abbrev pub tasks_text : List NamedTask → List ℕ
tasks_text ts = concat (map task_text ts)

-- `DM` or `ED`.
abbrev pub policy_word : Policy → List ℕ
policy_word Dm = 68 ∷ 77 ∷ []
policy_word Ed = 69 ∷ 68 ∷ []

-- Line 0 names the policy; the tasks follow.
abbrev pub sheet_text : Policy → List NamedTask → List ℕ
sheet_text p ts = policy_word p ++ 10 ∷ tasks_text ts

-- The lines that a sheet keeps of its tasks.
abbrev pub lines_of_tasks : List NamedTask → List Line
lines_of_tasks ts = map (λ t. t.line) ts

-- A name is well formed, and the figures lie in their ranges.
abbrev pub Sound : NamedTask → Type 0
Sound t = (is_name t.name ≡ true) × Ranged t.line

-- The text is that of the policy and the tasks; there are at most 24, of which at most 8 are regular.
pub record Admits (text : List ℕ) (p : Policy) (ts : List NamedTask) : Type 0 where
  pub said : text ≡ sheet_text p ts
  pub short : length text ≤ 4096
  pub few : length ts ≤ 24
  pub limited : regulars (lines_of_tasks ts) ≤ 8
  pub sound : All Sound ts

-- Some policy and tasks have this text.
abbrev pub Admitted : List ℕ → Type 0
Admitted text = (p : Policy) × ((ts : List NamedTask) × Admits text p ts)

-- Whatever policy and tasks have this text, they are what it says.
abbrev pub Says : List ℕ → TaskSet → Type 0
Says text s = (p : Policy) (ts : List NamedTask) → Admits text p ts → s ≡ task_set p (lines_of_tasks ts)
