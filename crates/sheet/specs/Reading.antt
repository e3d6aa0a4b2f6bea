-- What a text is read as: the sheet, or the first fault in the order of the text.
--   letter_kind, kind_of      what a kind's field says
--   all_name_bytes, is_name   which bytes are a name
--   leading_zero, is_number, value_from, number_of   what a number's field says
--   read_kind, read_name, read_number, read_end   one field in its place
--   read_figures, read_fields, read_line   a task line
--   read_tasks                the task lines behind those that were read
--   policy_of, read_policy    line 0
--   read_lines                all lines
--   is_ended, read_sheet      a whole text
use Rattle.std.specs.Prelude.{ℕ, ◌+◌, ◌-◌, ◌*◌, Bool, cond, not, ◌&&◌, List, [], ◌∷◌, ◌++◌, length, drop, Some, None, Ok, Err, Option, Result, ◌==◌, nat_le, nat_lt, slice_index}
use Rattle.std.specs.Int.{is_in_range}
use Rattle.std.specs.Char.{is_ascii_alphanumeric, is_ascii_digit}
use Rattle.std.specs.List.{list_all}
use Rattle.model.specs.declared.fault.Fault.{Fault}
use Rattle.model.specs.declared.fault.Fault.TheVariants.{TextTooLong, TextNotEnded, Malformed, OutOfRange, TooManyLines, TooManyRegular}
use Rattle.model.specs.declared.kind.Kind.{Kind}
use Rattle.model.specs.declared.kind.Kind.TheVariants.{Ordinary, Regular}
use Rattle.model.specs.declared.line.Line.{Line}
use Rattle.model.specs.declared.policy.Policy.{Policy}
use Rattle.model.specs.declared.policy.Policy.TheVariants.{Dm, Ed}
use Rattle.model.specs.Ranges.{regular_kind, regulars}
pub use Rattle.model.specs.Results.{and_then, or_fault}
use Rattle.model.specs.TaskSets.{TaskSet, task_set}
use Rattle.sheet.specs.Cutting.{lines_of, fields_of}

-- The letter R or N.
abbrev pub letter_kind : ℕ → Option Kind
letter_kind b = cond (b == 82) (Some Regular) (cond (b == 78) (Some Ordinary) None)

-- A kind is one letter.
abbrev pub kind_of : List ℕ → Option Kind
kind_of [] = None
kind_of (b ∷ []) = letter_kind b
kind_of (b ∷ c ∷ bs) = None

-- Nothing but letters and digits.
abbrev pub all_name_bytes : List ℕ → Bool
all_name_bytes = list_all is_ascii_alphanumeric

-- A name is 1 to 12 letters A to Z, a to z or digits.
abbrev pub is_name : List ℕ → Bool
is_name bs = is_in_range 1 12 (length bs) && all_name_bytes bs

-- More than one digit, of which the first is 0.
abbrev pub leading_zero : List ℕ → Bool
leading_zero bs = slice_index bs 0 == 48 && nat_lt 1 (length bs)

-- A number is 1 to 7 digits with no leading zero.
abbrev pub is_number : List ℕ → Bool
is_number bs = (is_in_range 1 7 (length bs) && not (leading_zero bs)) && list_all is_ascii_digit bs

-- The value of digits behind those that were read as n.
abbrev pub value_from : ℕ → List ℕ → ℕ
value_from n [] = n
value_from n (b ∷ bs) = value_from (10 * n + (b - 48)) bs

-- The number that a field says, if it is one.
abbrev pub number_of : List ℕ → Option ℕ
number_of bs = cond (is_number bs) (Some (value_from 0 bs)) None

-- The first field: a kind, and not regular where no regular line is left.
abbrev pub read_kind : ℕ → Bool → List (List ℕ) → Result Kind Fault
read_kind line full [] = Err (Malformed line 1)
read_kind line full (p ∷ ps) = or_fault (kind_of p) (Malformed line 1) (λ k. cond (full && regular_kind k) (Err (TooManyRegular line)) (Ok k))

-- The second field: a name.
abbrev pub read_name : ℕ → List (List ℕ) → Result (Unit {0}) Fault
read_name line [] = Err (Malformed line 2)
read_name line (p ∷ ps) = cond (is_name p) (Ok tt) (Err (Malformed line 2))

-- A later field: a number from `low` to 60,000.
abbrev pub read_number : ℕ → ℕ → ℕ → List (List ℕ) → Result ℕ Fault
read_number line field low [] = Err (Malformed line field)
read_number line field low (p ∷ ps) = or_fault (number_of p) (Malformed line field) (λ n. cond (is_in_range low 60000 n) (Ok n) (Err (OutOfRange line field)))

-- Behind the sixth field: nothing.
abbrev pub read_end : ℕ → List (List ℕ) → Result (Unit {0}) Fault
read_end line [] = Ok tt
read_end line (p ∷ ps) = Err (Malformed line 7)

-- The figures of a task line, given its third field and those behind it, and nothing behind them.
abbrev pub read_figures : ℕ → Kind → List (List ℕ) → Result Line Fault
read_figures line kind fields =
    and_then (read_number line 3 0 fields) (λ r.
    and_then (read_number line 4 1 (drop 1 fields)) (λ c.
    and_then (read_number line 5 c (drop 2 fields)) (λ d.
    and_then (read_number line 6 d (drop 3 fields)) (λ t.
    and_then (read_end line (drop 4 fields)) (λ _.
    Ok (record { kind = kind; offset = r; length = c; deadline = d; period = t }))))))

-- The fields of a task line in order; `full` says that eight regular lines stand before it.
abbrev pub read_fields : ℕ → Bool → List (List ℕ) → Result Line Fault
read_fields line full fields =
    and_then (read_kind line full fields) (λ kind.
    and_then (read_name line (drop 1 fields)) (λ _.
    read_figures line kind (drop 2 fields)))

-- A task line is cut into its fields first.
abbrev pub read_line : ℕ → Bool → List ℕ → Result Line Fault
read_line line full text = read_fields line full (fields_of text)

-- The task lines behind those in `done`: a 25th is a fault, whatever its fields.
abbrev pub read_tasks : List Line → List (List ℕ) → Result (List Line) Fault
read_tasks done [] = Ok done
read_tasks done (t ∷ ts) =
    cond (nat_lt (length done) 24)
    (and_then (read_line (length done + 1) (nat_le 8 (regulars done)) t) (λ l. read_tasks (done ++ l ∷ []) ts))
    (Err (TooManyLines 25))

-- Exactly `DM` or `ED`.
abbrev pub policy_of : List ℕ → Option Policy
policy_of [] = None
policy_of (b ∷ []) = None
policy_of (b ∷ c ∷ []) = cond (b == 68 && c == 77) (Some Dm) (cond (b == 69 && c == 68) (Some Ed) None)
policy_of (b ∷ c ∷ d ∷ bs) = None

-- Any trouble on line 0 is at its first field.
abbrev pub read_policy : List (List ℕ) → Result Policy Fault
read_policy [] = Err (Malformed 0 1)
read_policy (t ∷ ts) = or_fault (policy_of t) (Malformed 0 1) (λ p. Ok p)

-- Line 0 is a policy, and all others are task lines.
abbrev pub read_lines : List (List ℕ) → Result TaskSet Fault
read_lines lines =
    and_then (read_policy lines) (λ p.
    and_then (read_tasks [] (drop 1 lines)) (λ ls.
    Ok (task_set p ls)))

-- The last byte is 10, which no empty text has.
abbrev pub is_ended : List ℕ → Bool
is_ended text = slice_index text (length text - 1) == 10

-- Length and end come before every line.
abbrev pub read_sheet : List ℕ → Result TaskSet Fault
read_sheet text = cond (nat_lt 4096 (length text)) (Err TextTooLong) (cond (is_ended text) (read_lines (lines_of text)) (Err TextNotEnded))
