-- Both sides of every bound of reading and printing, and the table of faults.
--   sheet_of   a text under DM: a task line some times over, then more
--   either     two lines that ED runs in time and DM does not
--   Edges      all of them, as one list
use Rattle.std.specs.Prelude.{◌≡◌, ℕ, ◌+◌, ◌<◌, List, [], ◌∷◌, ◌++◌, map, replicate, Ok, Err, codes}
use Rattle.std.specs.List.{flat_map}
use Rattle.model.specs.declared.fault.Fault.TheVariants.{TextTooLong, TextNotEnded, Malformed, OutOfRange, TooManyLines, TooManyRegular, HyperperiodTooLong, PairTooLong, NoOffsets, DeadlineTooShort, Overload, Missed, Unsettled, ClockAtEnd, NoJob, NoSuchLine, RegularLine, RestAsItIs, BufferTooSmall}
use Rattle.model.specs.Faults.{code, code_of}
use Rattle.model.specs.TaskSets.{no_tasks}
use Rattle.sheet.specs.FieldReader.{following}
use Rattle.sheet.specs.Reading.{read_sheet}
use Rattle.report.specs.Pages.{written}
use Rattle.report.specs.Reports.{report_of, reply_of, buffer_of, held_after}
use Rattle.cases.specs.Wording.{regular, ordinary, dm, ed}

-- A task line n times under DM, and what follows.
abbrev pub sheet_of : ℕ → List ℕ → List ℕ → List ℕ
sheet_of n line more = codes "DM\n" ++ flat_map (λ l. l) (replicate n line) ++ more

-- Two ordinary lines that fill every unit.
abbrev pub either : List ℕ
either = codes "\nN a 0 2 4 4\nN b 0 3 6 6\n"

pub record Edges : Type 0 where
  -- 4,096 bytes are looked at, and here have no end; with one more the length comes first.
  pub text_4096 : read_sheet (replicate 4096 0) ≡ Err TextNotEnded
  pub text_4097 : read_sheet (replicate 4097 0) ≡ Err TextTooLong
  -- The other policy.
  pub ed_sheet : read_sheet (codes "ED\n") ≡ Ok (ed [])
  -- A name is at most 12 letters and digits.
  pub name_12 : read_sheet (codes "DM\nN Az09Az09Az09 0 1 1 1\n") ≡ Ok (dm (ordinary 0 1 1 1 ∷ []))
  pub name_13 : read_sheet (codes "DM\nN Az09Az09Az090 0 1 1 1\n") ≡ Err (Malformed 1 2)
  pub name_dash : read_sheet (codes "DM\nN a-b 0 1 1 1\n") ≡ Err (Malformed 1 2)
  -- 7 digits are a number, though too large a one; 8 digits and a leading zero are no number.
  pub digits_7 : read_sheet (codes "DM\nN a 9999999 1 1 1\n") ≡ Err (OutOfRange 1 3)
  pub digits_8 : read_sheet (codes "DM\nN a 10000000 1 1 1\n") ≡ Err (Malformed 1 3)
  pub zero_in_front : read_sheet (codes "DM\nN a 01 1 1 1\n") ≡ Err (Malformed 1 3)
  -- C from 1, D from C and T from D, all up to 60,000.
  pub length_0 : read_sheet (codes "DM\nN a 0 0 1 1\n") ≡ Err (OutOfRange 1 4)
  pub deadline_below_length : read_sheet (codes "DM\nN a 0 2 1 2\n") ≡ Err (OutOfRange 1 5)
  pub period_below_deadline : read_sheet (codes "DM\nN a 0 1 2 1\n") ≡ Err (OutOfRange 1 6)
  pub period_60001 : read_sheet (codes "DM\nN a 0 1 1 60001\n") ≡ Err (OutOfRange 1 6)
  pub largest_figures : read_sheet (codes "DM\nR a 60000 60000 60000 60000\n") ≡ Ok (dm (regular 60000 60000 60000 60000 ∷ []))
  -- 24 lines are read; a 25th is refused, though it is empty.
  pub lines_24 : read_sheet (sheet_of 24 (codes "N a 0 1 1 1\n") []) ≡ Ok (dm (replicate 24 (ordinary 0 1 1 1)))
  pub lines_25 : read_sheet (sheet_of 24 (codes "N a 0 1 1 1\n") (codes "\n")) ≡ Err (TooManyLines 25)
  -- 8 regular lines are read and an ordinary one behind them; a ninth regular line is refused, though its name is missing.
  pub regular_8 : read_sheet (sheet_of 8 (codes "R a 0 1 1 1\n") (codes "N a 0 1 1 1\n")) ≡ Ok (dm (replicate 8 (regular 0 1 1 1) ++ ordinary 0 1 1 1 ∷ []))
  pub regular_9 : read_sheet (sheet_of 8 (codes "R a 0 1 1 1\n") (codes "R\n")) ≡ Err (TooManyRegular 9)
  -- The fields of a line are counted one by one.
  pub field_after : (n f : ℕ) → f < 4294967295 → following (record { line = n; field = f }) ≡ record { line = n; field = f + 1 }
  -- A new place holds DM and no lines.
  pub new_place : no_tasks ≡ dm []
  -- Every fault has its number, its layer and its places: of the sheet, of its figures, of the programs around.
  pub sheet_codes : (a b : ℕ) →
      map code_of (TextTooLong ∷ TextNotEnded ∷ Malformed a b ∷ OutOfRange a b ∷ TooManyLines a ∷ TooManyRegular a ∷ [])
      ≡ code 11 1 0 0 ∷ code 12 1 0 0 ∷ code 13 1 a b ∷ code 14 1 a b ∷ code 15 1 a 0 ∷ code 16 1 a 1 ∷ []
  pub figure_codes : (a b : ℕ) →
      map code_of (HyperperiodTooLong a ∷ PairTooLong a b ∷ NoOffsets ∷ DeadlineTooShort a ∷ Overload ∷ Missed a b ∷ Unsettled ∷ [])
      ≡ code 20 2 a 0 ∷ code 21 2 a b ∷ code 22 2 0 0 ∷ code 23 2 a 0 ∷ code 25 3 0 0 ∷ code 26 3 a b ∷ code 27 3 0 0 ∷ []
  pub program_codes : (a : ℕ) →
      map code_of (ClockAtEnd a ∷ NoJob ∷ NoSuchLine a ∷ RegularLine a ∷ RestAsItIs a ∷ BufferTooSmall ∷ [])
      ≡ code 31 4 a 0 ∷ code 32 4 0 0 ∷ code 33 4 a 0 ∷ code 34 4 a 0 ∷ code 35 4 a 0 ∷ code 41 5 1024 0 ∷ []
  -- What is written stands from its place on, and all other bytes stay.
  pub written_at_1 : written (1 ∷ 2 ∷ 3 ∷ 4 ∷ []) 1 (8 ∷ 9 ∷ []) ≡ 1 ∷ 8 ∷ 9 ∷ 4 ∷ []
  -- 1,023 bytes are refused and stay, and so do sheet and plan; 1,024 are taken, and a refused text keeps what was held.
  pub buffer_1023 : (report : List ℕ) → (reply_of (replicate 1023 0) report ≡ Err BufferTooSmall) × (buffer_of (replicate 1023 0) report ≡ replicate 1023 0)
  pub kept_1023 : held_after (replicate 1023 0) (Ok (ed [])) (dm []) ≡ dm []
  pub buffer_1024 : reply_of (replicate 1024 0) (codes "H 1\npassed\n") ≡ Ok 11
  pub held_1024 : held_after (replicate 1024 0) (Ok (ed [])) (dm []) ≡ ed []
  pub kept_1024 : held_after (replicate 1024 0) (Err Overload) (dm []) ≡ dm []
  -- Line 0 names the ranking of the rehearsal, and its fault stands behind the plan.
  pub dm_report : report_of (codes "DM" ++ either) ≡ codes "H 12\n1 N 0 2 4 4\n2 N 0 3 6 6\nfault 26 3 6 2\n"
  pub ed_report : report_of (codes "ED" ++ either) ≡ codes "H 12\n1 N 0 2 4 4\n2 N 0 3 6 6\npassed\n"
