-- The windows of a line, when two lines meet, and the test by their periods.
--   InWindow      a unit lies in a window of a line
--   Meet          two lines meet
--   Periodic      a line has windows of some length, over and over
--   gap_of        how far the windows of one line begin behind those of another
--   apart_by      the pair test, by a given divisor of the periods
--   apart_lines   the pair test
--   roomy_lines   two lines are short enough to be apart at some offsets
--   at            a line moved to an offset
--   Crowded       no offsets keep two lines apart
--   Room          some offsets do
--   Pair          two places of a list that hold regular lines
--   AllApart      every two regular lines of a list are apart
use Rattle.std.specs.Prelude.{◌≡◌, ℕ, ◌+◌, ◌-◌, ◌*◌, ◌%◌, ◌<◌, ◌≤◌, Bool, true, false, ◌&&◌, List, length, nat_le, nat_lt, slice_index_or}
use Rattle.model.specs.Ranges.{is_regular, blank}
use Rattle.model.specs.declared.line.Line.{Line}
use Rattle.windows.specs.Euclid.{gcd_of}

-- The unit u lies in window k of line l: from offset + k × period on, for `length` units.
abbrev pub InWindow : Line → ℕ → ℕ → Type 0
InWindow l k u = (l.offset + k * l.period ≤ u) × (u < l.offset + k * l.period + l.length)

-- Some unit lies in a window of each.
abbrev pub Meet : Line → Line → Type 0
Meet a b = (u : ℕ) × (k : ℕ) × (j : ℕ) × InWindow a k u × InWindow b j u

-- Its windows have some length, and begin at different units.
abbrev pub Periodic : Line → Type 0
Periodic l = (0 < l.length) × (0 < l.period)

-- The residue of b's offset less a's, from 0 to p − 1, also where a's offset is the larger.
abbrev pub gap_of : Line → Line → ℕ → ℕ
gap_of a b p = (b.offset % p + (p - a.offset % p)) % p

-- The gap lies from a's length to p less b's.
abbrev pub apart_by : Line → Line → ℕ → Bool
apart_by a b p = nat_lt 0 p && (nat_le a.length (gap_of a b p) && nat_le (gap_of a b p + b.length) p)

-- The lines are apart by the greatest common divisor of their periods.
abbrev pub apart_lines : Line → Line → Bool
apart_lines a b = apart_by a b (gcd_of a.period b.period)

-- The lengths together are no more than the greatest common divisor of the periods.
abbrev pub roomy_lines : Line → Line → Bool
roomy_lines a b = nat_le (a.length + b.length) (gcd_of a.period b.period)

-- The line with another offset.
abbrev pub at : Line → ℕ → Line
at l x = record { kind = l.kind; offset = x; length = l.length; deadline = l.deadline; period = l.period }

-- No offsets keep the two apart.
abbrev pub Crowded : Line → Line → Type 0
Crowded a b = (x y : ℕ) → apart_lines (at a x) (at b y) ≡ false

-- Some offsets, each below its line's period, keep the two apart.
abbrev pub Room : Line → Line → Type 0
Room a b = (x : ℕ) × (y : ℕ) × (x < a.period) × (y < b.period) × (apart_lines (at a x) (at b y) ≡ true)

-- Two places of a list that hold regular lines, the lower place first.
pub record Pair (ls : List Line) : Type 0 where
  pub i : ℕ
  pub j : ℕ
  pub order : i < j
  pub inside : j < length ls
  pub first : is_regular (slice_index_or ls i blank) ≡ true
  pub second : is_regular (slice_index_or ls j blank) ≡ true

-- Any two regular lines at different places of the list are apart.
abbrev pub AllApart : List Line → Type 0
AllApart ls = (q : Pair ls) → apart_lines (slice_index_or ls q.i blank) (slice_index_or ls q.j blank) ≡ true
