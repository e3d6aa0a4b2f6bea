-- The ranges of a line's figures.
--   regular_kind, is_regular   which kinds and lines keep their period to the unit
--   Ranged                     every figure of a line lies in its range
--   AllRanged                  so do those of every line of a list
--   regulars                   how many lines of a list are regular
--   blank                      what stands past the end of a list of lines
use Rattle.std.specs.Prelude.{ℕ, ◌+◌, ◌<◌, ◌≤◌, Bool, true, false, cond, List, [], ◌∷◌, length, slice_index_or}
use Rattle.model.specs.declared.kind.Kind.{Kind}
use Rattle.model.specs.declared.kind.Kind.TheVariants.{Ordinary, Regular}
use Rattle.model.specs.declared.line.Line.{Line}

abbrev pub regular_kind : Kind → Bool
regular_kind Ordinary = false
regular_kind Regular = true

abbrev pub is_regular : Line → Bool
is_regular l = regular_kind l.kind

-- r from 0, C from 1, D from C, T from D, and all of them up to 60,000
abbrev pub Ranged : Line → Type 0
Ranged l = (l.offset ≤ 60000) × (0 < l.length) × (l.length ≤ l.deadline) × (l.deadline ≤ l.period) × (l.period ≤ 60000)

abbrev pub blank : Line
blank = record { kind = Ordinary; offset = 0; length = 0; deadline = 0; period = 0 }

abbrev pub AllRanged : List Line → Type 0
AllRanged ls = (i : ℕ) → i < length ls → Ranged (slice_index_or ls i blank)

abbrev pub regulars : List Line → ℕ
regulars [] = 0
regulars (l ∷ ls) = cond (is_regular l) 1 0 + regulars ls
