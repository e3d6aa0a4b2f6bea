-- The starts that a run shows.
--   unit_start   the start that a unit shows
--   start_in     the start that a reply shows
--   starts_of    all starts of a line, the oldest first
--   InRound      a start lies in its round
use Rattle.std.specs.Prelude.{ℕ, ◌+◌, ◌<◌, ◌≤◌, ◌&&◌, if◌then◌else◌, List, [], ◌∷◌, ◌++◌, length, Ok, Err, option_map, unwrap_or, ◌==◌}
use Rattle.model.specs.declared.line.Line.{Line}
use Rattle.runs.specs.declared.call.Accepted.TheVariants.{Done}
use Rattle.runs.specs.declared.call.Accepted.TheVariants.{Step as UnitGiven}
use Rattle.runs.specs.declared.call.UnitReport.{UnitReport}
use Rattle.runs.specs.declared.jitter.Start.{Start}
use Rattle.runs.specs.Calls.{Reply}
use Rattle.runs.specs.Histories.{History, unit_of, release}
use Rattle.runs.specs.Jitter.{start_at}

-- the start of line `number` that a unit at t shows, if it shows one
abbrev pub unit_start : Line → ℕ → ℕ → UnitReport → List Start
unit_start l number t u = if u.began && u.line == number then start_at l t ∷ [] else []

-- the same of the reply to a call at clock t
abbrev pub start_in : Line → ℕ → ℕ → Reply → List Start
start_in l number t (Ok (UnitGiven r)) = unwrap_or (option_map (unit_start l number t) r.unit) []
start_in l number t (Ok Done) = []
start_in l number t (Err f) = []

-- t is the clock before the history
abbrev pub starts_of : Line → ℕ → ℕ → History → List Start
starts_of l number t [] = []
starts_of l number t (e ∷ h) = start_in l number t e.reply ++ starts_of l number (t + length (unit_of e.reply)) h

-- from its release to before the next
abbrev pub InRound : Line → Start → Type 0
InRound l x = (release l x.round ≤ x.instant) × (x.instant < release l (x.round + 1))
