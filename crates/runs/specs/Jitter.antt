-- Jitter: the starts of a line's jobs, held against its period.
--   round_at        the round that an instant falls into
--   start_at        a job's start at an instant
--   deviation       how far two starts lie from being a period apart
--   deviations      those of all starts that follow each other
--   figures_of      a line's figures, by its starts
--   noted           a track with one start more
--   track_figures   the figures of a track
--   note_unit, note_start   all tracks after a unit, and after a step
use Rattle.std.specs.Prelude.{ℕ, ◌+◌, ◌-◌, ◌*◌, ◌/◌, max, if◌then◌else◌, List, map, length, drop, zip, Some, None, fold, sum, Option, option_map, unwrap_or, slice_index_or, slice_set}
use Rattle.std.specs.Int.{abs_diff}
use Rattle.model.specs.declared.line.Line.{Line}
use Rattle.runs.specs.declared.call.StepReport.{StepReport}
use Rattle.runs.specs.declared.call.UnitReport.{UnitReport}
use Rattle.runs.specs.declared.jitter.Figures.{Figures}
use Rattle.runs.specs.declared.jitter.Start.{Start}
use Rattle.runs.specs.declared.jitter.Track.{Track}
use Rattle.runs.specs.declared.task.Task.{Task}
use Rattle.runs.specs.Tasks.{blank_task}

-- round k is the job released at r + k × T
abbrev pub round_at : Line → ℕ → ℕ
round_at l t = (t - l.offset) / l.period

abbrev pub start_at : Line → ℕ → Start
start_at l t = record { round = round_at l t; instant = t }

abbrev pub deviation : Line → Start → Start → ℕ
deviation l a b = abs_diff (b.instant - a.instant) l.period

-- Every two starts that follow each other bring a deviation, whatever rounds lie between them; the
-- starts stand the oldest first.
abbrev pub deviations : Line → List Start → List ℕ
deviations l starts = map (λ p. deviation l p.0 p.1) (zip starts (drop 1 starts))

abbrev pub largest_of : List ℕ → ℕ
largest_of ds = fold (λ m d. max m d) 0 ds

abbrev pub figures_for : Line → ℕ → ℕ → ℕ → Figures
figures_for l number total largest = record { number = number; sum = total; largest = largest; numerator = 100 * total; denominator = number * l.period }

abbrev pub figures_of : Line → List Start → Figures
figures_of l starts = figures_for l (length (deviations l starts)) (sum (deviations l starts)) (largest_of (deviations l starts))

-- of a line that has started no job
abbrev pub no_track : Track
no_track = record { last = None; number = 0; sum = 0; largest = 0 }

abbrev pub no_tracks : List Line → List Track
no_tracks ls = map (λ _. no_track) ls

abbrev noted_after : Line → Option Start → Start → Track → Track
noted_after l None b k = record k { last = Some b }
noted_after l (Some a) b k = record { last = Some b; number = k.number + 1; sum = k.sum + deviation l a b; largest = max k.largest (deviation l a b) }

-- the last start and this one follow each other
abbrev pub noted : Line → Start → Track → Track
noted l b k = noted_after l k.last b k

abbrev pub track_figures : Line → Track → Figures
track_figures l k = figures_for l k.number k.sum k.largest

-- A unit at t that began a job adds a start to its line, which stands at place `line` - 1.
abbrev pub note_unit : ℕ → UnitReport → List Task → List Track → List Track
note_unit t u xs ks =
    let l : Line = (slice_index_or xs (u.line - 1) blank_task).line in
    if u.began then slice_set ks (u.line - 1) (noted l (start_at l t) (slice_index_or ks (u.line - 1) no_track)) else ks

abbrev pub note_start : ℕ → StepReport → List Task → List Track → List Track
note_start t r xs ks = unwrap_or (option_map (λ u. note_unit t u xs ks) r.unit) ks
