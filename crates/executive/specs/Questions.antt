-- The questions that an executive answers between its calls.
--   figures_in              the jitter figures of a line, by its number
--   OfTheRun                they are those of the starts that the replies of the run show
--   next_release            the next release of a line that is not at rest, as its slot has it
--   releases_ahead          those of all such lines
--   coming_of, IsComingOf   the coming release, and what makes it that
--   ComingOfRun             the same by the replies of the run
--   largest_deviation       a line with its largest deviation, if it has any
--   deviating               all lines with deviations
--   worst_of, IsWorstOf     the worst line, and what makes it that
--   WorstOfRun              the same by the replies of the run
use Rattle.std.specs.Prelude.{◌≡◌, ℕ, ◌+◌, ◌-◌, ◌<◌, ◌≤◌, Bool, true, false, if◌then◌else◌, ◌⊎◌, List, [], ◌∷◌, length, Some, None, Ok, Err, Option, Result, MatchResult, nat_lt, slice_index_or}
use Rattle.model.specs.Ranges.{blank}
use Rattle.model.specs.declared.fault.Fault.{Fault}
use Rattle.model.specs.declared.fault.Fault.TheVariants.{NoSuchLine}
use Rattle.model.specs.declared.job.Job.{Job}
use Rattle.model.specs.declared.line.Line.{Line}
use Rattle.entries.specs.Entries.{first_entry}
use Rattle.runs.specs.declared.jitter.Figures.{Figures}
use Rattle.runs.specs.declared.jitter.Track.{Track}
use Rattle.runs.specs.declared.task.Task.{Task}
use Rattle.runs.specs.Calls.{State, is_line}
use Rattle.runs.specs.Histories.{History, Ran, clock_of, rests_after, start_of}
use Rattle.runs.specs.Jitter.{figures_of, track_figures, no_track}
use Rattle.runs.specs.Starts.{starts_of}
use Rattle.runs.specs.Tasks.{blank_task, releases_at}
use Rattle.executive.specs.declared.questions.Deviating.{Deviating}
use Rattle.executive.specs.declared.questions.Release.{Release}
use Rattle.executive.specs.declared.slot.Slot.{Slot}
use Rattle.executive.specs.Slots.{coming_at}

abbrev pub figures_in : ℕ → State → Result Figures Fault
figures_in number s =
    if is_line (length s.tasks) number
    then Ok (track_figures (slice_index_or s.tasks (number - 1) blank_task).line (slice_index_or s.tracks (number - 1) no_track))
    else Err (NoSuchLine number)

-- Whatever run of the lines ls led to state s: what is told of line `number` are the figures of its
-- starts, or there is no such line.
abbrev pub OfTheRun : (Job → Job → Bool) → List Line → State → ℕ → Result Figures Fault → Type 0
OfTheRun ahead ls s number told = (start : ℕ) (h : History) → Ran ahead ls start h s
    → MatchResult told
    (λ f. let l : Line = slice_index_or ls (number - 1) blank in (0 < number) × (number ≤ length ls) × (f ≡ figures_of l (starts_of l number (start_of start) h)))
    (λ e. (e ≡ NoSuchLine number) × ((0 < number) × (number ≤ length ls) → ⊥))

abbrev pub sooner : Release → Release → Bool
sooner a b = nat_lt a.instant b.instant

-- as the line's slot has it at hand
abbrev pub next_release : Slot → Option Release
next_release x = if x.task.resting then None else Some (record { instant = x.next; line = x.task.number })

-- in the order of the lines
abbrev pub releases_ahead : ℕ → List Task → List Release
releases_ahead t [] = []
releases_ahead t (x ∷ xs) = if x.resting then releases_ahead t xs else record { instant = coming_at x.line t; line = x.number } ∷ releases_ahead t xs

-- of two that come at once the lower line's
abbrev pub coming_of : State → Option Release
coming_of s = first_entry sooner (releases_ahead s.clock s.tasks)

-- Of n lines, of which line i + 1 is `at i` and rests as `rests i` says: one that is not at rest
-- releases a job then, from t on; and no such release of any line that is not at rest comes before it,
-- nor at once with it on a lower line.
pub record Coming (n t : ℕ) (at : ℕ → Line) (rests : ℕ → Bool) (x : Release) : Type 0 where
  pub line : (0 < x.line) × (x.line ≤ n)
  pub awake : rests (x.line - 1) ≡ false
  pub released : (t ≤ x.instant) × (releases_at (at (x.line - 1)) x.instant ≡ true)
  pub first : (i u : ℕ) → i < n → rests i ≡ false → t ≤ u → releases_at (at i) u ≡ true
      → (x.instant < u) ⊎ ((x.instant ≡ u) × (x.line ≤ i + 1))

abbrev pub ComingAmong : ℕ → ℕ → (ℕ → Line) → (ℕ → Bool) → Option Release → Type 0
ComingAmong n t at rests None = (i : ℕ) → i < n → rests i ≡ true
ComingAmong n t at rests (Some x) = Coming n t at rests x

abbrev pub IsComingOf : State → Option Release → Type 0
IsComingOf s r = ComingAmong (length s.tasks) s.clock (λ i. (slice_index_or s.tasks i blank_task).line) (λ i. (slice_index_or s.tasks i blank_task).resting) r

-- by the plan's lines and the replies of a run that began with the clock at `start`
abbrev pub ComingOfRun : List Line → ℕ → History → Option Release → Type 0
ComingOfRun ls start h r = ComingAmong (length ls) (clock_of start h) (λ i. slice_index_or ls i blank) (λ i. rests_after h (i + 1)) r

abbrev pub worse : Deviating → Deviating → Bool
worse a b = nat_lt b.largest a.largest

abbrev pub largest_deviation : ℕ → Track → Option Deviating
largest_deviation number k = if nat_lt 0 k.number then Some (record { line = number; largest = k.largest }) else None

-- `number` is the first line's
abbrev pub deviating : ℕ → List Track → List Deviating
deviating number [] = []
deviating number (k ∷ ks) = if nat_lt 0 k.number then record { line = number; largest = k.largest } ∷ deviating (number + 1) ks else deviating (number + 1) ks

-- of two with equal deviations the lower line
abbrev pub worst_of : State → Option Deviating
worst_of s = first_entry worse (deviating 1 s.tracks)

-- Of n lines, of which line i + 1 has `number i` deviations, and `largest i` is the largest of them: it
-- has deviations, of which this is the largest; and no line has a larger one, nor a lower line one as
-- large.
pub record Worst (n : ℕ) (number largest : ℕ → ℕ) (x : Deviating) : Type 0 where
  pub line : (0 < x.line) × (x.line ≤ n)
  pub deviates : 0 < number (x.line - 1)
  pub is_largest : x.largest ≡ largest (x.line - 1)
  pub first : (i : ℕ) → i < n → 0 < number i → (largest i < x.largest) ⊎ ((largest i ≡ x.largest) × (x.line ≤ i + 1))

abbrev pub WorstAmong : ℕ → (ℕ → ℕ) → (ℕ → ℕ) → Option Deviating → Type 0
WorstAmong n number largest None = (i : ℕ) → i < n → number i ≡ 0
WorstAmong n number largest (Some x) = Worst n number largest x

abbrev pub IsWorstOf : State → Option Deviating → Type 0
IsWorstOf s r = WorstAmong (length s.tracks) (λ i. (slice_index_or s.tracks i no_track).number) (λ i. (slice_index_or s.tracks i no_track).largest) r

-- the figures of line i + 1, by the starts that the replies show
abbrev pub figures_shown : List Line → ℕ → History → ℕ → Figures
figures_shown ls start h i = figures_of (slice_index_or ls i blank) (starts_of (slice_index_or ls i blank) (i + 1) start h)

-- by the plan's lines and the replies of a run that began with the clock at `start`
abbrev pub WorstOfRun : List Line → ℕ → History → Option Deviating → Type 0
WorstOfRun ls start h r = WorstAmong (length ls) (λ i. (figures_shown ls start h i).number) (λ i. (figures_shown ls start h i).largest) r
