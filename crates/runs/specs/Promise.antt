-- What every run keeps, whatever the ranking, the plan, the start and the calls.
--   SoundPlan   what the lines of every plan keep
--   EndedBy     a job's early end
--   Regularly   every regular job begins in the unit of its release and is not interrupted
--   Truly       each step says truly whether a job began and ended with its unit
--   Over        a job has ended or been set aside in time
--   InTime      no job misses its deadline or is struck out
--   Tallied     what became of every job
--   Figured     the jitter figures are those of the starts
--   Promise     all of it
use Rattle.std.specs.Prelude.{◌≡◌, ℕ, ◌+◌, ◌-◌, ◌*◌, ◌<◌, ◌≤◌, Bool, true, false, if◌then◌else◌, ◌⊎◌, List, ◌∷◌, ◌++◌, length, Some, Ok, ◌==◌, slice_index_or}
use Rattle.std.specs.List.{AllByRecursion}
use Rattle.model.specs.Ranges.{is_regular, Ranged}
use Rattle.model.specs.declared.job.Job.{Job}
use Rattle.model.specs.declared.line.Line.{Line}
use Rattle.windows.specs.Windows.{Meet}
use Rattle.runs.specs.declared.call.StepReport.{StepReport}
use Rattle.runs.specs.declared.call.UnitReport.{UnitReport}
use Rattle.runs.specs.declared.task.Counts.{Counts}
use Rattle.runs.specs.Tasks.{pending, blank_task}
use Rattle.runs.specs.Jitter.{figures_of, track_figures, no_track}
use Rattle.runs.specs.Calls.{State}
use Rattle.runs.specs.Histories.{History, units_of, clock_of, line_at, units_in, StepAt, EndAt, RestAt, rests_after, line_in, release, releases_in, Ran, start_of, unit_event}
use Rattle.runs.specs.Rehearsals.{rehearsal_of}
use Rattle.runs.specs.Starts.{InRound, starts_of}

-- at most 24 lines in their ranges, of which no two regular ones meet; every period divides h
pub record SoundPlan (ls : List Line) (h : ℕ) : Type 0 where
  pub few : length ls ≤ 24
  pub ranged : (i : ℕ) → i < length ls → Ranged (line_in ls i)
  pub apart : (i j : ℕ) → i < j → j < length ls → is_regular (line_in ls i) ≡ true → is_regular (line_in ls j) ≡ true → Meet (line_in ls i) (line_in ls j) → ⊥
  pub whole : (i : ℕ) → i < length ls → (n : ℕ) × (h ≡ n * (line_in ls i).period)
  pub some : 0 < h

module _ (ls : List Line) (start : ℕ) (h : History) where
  -- Between its release and instant u an early end was accepted right after a unit of its own.
  abbrev pub EndedBy : ℕ → ℕ → ℕ → Type 0
  EndedBy number from u = (c : ℕ) × (from < c) × (c ≤ u) × (line_at start h (c - 1) ≡ number) × EndAt start h c

  -- Line i + 1 is regular and has release k from the start on: every unit from there, for the length
  -- of its job and up to the clock, is its own, unless the job was ended early.
  abbrev pub Regularly : Type 0
  Regularly = (i k u : ℕ) → i < length ls → is_regular (line_in ls i) ≡ true → start ≤ release (line_in ls i) k
      → release (line_in ls i) k ≤ u → u < release (line_in ls i) k + (line_in ls i).length → u < clock_of start h
      → (line_at start h u ≡ i + 1) ⊎ EndedBy (i + 1) (release (line_in ls i) k) u

  -- A unit goes to a line of the plan, and to its latest release from the start on; its step says
  -- 'began' exactly if the line had no unit since that release, and 'ended' exactly if this is its last.
  abbrev pub Truly : Type 0
  Truly = (t : ℕ) (r : StepReport) (u : UnitReport) → StepAt start h t r → r.unit ≡ Some u
      → (i : ℕ) × (u.line ≡ i + 1) × (i < length ls) × ((k : ℕ) × (start ≤ release (line_in ls i) k) × (release (line_in ls i) k ≤ t) × (t < release (line_in ls i) (k + 1))
      × (u.began ≡ (units_in start h (i + 1) (release (line_in ls i) k) t == 0))
      × (u.ended ≡ (units_in start h (i + 1) (release (line_in ls i) k) t + 1 == (line_in ls i).length)))

  -- The job of line i + 1 that was released at `from` has had all its units, was ended early, or was
  -- set aside, before the clock came to its deadline.
  abbrev pub Over : ℕ → ℕ → Type 0
  Over i from =
      (units_in start h (i + 1) from (from + (line_in ls i).deadline) ≡ (line_in ls i).length)
      ⊎ ((((c : ℕ) × (from < c) × (c < from + (line_in ls i).deadline) × (line_at start h (c - 1) ≡ i + 1) × EndAt start h c))
      ⊎ ((c : ℕ) × (from < c) × (c < from + (line_in ls i).deadline) × RestAt start h (i + 1) c))

  -- No step strikes a job out; and a line that is not at rest in the unit of a release has a job that
  -- is over when the clock comes to its deadline.
  pub record InTime : Type 0 where
    pub none_struck : (t : ℕ) (r : StepReport) → StepAt start h t r → r.struck ≡ 0
    pub none_missed : (i k : ℕ) (a b : History) (r : StepReport) → i < length ls → h ≡ a ++ unit_event r ∷ b
        → clock_of start a ≡ release (line_in ls i) k → rests_after a (i + 1) ≡ false
        → release (line_in ls i) k + (line_in ls i).deadline ≤ clock_of start h
        → Over i (release (line_in ls i) k)

-- What became of the jobs of line i + 1: those made are those ended, missed, set aside and pending, and
-- of a line that never rested they are its releases from the start to before the clock.
pub record Tallied (ls : List Line) (start : ℕ) (h : History) (s : State) : Type 0 where
  pub balanced : (i : ℕ) → i < length ls → let c : Counts = (slice_index_or s.tasks i blank_task).counts in
      c.made ≡ c.ended + c.missed + c.aside + (if pending (slice_index_or s.tasks i blank_task) then 1 else 0)
  pub releases : (i : ℕ) → i < length ls → ((c : ℕ) → RestAt start h (i + 1) c → ⊥)
      → (slice_index_or s.tasks i blank_task).counts.made ≡ releases_in (line_in ls i) start (length (units_of h))

-- The figures of line i + 1 are those of the starts that the replies show, and each start lies in its round.
pub record Figured (ls : List Line) (start : ℕ) (h : History) (s : State) : Type 0 where
  pub figures : (i : ℕ) → i < length ls → track_figures (line_in ls i) (slice_index_or s.tracks i no_track) ≡ figures_of (line_in ls i) (starts_of (line_in ls i) (i + 1) start h)
  pub rounds : (i : ℕ) → i < length ls → AllByRecursion (InRound (line_in ls i)) (starts_of (line_in ls i) (i + 1) start h)

-- `m` is the hyperperiod of the plan's lines.
pub record Promised (ahead : Job → Job → Bool) (ls : List Line) (m start : ℕ) (h : History) (s : State) : Type 0 where
  pub regularly : Regularly ls (start_of start) h
  pub truly : Truly ls (start_of start) h
  pub in_time : rehearsal_of ahead m ls ≡ Ok tt → InTime ls (start_of start) h
  pub tallied : Tallied ls (start_of start) h s
  pub figured : Figured ls (start_of start) h s

-- For every lawful ranking, plan, start and list of calls.
abbrev pub Promise : (Job → Job → Bool) → Type 0
Promise ahead = (ls : List Line) (m start : ℕ) (h : History) (s : State) → SoundPlan ls m → Ran ahead ls start h s → Promised ahead ls m start h s
