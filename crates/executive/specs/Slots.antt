-- A line under way as the executive keeps it: with the instant of its next release at hand, and its track.
--   coming_at    a line's first release at or after an instant
--   IsComing     what makes an instant that release
--   tasks_of, tracks_of   the lines under way, and their tracks, of a list of slots
--   blank_slot   what stands past the end of a list of slots
--   arrived_slot   a slot after the arrival at an instant
--   first_of_two   of two slots with pending jobs, the one that goes first
--   Balanced     the jobs made are those ended, missed, set aside and pending
--   Live         a pending job is of a release that lies behind, and its deadline does not
--   RestsWell    a line at rest is ordinary and has no pending job
--   Kept         what every slot keeps before the step at t
--   AllKept      so does every slot of a list, and they are numbered from 1
--   Tracked      a track's figures are bounded by its last start, which lies behind
--   AllTracked   so are those of every slot of a list
use Rattle.std.specs.Prelude.{◌≡◌, ℕ, ◌+◌, ◌-◌, ◌*◌, ◌/◌, ◌^◌, ◌<◌, ◌≤◌, Bool, true, false, if◌then◌else◌, List, map, length, nat_le, slice_index_or}
use Rattle.std.specs.Option.{ForNone, ForSome}
use Rattle.model.specs.Ranges.{Ranged, is_regular}
use Rattle.model.specs.declared.job.Job.{Job}
use Rattle.model.specs.declared.line.Line.{Line}
use Rattle.executive.specs.declared.slot.Slot.{Slot}
use Rattle.runs.specs.declared.jitter.Track.{Track}
use Rattle.runs.specs.declared.task.Task.{Task}
use Rattle.runs.specs.Jitter.{no_track}
use Rattle.runs.specs.Tasks.{arrived, job_of, pending, releases_at, blank_task}

-- r itself, or the first of r + T, r + 2T, … that is not below t
abbrev pub coming_at : Line → ℕ → ℕ
coming_at l t = if nat_le t l.offset then l.offset else l.offset + (t - l.offset + (l.period - 1)) / l.period * l.period

-- n is a release from t on, and no release from t on comes before it
pub record IsComing (l : Line) (t n : ℕ) : Type 0 where
  pub from : t ≤ n
  pub released : releases_at l n ≡ true
  pub least : (u : ℕ) → t ≤ u → releases_at l u ≡ true → n ≤ u

abbrev pub tasks_of : List Slot → List Task
tasks_of xs = map (λ x. x.task) xs

abbrev pub tracks_of : List Slot → List Track
tracks_of xs = map (λ x. x.track) xs

abbrev pub blank_slot : Slot
blank_slot = record { task = blank_task; next = 0; track = no_track }

-- what is due is struck out, and what is released arrives
abbrev pub arrived_slot : ℕ → Slot → Slot
arrived_slot t x = record { task = arrived t x.task; next = coming_at x.task.line (t + 1); track = x.track }

-- of two slots with pending jobs, the one whose job goes ahead of the other's
abbrev pub first_of_two : (Job → Job → Bool) → Slot → Slot → Slot
first_of_two ahead x y = if ahead (job_of y.task) (job_of x.task) then y else x

abbrev pub Balanced : Task → Type 0
Balanced x = x.counts.made ≡ x.counts.ended + x.counts.missed + x.counts.aside + (if pending x then 1 else 0)

abbrev pub Live : ℕ → Task → Type 0
Live t x = pending x ≡ true → (releases_at x.line x.release ≡ true) × (x.release < t) × (t ≤ x.release + x.line.deadline)

abbrev pub RestsWell : Task → Type 0
RestsWell x = x.resting ≡ true → (is_regular x.line ≡ false) × (pending x ≡ false)

-- the task's figures are in range, it holds together, its counts lie below the clock, and its next
-- release is known
pub record Kept (t : ℕ) (x : Slot) : Type 0 where
  pub ranged : Ranged x.task.line
  pub released : x.task.release < 10 ^ 12
  pub balanced : Balanced x.task
  pub made : x.task.counts.made ≤ t
  pub live : Live t x.task
  pub rests : RestsWell x.task
  pub next : x.next ≡ coming_at x.task.line t

abbrev pub AllKept : ℕ → List Slot → Type 0
AllKept t xs = (i : ℕ) → i < length xs → ((slice_index_or xs i blank_slot).task.number ≡ i + 1) × Kept t (slice_index_or xs i blank_slot)

-- No two starts of a line l share a unit, and a deviation is at most their difference and a period
-- together.
abbrev pub Tracked : ℕ → Line → Track → Type 0
Tracked t l k = ForNone k.last ((k.number ≡ 0) × (k.sum ≡ 0) × (k.largest ≡ 0))
    × ForSome k.last (λ a. (a.instant < t) × (k.number ≤ a.instant) × (k.sum ≤ a.instant + k.number * l.period) × (k.largest ≤ k.sum))

abbrev pub AllTracked : ℕ → List Slot → Type 0
AllTracked t xs = (i : ℕ) → i < length xs → Tracked t (slice_index_or xs i blank_slot).task.line (slice_index_or xs i blank_slot).track
