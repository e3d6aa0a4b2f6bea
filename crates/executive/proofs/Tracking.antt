-- The tracks of a plan's lines: what bounds their figures, and one start more.
use Rattle.std.proofs.Common.{◌≡◌, ℕ, ◌+◌, ◌-◌, ◌<◌, ◌≤◌, true, List, length, get_or, set, Some, None, Option, sym, refl, ap, ◌∙◌, subst, add-mul, arith}
use Rattle.std.proofs.Math.ListN as ListN
use Rattle.std.proofs.lemmas.Bool.{cond-true}
use Rattle.std.proofs.lemmas.Bool.Decides.{nat_tests}
use Rattle.std.proofs.lemmas.Grind.{common_steps}
use Rattle.model.specs.declared.line.Line.{Line}
use Rattle.runs.specs.declared.call.StepReport.{StepReport}
use Rattle.runs.specs.declared.task.Task.{Task}
use Rattle.runs.specs.declared.call.UnitReport.{UnitReport}
use Rattle.runs.specs.declared.jitter.Start.{Start}
use Rattle.runs.specs.declared.jitter.Track.{Track}
use Rattle.executive.specs.declared.slot.Slot.{Slot}
use Rattle.executive.specs.declared.slots.Slots.{Slots}
use Rattle.runs.specs.Jitter.{noted, note_start, note_unit, start_at}
use Rattle.runs.specs.Tasks.{blank_task}
use Rattle.executive.specs.Executives.{lines_of}
use Rattle.executive.specs.Slots.{AllKept, AllTracked, Kept, Tracked, tasks_of, tracks_of}
use Rattle.executive.proofs.Arriving.{tracked_kept}
use Rattle.executive.proofs.Places.{slot_at, written, length_written, all_written, written_kept, same_tasks, written_tracks, task_at, track_at}

later : (t : ℕ) (l : Line) (k : Track) → Tracked t l k → Tracked (t + 1) l k
later t l k is = grind arith

-- one start more, in a unit after the last one
noted_tracked : (l : Line) (b : Start) (k : Track) → Tracked b.instant l k → Tracked (b.instant + 1) l (noted l b k)
noted_tracked l b k is = by k.last refl
  where
    by : (o : Option Start) → k.last ≡ o → Tracked (b.instant + 1) l (noted l b k)
    by None e = grind (arith, is.0 e)
    by (Some a) e = grind (arith, is.1 a e, add-mul k.number 1 l.period)

-- a start of line `unit.line` at t, written through the slice that the vector lends
module _ (s : Slots) (t : ℕ) (tracked : AllTracked t s.list.items) (ws : List Slot) (lent : ws ≡ s.list.items) (unit : UnitReport) (here : (0 < unit.line) × (unit.line ≤ length s.list.items)) (k : Track)
    (is : k ≡ noted (slot_at ws (unit.line - 1)).task.line (start_at (slot_at ws (unit.line - 1)).task.line t) (slot_at ws (unit.line - 1)).track) where
  abbrev xs : List Slot
  xs = s.list.items

  abbrev i : ℕ
  i = unit.line - 1

  abbrev x : Slot
  x = slot_at xs i

  abbrev y : Slot
  y = let w : Slot = slot_at ws i in record { task = w.task; next = w.next; track = k }

  abbrev ys : List Slot
  ys = written xs ws lent unit.line here.0 here.1 y

  in' : i < length xs
  in' = omega (arith, here.0, here.1)

  old : slot_at ws i ≡ x
  old = ap (λ zs. slot_at zs i) lent

  track : k ≡ noted x.task.line (start_at x.task.line t) x.track
  track = is ∙ ap (λ z. noted z.task.line (start_at z.task.line t) z.track) old

  pub few_noted : length ys ≤ 24
  few_noted = omega (arith, length_written xs ws lent unit.line here.0 here.1 y, s.few)

  pub kept_noted : AllKept s.clock ys
  kept_noted =
      written_kept xs ws lent unit.line here.0 here.1 y s.clock s.kept (ap (λ z. z.task.number) old)
      (subst (λ z. Kept s.clock (record { task = z.task; next = z.next; track = k })) (sym old) (tracked_kept s.clock x k (s.kept i in').1))

  pub tasks_noted : tasks_of ys ≡ tasks_of xs
  tasks_noted = same_tasks xs ws lent unit.line here.0 here.1 y (ap (λ z. z.task) old)

  pub tracks_noted : unit.began ≡ true → tracks_of ys ≡ note_unit t unit (tasks_of xs) (tracks_of xs)
  tracks_noted began =
      written_tracks xs ws lent unit.line here.0 here.1 y
      ∙ ap (set (tracks_of xs) i) (track ∙ ap (λ z. noted z.line (start_at z.line t) x.track) (sym (task_at xs i)) ∙ ap (λ q. let l : Line = (get_or (tasks_of xs) i blank_task).line in noted l (start_at l t) q) (sym (track_at xs i)))
      ∙ sym (cond-true unit.began _ (tracks_of xs) began)

  pub tracked_noted : AllTracked (t + 1) ys
  tracked_noted = all_written xs ws lent unit.line here.0 here.1 y (λ j z. Tracked (t + 1) z.task.line z.track)
      (subst (λ q. Tracked (t + 1) (slot_at ws i).task.line q) (sym is) (noted_tracked (slot_at ws i).task.line (start_at (slot_at ws i).task.line t) (slot_at ws i).track (subst (λ z. Tracked t z.task.line z.track) (sym old) (tracked i in'))))
      (λ j p _. later t (slot_at xs j).task.line (slot_at xs j).track (tracked j p))

-- a start is noted by the plan's lines alone
pub note_same : (t : ℕ) (r : StepReport) (xs ys : List Task) (ks : List Track) → lines_of xs ≡ lines_of ys → note_start t r xs ks ≡ note_start t r ys ks
note_same t r xs ys ks same = grind (arith, nat_tests, common_steps, ListN.get_or-map (λ (z : Task). z.line))
