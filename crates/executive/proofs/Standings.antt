-- What every executive keeps of its plan and its last unit, through every call.
use Rattle.std.proofs.Common.{◌≡◌, ℕ, ◌+◌, ◌-◌, ◌^◌, ◌<◌, ◌≤◌, Bool, true, cond, eqb, List, [], ◌∷◌, map, length, Some, None, count_by, Option, refl, ap, ◌∙◌, arith}
use Rattle.std.proofs.lemmas.Bool.{cond_both}
use Rattle.std.proofs.lemmas.Bool.Decides.{nat_tests}
use Rattle.std.proofs.lemmas.List.{get_or-map, length-map}
use Rattle.model.specs.Ranges.{blank}
use Rattle.model.specs.Rankings.{Lawful}
use Rattle.model.specs.declared.job.Job.{Job}
use Rattle.model.specs.declared.line.Line.{Line}
use Rattle.executive.specs.declared.between.Change.{Change}
use Rattle.executive.specs.declared.slot.Slot.{Slot}
use Rattle.runs.specs.declared.call.LastUnit.{LastUnit}
use Rattle.runs.specs.declared.call.LastUnit.TheVariants.{Idle, Running, Ended}
use Rattle.runs.specs.declared.call.UnitReport.{UnitReport}
use Rattle.runs.specs.declared.task.Task.{Task}
use Rattle.runs.specs.Calls.{aside_of, last_of, on_line}
use Rattle.runs.specs.Jitter.{no_track, no_tracks}
use Rattle.runs.specs.Steps.{arrived_all, first_of, report_for, report_of, stepped, First, WellFormed}
use Rattle.runs.specs.Tasks.{arrived, blank_task, due, new_tasks, pending, rested, resumed, served}
use Rattle.runs.proofs.Firsts.{first_place}
use Rattle.runs.proofs.Keeps.{arrived_line, arrived_well_formed}
use Rattle.runs.proofs.Pointwise.{task_of, arrived_at, length_arrived, length_on_line, length_stepped, on_line_at, stepped_at, who}
use Rattle.runs.proofs.Serving.{numbered_at}
use Rattle.executive.specs.Changes.{changed}
use Rattle.executive.specs.Executives.{StillPending, lines_of}
use Rattle.executive.specs.Slots.{AllTracked, tasks_of, tracks_of}
use Rattle.executive.proofs.Arriving.{changed_same}
use Rattle.executive.proofs.Places.{length_tracks, line_at, track_at}

-- what changes every line under way, and leaves its line as it is
lines_kept : (f : Task → Task) → ((x : Task) → (f x).line ≡ x.line) → (xs : List Task) → lines_of (map f xs) ≡ lines_of xs
lines_kept f same [] = refl
lines_kept f same (x ∷ xs) = let e = same x in let es = lines_kept f same xs in cc

pub lines_changed : (n : ℕ) (change : Change) (xs : List Task) → lines_of (on_line n (changed change) xs) ≡ lines_of xs
lines_changed n change = lines_kept (λ x. cond (eqb x.number n) (changed change x) x) (λ x. cond_both (eqb x.number n) (changed change x) x (λ (z : Task). z.line ≡ x.line) (λ _. (changed_same change x).1) (λ _. refl))

served_line : (n : ℕ) (x : Task) → (served n x).line ≡ x.line
served_line n x = grind (arith, nat_tests)

pub lines_stepped : (ahead : Job → Job → Bool) (t : ℕ) (xs : List Task) → lines_of (stepped ahead t xs) ≡ lines_of xs
lines_stepped ahead t xs = lines_kept (served (who ahead t xs)) (served_line (who ahead t xs)) (arrived_all t xs) ∙ lines_kept (arrived t) (arrived_line t) xs

pub lines_new : (n : ℕ) (ls : List Line) → lines_of (new_tasks n ls) ≡ ls
lines_new n [] = refl
lines_new n (l ∷ ls) = ap (λ ks. l ∷ ks) (lines_new (n + 1) ls)

-- the tracks of lines that are the same
pub tracked_same : (t : ℕ) (xs ys : List Slot) → tracks_of ys ≡ tracks_of xs → lines_of (tasks_of ys) ≡ lines_of (tasks_of xs) → AllTracked t xs → AllTracked t ys
tracked_same t xs ys tracks lines all i p = grind (arith, line_at xs i, line_at ys i, length_tracks xs, length_tracks ys, track_at xs i, track_at ys i, all i)

pub tracked_new : (t : ℕ) (ls : List Line) (xs : List Slot) → tracks_of xs ≡ no_tracks ls → AllTracked t xs
tracked_new t ls xs none i p = grind (arith, length_tracks xs, track_at xs i, get_or-map (λ (_ : Line). no_track) ls i blank no_track, length-map ls (λ (_ : Line). no_track))

-- a unit that is idle or over is of no pending job
pub still_idle : (xs : List Task) → StillPending Idle xs
still_idle xs l e = grind arith

pub still_ended : (u : LastUnit) (k : ℕ) (xs : List Task) → u ≡ Ended k → StillPending u xs
still_ended u k xs is l e = grind arith

pub still_resumed : (n : ℕ) (xs : List Task) (u : LastUnit) → StillPending u xs → StillPending u (on_line n resumed xs)
still_resumed n xs u was l e = grind (arith, nat_tests, was l e, on_line_at n resumed xs (l - 1), length_on_line n resumed xs)

pub still_rested : (n : ℕ) (xs : List Task) → ((i : ℕ) → i < length xs → (task_of xs i).number ≡ i + 1) → (u : LastUnit) → StillPending u xs → StillPending (aside_of n u) (on_line n rested xs)
still_rested n xs numbered Idle was l e = grind arith
still_rested n xs numbered (Ended k) was l e = grind arith
still_rested n xs numbered (Running k) was l e = grind (arith, nat_tests, was k, numbered (k - 1), on_line_at n rested xs (k - 1), length_on_line n rested xs)

module _ (ahead : Job → Job → Bool) (lawful : Lawful ahead) (t : ℕ) (soon : t < 10 ^ 12) (xs : List Task) (formed : WellFormed xs) where
  -- the place of the line that gets the unit
  first_at : (b : Task) → first_of ahead (arrived_all t xs) ≡ Some b → (j : ℕ) × (j < length xs) × (arrived t (task_of xs j) ≡ b) × (b.number ≡ j + 1) × (pending b ≡ true)
  first_at b e =
      let w = arrived_well_formed t xs soon formed in
      let at : (i : ℕ) × (task_of (arrived_all t xs) i ≡ b) × First ahead (arrived_all t xs) i = first_place ahead lawful (arrived_all t xs) w b e in
      grind (arith, length_arrived t xs, arrived_at t xs at.0, numbered_at 1 (arrived_all t xs) at.0 blank_task, w.0, at.2.1 blank_task)

  -- a unit is a line's
  pub unit_line_within : (u : UnitReport) → (report_of ahead t xs).unit ≡ Some u → (0 < u.line) × (u.line ≤ length xs)
  unit_line_within u e = grind (arith, first_at)

  -- a unit that is said to be of a pending job was given to one that had more than one unit left
  pub still_stepped : StillPending (last_of (report_of ahead t xs)) (stepped ahead t xs)
  still_stepped = by (first_of ahead (arrived_all t xs)) refl
    where
      by : (o : Option Task) → first_of ahead (arrived_all t xs) ≡ o → StillPending (last_of (report_for o (count_by (due t) xs))) (stepped ahead t xs)
      by None e l f = grind arith
      by (Some b) e l f = grind (arith, nat_tests, stepped_at ahead t xs (first_at b e).0, length_stepped ahead t xs, first_at b e)
