-- Slots by their places: their tasks and their tracks, and a slot that is written at a place.
use Rattle.std.proofs.Common.{◌≡◌, ℕ, suc, ◌+◌, ◌-◌, ◌^◌, ◌<◌, ◌≤◌, cond, eqb, List, [], ◌∷◌, map, length, get_or, set, sym, refl, ap, ◌∙◌, subst, arith}
use Rattle.std.specs.List.{refill}
use Rattle.std.proofs.Math.ListN as ListN
use Rattle.std.proofs.lemmas.Bool.{cases_eq}
use Rattle.std.proofs.lemmas.Bool.Decides.{nat_tests}
use Rattle.std.proofs.lemmas.Grind.{common_steps}
use Rattle.std.proofs.lemmas.List.{ext_get_or, length-map, get_or-map, get_or-set_same, get_or-set_other, length-set, map-set}
use Rattle.std.proofs.ByRecursion.{All-from_get_or}
use Rattle.arrayvec.proofs.ArrayVecLemmas.{items-with_items}
use Rattle.model.specs.Ranges.{blank}
use Rattle.executive.specs.declared.slot.Slot.{Slot}
use Rattle.executive.specs.declared.slots.Slots.{Slots}
use Rattle.runs.specs.declared.task.Task.{Task}
use Rattle.runs.specs.Calls.{on_line}
use Rattle.runs.specs.Jitter.{no_track}
use Rattle.runs.specs.Tasks.{arrived, blank_task}
use Rattle.runs.specs.Steps.{arrived_all, Numbered, Timed, WellFormed}
use Rattle.runs.proofs.Keeps.{arrived_number}
use Rattle.runs.proofs.Pointwise.{on_line_at}
use Rattle.executive.specs.Executives.{lines_of}
use Rattle.executive.specs.Slots.{tasks_of, tracks_of, blank_slot, arrived_slot, Kept, AllKept}
use Rattle.executive.proofs.Arriving.{some_period, arrived_kept}

abbrev pub slot_at : List Slot → ℕ → Slot
slot_at xs k = get_or xs k blank_slot

pub length_tasks : (xs : List Slot) → length (tasks_of xs) ≡ length xs
length_tasks xs = length-map xs (λ x. x.task)

pub length_tracks : (xs : List Slot) → length (tracks_of xs) ≡ length xs
length_tracks xs = length-map xs (λ x. x.track)

pub task_at : (xs : List Slot) (i : ℕ) → get_or (tasks_of xs) i blank_task ≡ (slot_at xs i).task
task_at xs i = ListN.get_or-map (λ x. x.task) xs i blank_slot

pub track_at : (xs : List Slot) (i : ℕ) → get_or (tracks_of xs) i no_track ≡ (slot_at xs i).track
track_at xs i = ListN.get_or-map (λ x. x.track) xs i blank_slot

pub line_at : (xs : List Slot) (i : ℕ) → get_or (lines_of (tasks_of xs)) i blank ≡ (slot_at xs i).task.line
line_at xs i = ListN.get_or-map (λ z. z.line) (tasks_of xs) i blank_task ∙ ap (λ z. z.line) (task_at xs i)

-- lines by their places carry their numbers
numbered_from : (n : ℕ) (xs : List Task) → ((i : ℕ) → i < length xs → (get_or xs i blank_task).number ≡ n + i) → Numbered n xs
numbered_from n [] h = tt
numbered_from n (x ∷ xs) h = (omega (arith, h 0 (omega arith)), numbered_from (n + 1) xs (λ i p. omega (arith, h (suc i) (omega arith))))

module _ (t : ℕ) (xs : List Slot) (kept : AllKept t xs) where
  pub task_number : (i : ℕ) → i < length (tasks_of xs) → (get_or (tasks_of xs) i blank_task).number ≡ i + 1
  task_number i p = ap (λ x. x.number) (task_at xs i) ∙ (kept i (omega (arith, length_tasks xs))).0

  -- the tasks of kept slots are well formed
  pub kept_formed : length xs ≤ 24 → WellFormed (tasks_of xs)
  kept_formed few = (
    numbered_from 1 (tasks_of xs) (λ i p. omega (arith, task_number i p)),
    rw (length_tasks xs) few,
    All-from_get_or Timed (tasks_of xs) blank_task (λ i p.
        let here = (kept i (omega (arith, length_tasks xs))).1 in
        subst Timed (sym (task_at xs i)) (some_period (slot_at xs i).task.line here.ranged, here.released)),
  )

  -- after the arrival at t
  pub arrived_kept_all : t < 10 ^ 12 → AllKept (t + 1) (map (arrived_slot t) xs)
  arrived_kept_all soon i p =
      let in' : i < length xs = rw (length-map xs (arrived_slot t)) at p in
      subst (λ y. (y.task.number ≡ i + 1) × Kept (t + 1) y) (sym (get_or-map (arrived_slot t) xs i blank_slot blank_slot in'))
      (arrived_number t (slot_at xs i).task ∙ (kept i in').0, arrived_kept t (slot_at xs i) soon (kept i in').1)

pub arrived_tasks : (t : ℕ) (xs : List Slot) → tasks_of (map (arrived_slot t) xs) ≡ arrived_all t (tasks_of xs)
arrived_tasks t [] = refl
arrived_tasks t (x ∷ xs) = ap (λ ys. arrived t x.task ∷ ys) (arrived_tasks t xs)

pub arrived_tracks : (t : ℕ) (xs : List Slot) → tracks_of (map (arrived_slot t) xs) ≡ tracks_of xs
arrived_tracks t [] = refl
arrived_tracks t (x ∷ xs) = ap (λ ys. x.track ∷ ys) (arrived_tracks t xs)

-- the slots of s, after the arrival at its clock
module _ (s : Slots) (soon : s.clock < 10 ^ 12) (ws ys : List Slot) (lent : ws ≡ s.list.items) (is : ys ≡ map (arrived_slot s.clock) ws) where
  all_arrived : refill (length s.list.items) s.list.items ys ≡ map (arrived_slot s.clock) s.list.items
  all_arrived = grind (arith, common_steps, items-with_items s.list ys)

  pub few_arrived : length (refill (length s.list.items) s.list.items ys) ≤ 24
  few_arrived = omega (arith, ap length all_arrived, length-map s.list.items (arrived_slot s.clock), s.few)

  pub kept_arrived : AllKept (s.clock + 1) (refill (length s.list.items) s.list.items ys)
  kept_arrived = subst (AllKept (s.clock + 1)) (sym all_arrived) (arrived_kept_all s.clock s.list.items s.kept soon)

-- a line's slot is written through the slice that the vector lends
module _ (xs ws : List Slot) (lent : ws ≡ xs) (line : ℕ) (some : 0 < line) (within : line ≤ length xs) (y : Slot) where
  abbrev i : ℕ
  i = line - 1

  abbrev pub written : List Slot
  written = refill (length xs) xs (set ws i y)

  written_is : written ≡ set xs i y
  written_is = grind (arith, common_steps, items-with_items (record { items = xs }) (set ws i y), length-set)

  pub length_written : length written ≡ length xs
  length_written = grind (arith, common_steps, written_is)

  -- what holds of that place, and of every other
  pub all_written : (P : ℕ → Slot → Type 0) → P i y → ((k : ℕ) → k < length xs → (k ≡ i → ⊥) → P k (slot_at xs k)) → (k : ℕ) → k < length written → P k (slot_at written k)
  all_written P here others k p = grind (arith, common_steps, written_is, get_or-set_same, get_or-set_other, cases_eq k i)

  pub written_kept : (t : ℕ) → AllKept t xs → y.task.number ≡ (slot_at xs i).task.number → Kept t y → AllKept t written
  written_kept t kept number here = all_written (λ k z. (z.task.number ≡ k + 1) × Kept t z) (number ∙ (kept i (omega arith)).0, here) (λ k p _. kept k p)

  pub written_tracks : tracks_of written ≡ set (tracks_of xs) i y.track
  written_tracks = ap tracks_of written_is ∙ map-set (λ z. z.track) xs i y

  pub same_tasks : y.task ≡ (slot_at xs i).task → tasks_of written ≡ tasks_of xs
  same_tasks same = ext_get_or blank_task _ _ (grind (arith, common_steps, length_written)) (λ k p. grind (arith, common_steps, all_written (λ j z. z.task ≡ (slot_at xs j).task) same (λ k q _. refl) k, length_written))

  pub same_tracks : y.track ≡ (slot_at xs i).track → tracks_of written ≡ tracks_of xs
  same_tracks same = ext_get_or no_track _ _ (grind (arith, common_steps, length_written)) (λ k p. grind (arith, common_steps, all_written (λ j z. z.track ≡ (slot_at xs j).track) same (λ k q _. refl) k, length_written))

  pub one_line : (t : ℕ) → AllKept t xs → (f : Task → Task) → y.task ≡ f (slot_at xs i).task → tasks_of written ≡ on_line line f (tasks_of xs)
  one_line t kept f is = ext_get_or blank_task _ _ (grind (arith, common_steps, length_written)) (λ k p.
      let at : k < length xs → (slot_at written k).task ≡ cond (eqb (k + 1) line) (f (slot_at xs k).task) (slot_at xs k).task =
      λ q. all_written (λ j z. z.task ≡ cond (eqb (j + 1) line) (f (slot_at xs j).task) (slot_at xs j).task) (grind (arith, nat_tests)) (λ j h other. grind (arith, nat_tests)) k (omega (arith, length_written)) in
      grind (arith, nat_tests, at, length_written, length_tasks written, length_tasks xs, task_at written k, task_at xs k, on_line_at line f (tasks_of xs) k, kept k))
