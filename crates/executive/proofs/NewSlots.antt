-- The slots of a plan's lines, one line more at a time.
use Rattle.std.proofs.Common.{◌≡◌, ℕ, ◌+◌, ◌<◌, List, [], ◌∷◌, ◌++◌, length, get_or, take, arith}
use Rattle.std.proofs.Math.ListN as ListN
use Rattle.std.proofs.lemmas.List.{get_or_push, length-append, length-take-le, map-append, map_more, take_more}
use Rattle.model.specs.Ranges.{blank}
use Rattle.model.specs.declared.line.Line.{Line}
use Rattle.executive.specs.declared.slot.Slot.{Slot}
use Rattle.runs.specs.Jitter.{no_track, no_tracks}
use Rattle.runs.specs.Tasks.{new_task, new_tasks}
use Rattle.executive.specs.Slots.{blank_slot, tasks_of, tracks_of, Kept, AllKept}

new_push : (n : ℕ) (ls : List Line) (l : Line) → new_tasks n (ls ++ l ∷ []) ≡ new_tasks n ls ++ new_task (n + length ls) l ∷ []
new_push n [] l = grind arith
new_push n (k ∷ ls) l = grind (arith, new_push (n + 1) ls l)

-- x is the slot of the line at place i, pushed behind those before it
module _ (t : ℕ) (ls : List Line) (xs : List Slot) (i : ℕ) (within : i < length ls) (long : length xs ≡ i) (x : Slot) where
  pub pushed_tasks : tasks_of xs ≡ new_tasks 1 (take i ls) → x.task ≡ new_task (i + 1) (get_or ls i blank) → tasks_of (xs ++ x ∷ []) ≡ new_tasks 1 (take (i + 1) ls)
  pushed_tasks so_far here = grind (arith, map-append (λ (y : Slot). y.task) xs (x ∷ []), take_more ls i blank within, new_push 1 (take i ls) (get_or ls i blank), length-take-le i ls)

  pub pushed_tracks : tracks_of xs ≡ no_tracks (take i ls) → x.track ≡ no_track → tracks_of (xs ++ x ∷ []) ≡ no_tracks (take (i + 1) ls)
  pushed_tracks so_far here = grind (arith, map-append (λ (y : Slot). y.track) xs (x ∷ []), map_more (λ (_ : Line). no_track) ls i blank within)

  pub pushed_kept : AllKept t xs → x.task ≡ new_task (i + 1) (get_or ls i blank) → Kept t x → AllKept t (xs ++ x ∷ [])
  pushed_kept so_far here kept k p = grind (arith, get_or_push xs x blank_slot i long, ListN.get_or-append xs (x ∷ []) blank_slot k, so_far k, length-append xs (x ∷ []))
