-- The task of one line changed, through the slice that the vector of slots lends.
use Rattle.std.proofs.Common.{◌≡◌, ℕ, ◌-◌, ◌<◌, ◌≤◌, List, length, sym, ap, ◌∙◌, subst, arith}
use Rattle.executive.specs.declared.slot.Slot.{Slot}
use Rattle.executive.specs.declared.slots.Slots.{Slots}
use Rattle.runs.specs.declared.task.Task.{Task}
use Rattle.runs.specs.Calls.{on_line}
use Rattle.executive.specs.Slots.{Kept, AllKept, tasks_of, tracks_of}
use Rattle.executive.proofs.Arriving.{with_task}
use Rattle.executive.proofs.Places.{slot_at, written, length_written, written_kept, same_tracks, one_line}

-- the slots ys are those of s, but that line `line` was changed by f
pub record Changed (s : Slots) (line : ℕ) (f : Task → Task) (ys : List Slot) : Type 0 where
  pub few : length ys ≤ 24
  pub kept : AllKept s.clock ys
  pub tasks : tasks_of ys ≡ on_line line f (tasks_of s.list.items)
  pub tracks : tracks_of ys ≡ tracks_of s.list.items

module _ (s : Slots) (ws : List Slot) (lent : ws ≡ s.list.items) (line : ℕ) (here : (0 < line) × (line ≤ length s.list.items)) (f : Task → Task) (v : Task) (is : v ≡ f (slot_at ws (line - 1)).task)
    (keeps : let x : Slot = slot_at s.list.items (line - 1) in Kept s.clock x → Kept s.clock (with_task x (f x.task)))
    (number : let x : Task = (slot_at s.list.items (line - 1)).task in (f x).number ≡ x.number) where
  abbrev xs : List Slot
  xs = s.list.items

  abbrev y : Slot
  y = with_task (slot_at ws (line - 1)) v

  task : v ≡ f (slot_at xs (line - 1)).task
  task = is ∙ ap (λ zs. f (slot_at zs (line - 1)).task) lent

  pub one_changed : Changed s line f (written xs ws lent line here.0 here.1 y)
  one_changed = record {
    few = omega (arith, length_written xs ws lent line here.0 here.1 y, s.few);
    kept = written_kept xs ws lent line here.0 here.1 y s.clock s.kept (ap (λ z. z.number) task ∙ number)
        (subst (λ z. Kept s.clock (with_task z v)) (ap (λ zs. slot_at zs (line - 1)) (sym lent)) (subst (λ z. Kept s.clock (with_task (slot_at xs (line - 1)) z)) (sym task) (keeps (s.kept (line - 1) (omega (arith, here.0, here.1))).1)));
    tasks = one_line xs ws lent line here.0 here.1 y s.clock s.kept f task;
    tracks = same_tracks xs ws lent line here.0 here.1 y (ap (λ zs. (slot_at zs (line - 1)).track) lent);
  }
