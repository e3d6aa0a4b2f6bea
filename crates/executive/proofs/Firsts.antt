-- The slot that goes first, by its place and its number.
use Rattle.std.proofs.Common.{◌≡◌, ℕ, ◌-◌, ◌^◌, ◌<◌, ◌≤◌, Bool, true, List, map, length, Some, None, Option, sym, subst, arith}
use Rattle.std.specs.Borrow.{Bor}
use Rattle.std.specs.List.{filter, reduce}
use Rattle.std.specs.Option.{option_copied}
use Rattle.model.specs.Rankings.{Lawful}
use Rattle.model.specs.declared.job.Job.{Job}
use Rattle.executive.specs.declared.slot.Slot.{Slot}
use Rattle.executive.specs.declared.slots.Slots.{Slots}
use Rattle.runs.specs.declared.task.Task.{Task}
use Rattle.runs.specs.Steps.{first_of, number_of, arrived_all, line_of, report_for, First, ToFirst, WellFormed}
use Rattle.runs.specs.Tasks.{blank_task, pending, served}
use Rattle.runs.proofs.Firsts.{first_goes_first, first_place}
use Rattle.runs.proofs.Keeps.{arrived_well_formed}
use Rattle.runs.proofs.Pointwise.{task_of}
use Rattle.runs.proofs.Reported.{report_line}
use Rattle.runs.proofs.Serving.{serve_none}
use Rattle.executive.specs.Slots.{first_of_two, tasks_of}
use Rattle.executive.proofs.Chosen.{found}
use Rattle.executive.proofs.Places.{slot_at, length_tasks, task_at, task_number, kept_formed}

module _ (ahead : Job → Job → Bool) (lawful : Lawful ahead) (s : Slots) where
  abbrev ts : List Task
  ts = tasks_of s.list.items

  formed : WellFormed ts
  formed = kept_formed s.clock s.list.items s.kept s.few

  module _ (ws : List Slot) (lent : ws ≡ s.list.items) (o : Option (Bor Slot)) (is : option_copied o ≡ reduce (first_of_two ahead) (filter (λ x. pending x.task) ws)) where
    pub none_first : o ≡ None → None ≡ first_of ahead ts
    none_first e = grind (arith, found ahead ws)

    pub none_served : o ≡ None → ts ≡ map (served (number_of (first_of ahead ts))) ts
    none_served e = grind (arith, none_first, serve_none 1 ts, formed)

    module _ (x : Bor Slot) (e : o ≡ Some x) where
      pub some_first : Some x.now.task ≡ first_of ahead ts
      some_first = grind (arith, found ahead ws)

      pub first_here : (0 < x.now.task.number) × (x.now.task.number ≤ length s.list.items) × ((slot_at s.list.items (x.now.task.number - 1)).task ≡ x.now.task) × (pending x.now.task ≡ true)
      first_here =
          let at : (i : ℕ) × (task_of ts i ≡ x.now.task) × First ahead ts i = first_place ahead lawful ts formed x.now.task (sym some_first) in
          grind (arith, task_number s.clock s.list.items s.kept at.0, length_tasks s.list.items, task_at s.list.items at.0, at.2.1 blank_task)

  -- a step's unit goes to the first
  pub step_to_first : s.clock < 10 ^ 12 → (n : ℕ) → ToFirst ahead (arrived_all s.clock ts) (line_of (report_for (first_of ahead (arrived_all s.clock ts)) n))
  step_to_first soon n =
      let ys = arrived_all s.clock ts in
      subst (ToFirst ahead ys) (sym (report_line (first_of ahead ys) n)) (first_goes_first ahead lawful ys (arrived_well_formed s.clock ts soon formed))
