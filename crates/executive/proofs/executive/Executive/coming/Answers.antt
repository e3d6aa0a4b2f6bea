use Rattle.std.proofs.Common.{◌≡◌, ℕ, ◌+◌, ◌<◌, length, get_or, sym, ap, ◌∙◌, subst, arith}
use Rattle.model.specs.Ranges.{blank}
use Rattle.planning.specs.Hyperperiods.{hyperperiod}
use Rattle.planning.specs.Places.{plan_set}
use Rattle.std.specs.List.{filter_map}
use Rattle.entries.specs.Entries.{first_entry}
use Rattle.runs.specs.Histories.{clock_of, rests_after, start_of}
use Rattle.runs.proofs.Basics.{basics}
use Rattle.runs.specs.Tasks.{blank_task}
use Rattle.executive.specs.Questions.{coming_of, next_release, IsComingOf, ComingOfRun, sooner}
use Rattle.executive.specs.Slots.{tasks_of}
use Rattle.executive.specs.Views.{view_of}
use Rattle.executive.proofs.Arriving.{some_period}
use Rattle.executive.proofs.ComingReleases.{at_hand, coming_is_first, coming_same}
use Rattle.executive.proofs.Places.{length_tasks, slot_at, task_at, task_number}
use Rattle.executive.proofs.SoundPlans.{sound_plan}
use Rattle.executive.proofs.executive.Executive.coming.Goals as goal

pub returns : goal.returns
returns g c =
    let x = c.args.self.now in
    let s = x.slots in
    let xs = s.list.items in
    let value : c.first_candidate.result ≡ coming_of (view_of x) = c.first_candidate.ensures ∙ ap (λ zs. first_entry sooner (filter_map next_release zs)) c.as_slice.ensures.value ∙ ap (first_entry sooner) (at_hand s.clock xs (λ i p. (s.kept i p).1.next)) in
    let timed : (i : ℕ) → i < length (tasks_of xs) → 0 < (get_or (tasks_of xs) i blank_task).line.period = λ i p.
    let in' : i < length xs = omega (arith, length_tasks xs) in
    subst (λ z. 0 < z.line.period) (sym (task_at xs i)) (some_period (slot_at xs i).task.line (s.kept i in').1.ranged) in
    let first = coming_is_first (view_of x) (task_number s.clock xs s.kept) timed in
    let ls = (plan_set x.plan).lines in
    record {
      value = value;
      first = subst (IsComingOf (view_of x)) (sym value) first;
      run = λ start h ran.
          let b = basics (g.R.Ranking.ahead x.ranking) (g.met.R.Ranking.lawful x.ranking) ls (hyperperiod ls) start (sound_plan x.plan) h (view_of x) ran in
          subst (ComingOfRun ls (start_of start) h) (sym value)
          (coming_same (length (tasks_of xs)) (length ls) s.clock (clock_of (start_of start) h) (λ i. (get_or (tasks_of xs) i blank_task).line) (λ i. get_or ls i blank) (λ i. (get_or (tasks_of xs) i blank_task).resting) (λ i. rests_after h (i + 1)) b.size b.clock
          (λ i p. (b.each i p).line) (λ i p. (b.each i p).resting) (coming_of (view_of x)) first);
    }
