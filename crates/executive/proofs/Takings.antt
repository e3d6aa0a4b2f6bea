-- What a call that was taken as the rules say does to a run.
use Rattle.std.proofs.Common.{◌≡◌, ℕ, Bool, [], ◌∷◌, ◌++◌, length, sym, ap, ◌∙◌, subst}
use Rattle.std.proofs.lemmas.List.{length-map}
use Rattle.model.specs.Rankings.{Lawful}
use Rattle.model.specs.declared.job.Job.{Job}
use Rattle.model.specs.declared.ranking.Ranking.{Ghosts}
use Rattle.planning.specs.Places.{plan_set}
use Rattle.runs.specs.declared.call.Call.{Call}
use Rattle.runs.specs.Calls.{Reply, begun, next_of, on_line}
use Rattle.runs.specs.Histories.{History, Ran, event}
use Rattle.runs.proofs.Inductions.{ran_push}
use Rattle.runs.proofs.Promised.{promise}
use Rattle.executive.specs.declared.between.Change.{Change}
use Rattle.executive.specs.declared.executive.Executive.{Executive}
use Rattle.executive.specs.declared.slots.Slots.{Slots}
use Rattle.executive.specs.Changes.{changed}
use Rattle.executive.specs.Executives.{lines_of}
use Rattle.executive.specs.Slots.{AllTracked, tasks_of, tracks_of}
use Rattle.executive.specs.Views.{Took, view_of}
use Rattle.executive.proofs.Places.{length_tasks}
use Rattle.executive.proofs.SoundPlans.{sound_plan}
use Rattle.executive.proofs.Standings.{lines_changed, tracked_same}

module _ {X : Type 0} {B : Ghosts X} (x : Executive X B) where
  pub slot_count : length x.slots.list.items ≡ length (plan_set x.plan).lines
  slot_count = sym (length_tasks x.slots.list.items) ∙ sym (length-map (tasks_of x.slots.list.items) (λ z. z.line)) ∙ ap length x.lines

  -- one line changed between calls: the lines are the plan's still, and the tracks of their own
  module _ (n : ℕ) (change : Change) (s : Slots) (clock : s.clock ≡ x.slots.clock) (tasks : tasks_of s.list.items ≡ on_line n (changed change) (tasks_of x.slots.list.items)) (tracks : tracks_of s.list.items ≡ tracks_of x.slots.list.items) where
    same : lines_of (tasks_of s.list.items) ≡ lines_of (tasks_of x.slots.list.items)
    same = ap lines_of tasks ∙ lines_changed n change (tasks_of x.slots.list.items)

    pub changed_lines : lines_of (tasks_of s.list.items) ≡ (plan_set x.plan).lines
    changed_lines = same ∙ x.lines

    pub changed_tracked : AllTracked s.clock s.list.items
    changed_tracked = subst (λ t. AllTracked t s.list.items) (sym clock) (tracked_same x.slots.clock x.slots.list.items s.list.items tracks same x.tracked)

module _ {X : Type 0} {B : Ghosts X} (ahead : Job → Job → Bool) (lawful : Lawful ahead) (before after : Executive X B) (call : Call) (told : Reply) (next : next_of ahead (view_of before) call ≡ (view_of after, told)) (plan : after.plan ≡ before.plan) where
  state : view_of after ≡ (next_of ahead (view_of before) call).0
  state = ap (λ o. o.0) (sym next)

  reply : told ≡ (next_of ahead (view_of before) call).1
  reply = ap (λ o. o.1) (sym next)

  longer : (start : ℕ) (h : History) → Ran ahead (plan_set before.plan).lines start h (view_of before) → Ran ahead (plan_set after.plan).lines start (h ++ event call told ∷ []) (view_of after)
  longer start h ran =
      subst (λ p. Ran ahead (plan_set p).lines start (h ++ event call told ∷ []) (view_of after)) (sym plan)
      (subst (λ s. Ran ahead (plan_set before.plan).lines start (h ++ event call told ∷ []) s) (sym state)
      (subst (λ r. Ran ahead (plan_set before.plan).lines start (h ++ event call r ∷ []) (next_of ahead (view_of before) call).0) (sym reply)
      (ran_push ahead h (begun start (plan_set before.plan).lines) (view_of before) call ran)))

  pub took : after.ranking ≡ before.ranking → Took ahead before after call told
  took ranking = record {
    state = state;
    reply = reply;
    plan = plan;
    ranking = ranking;
    history = longer;
    promised = λ start h ran. promise ahead lawful _ _ start _ _ (sound_plan after.plan) (longer start h ran);
  }
