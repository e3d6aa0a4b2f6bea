-- A list of calls, one call more at a time, and the run that it makes.
use Rattle.std.proofs.Common.{◌≡◌, ℕ, zero, suc, ◌+◌, ◌<◌, ◌≤◌, min, Bool, List, [], ◌∷◌, ◌++◌, length, get_or, take, set, sym, refl, subst, arith}
use Rattle.model.specs.Rankings.{Lawful}
use Rattle.model.specs.declared.job.Job.{Job}
use Rattle.runs.specs.declared.call.Call.{Call}
use Rattle.runs.specs.declared.call.Call.TheVariants.{Step}
use Rattle.planning.specs.Places.{plan_set}
use Rattle.model.specs.declared.ranking.Ranking.{Ghosts}
use Rattle.executive.specs.declared.executive.Executive.{Executive}
use Rattle.runs.specs.Calls.{Reply, State, begun, next_of}
use Rattle.runs.specs.Histories.{History, RanFrom, Ran, event}
use Rattle.executive.specs.Batches.{events_of, TookEach}
use Rattle.executive.specs.Views.{Took, view_of}
use Rattle.runs.proofs.Inductions.{ran_push}
use Rattle.runs.proofs.Promised.{promise}
use Rattle.executive.proofs.SoundPlans.{sound_plan}

-- one call more, with its reply stored in its place
events_more : (cs : List Call) (rs : List Reply) (i : ℕ) (r : Reply) → i < length cs → i < length rs
    → events_of (take (i + 1) cs) (take (i + 1) (set rs i r)) ≡ events_of (take i cs) (take i rs) ++ event (get_or cs i Step) r ∷ []
events_more [] rs i r in-cs in-rs = grind arith
events_more (c ∷ cs) [] i r in-cs in-rs = grind arith
events_more (c ∷ cs) (y ∷ rs) zero r in-cs in-rs = refl
events_more (c ∷ cs) (y ∷ rs) (suc i) r in-cs in-rs = grind (arith, events_more cs rs i r (omega arith) (omega arith))

-- the first places, as many as both lists have, hold all the events
pub all_events : (n : ℕ) (cs : List Call) (rs : List Reply) → min (length cs) (length rs) ≤ n → events_of (take n cs) (take n rs) ≡ events_of cs rs
all_events zero [] rs le = refl
all_events zero (c ∷ cs) [] le = refl
all_events zero (c ∷ cs) (r ∷ rs) le = grind arith
all_events (suc n) [] rs le = refl
all_events (suc n) (c ∷ cs) [] le = refl
all_events (suc n) (c ∷ cs) (r ∷ rs) le = grind (arith, all_events n cs rs)

module _ (ahead : Job → Job → Bool) where
  join : (h k : History) (s t u : State) → RanFrom ahead s h t → RanFrom ahead t k u → RanFrom ahead s (h ++ k) u
  join [] k s t u e more = subst (λ x. RanFrom ahead x k u) (sym e) more
  join (e ∷ h) k s t u r more = (r.0, join h k (next_of ahead s e.call).0 t u r.1 more)

  module _ {X : Type 0} {B : Ghosts X} (before after : Executive X B) where
    -- a run of the first calls, after the next one
    pub run_more : (cs : List Call) (rs : List Reply) (i : ℕ) (r : Reply) (s : State) → i < length cs → i < length rs
        → RanFrom ahead s (events_of (take i cs) (take i rs)) (view_of before) → Took ahead before after (get_or cs i Step) r
        → RanFrom ahead s (events_of (take (i + 1) cs) (take (i + 1) (set rs i r))) (view_of after)
    run_more cs rs i r s in-cs in-rs ran took =
        let c = get_or cs i Step in
        let h = events_of (take i cs) (take i rs) in
        subst (λ k. RanFrom ahead s k (view_of after)) (sym (events_more cs rs i r in-cs in-rs))
        (subst (λ t. RanFrom ahead s (h ++ event c r ∷ []) t) (sym took.state)
        (subst (λ y. RanFrom ahead s (h ++ event c y ∷ []) (next_of ahead (view_of before) c).0) (sym took.reply)
        (ran_push ahead h s (view_of before) c ran)))

    pub took_each : Lawful ahead → (events : History) → RanFrom ahead (view_of before) events (view_of after) → after.plan ≡ before.plan → after.ranking ≡ before.ranking → TookEach ahead before after events
    took_each lawful events exact plan ranking =
        let longer : (start : ℕ) (h : History) → Ran ahead (plan_set before.plan).lines start h (view_of before) → Ran ahead (plan_set after.plan).lines start (h ++ events) (view_of after) = λ start h ran.
        subst (λ p. Ran ahead (plan_set p).lines start (h ++ events) (view_of after)) (sym plan)
        (join h events (begun start (plan_set before.plan).lines) (view_of before) (view_of after) ran exact) in
        record {
          exact = exact;
          plan = plan;
          ranking = ranking;
          history = longer;
          promised = λ start h ran. promise ahead lawful _ _ start _ _ (sound_plan after.plan) (longer start h ran);
        }
