-- Runs one event at a time: what is shown of the start and kept by whatever a call comes to holds of
-- every run.
use Rattle.std.proofs.Common.{◌≡◌, ℕ, ◌^◌, ◌<◌, Bool, List, [], ◌∷◌, ◌++◌, Err, refl, arith}
use Rattle.std.proofs.lemmas.Grind.{common_steps}
use Rattle.model.specs.declared.fault.Fault.{Fault}
use Rattle.model.specs.declared.job.Job.{Job}
use Rattle.model.specs.declared.line.Line.{Line}
use Rattle.runs.specs.declared.call.Call.{Call}
use Rattle.runs.specs.declared.call.Call.TheVariants.{Step, EarlyEnd, Rest, Resume}
use Rattle.runs.specs.declared.call.LastUnit.TheVariants.{Running, Ended}
use Rattle.runs.specs.Tasks.{ended_early, rested, resumed}
use Rattle.runs.specs.Steps.{report_of}
use Rattle.runs.specs.Calls.{State, state_of, Outcome, begun, on_line, aside_of, next_of}
use Rattle.runs.specs.Histories.{event, unit_event, end_event, rest_event, resume_event, History, RanFrom, Ran}
use Rattle.runs.proofs.Outcomes.{after_unit, step_outcome, end_outcome, OrdinaryLine, rest_outcome, resume_outcome}
use Rattle.runs.proofs.Units.{push}

module _ (ahead : Job → Job → Bool) where
  -- one call more at the end of a run
  pub ran_push : (h : History) (s s' : State) (c : Call) → RanFrom ahead s h s' → RanFrom ahead s (h ++ event c (next_of ahead s' c).1 ∷ []) (next_of ahead s' c).0
  ran_push [] s s' c e = grind arith
  ran_push (e ∷ h) s s' c r = (r.0, ran_push h (next_of ahead s e.call).0 s' c r.1)

  module _ (ls : List Line) (start : ℕ) (P : History → State → Type 0)
      (first : P [] (begun start ls))
      (more : (h : History) (s : State) (c : Call) → Ran ahead ls start h s → P h s → P (h ++ event c (next_of ahead s c).1 ∷ []) (next_of ahead s c).0) where
    go : (h g : History) (s s' : State) → Ran ahead ls start g s → P g s → RanFrom ahead s h s' → P (g ++ h) s'
    go [] g s s' past now r = grind (arith, common_steps)
    go (e ∷ h) g s s' past now r =
        let past' = ran_push g (begun start ls) s e.call past in
        let now' = more g s e.call past now in
        grind (arith, common_steps, go h (g ++ e ∷ []) (next_of ahead s e.call).0 s')

    -- what holds of every run
    every_history : (h : History) (s : State) → Ran ahead ls start h s → P h s
    every_history h s r = go h [] (begun start ls) s refl first r

  -- What holds at the start, and is kept by a refused call, a unit, an early end, a rest and a resume.
  module _ (ls : List Line) (start : ℕ) where
    pub record KeptByCalls (P : History → State → Type 0) : Type 0 where
      pub first : P [] (begun start ls)
      pub refused : (h : History) (s : State) → Ran ahead ls start h s → P h s → (c : Call) (f : Fault) → P (push h (event c (Err f))) s
      pub unit : (h : History) (s : State) → Ran ahead ls start h s → P h s → s.clock < 10 ^ 12
          → Ran ahead ls start (push h (unit_event (report_of ahead s.clock s.tasks))) (after_unit ahead s) → P (push h (unit_event (report_of ahead s.clock s.tasks))) (after_unit ahead s)
      pub early : (h : History) (s : State) → Ran ahead ls start h s → P h s → (l : ℕ) → s.last ≡ Running l → P (push h end_event) (state_of s.clock (on_line l ended_early s.tasks) (Ended l) s.tracks)
      pub rest : (h : History) (s : State) → Ran ahead ls start h s → P h s → (number : ℕ) → OrdinaryLine s.tasks number → P (push h (rest_event number)) (state_of s.clock (on_line number rested s.tasks) (aside_of number s.last) s.tracks)
      pub resume : (h : History) (s : State) → Ran ahead ls start h s → P h s → (number : ℕ) → OrdinaryLine s.tasks number → P (push h (resume_event number)) (state_of s.clock (on_line number resumed s.tasks) s.last s.tracks)

    module _ (P : History → State → Type 0) (k : KeptByCalls P) where
      one_more : (h : History) (s : State) (c : Call) → Ran ahead ls start h s → P h s → P (push h (event c (next_of ahead s c).1)) (next_of ahead s c).0
      one_more h s Step ran now =
          step_outcome (λ (o : Outcome). Ran ahead ls start (push h (event Step o.1)) o.0 → P (push h (event Step o.1)) o.0) ahead s (λ f _. k.refused h s ran now Step f) (k.unit h s ran now) (ran_push h (begun start ls) s Step ran)
      one_more h s EarlyEnd ran now = end_outcome (λ (o : Outcome). P (push h (event EarlyEnd o.1)) o.0) s (k.refused h s ran now EarlyEnd) (k.early h s ran now)
      one_more h s (Rest number) ran now = rest_outcome (λ (o : Outcome). P (push h (event (Rest number) o.1)) o.0) number s (k.refused h s ran now (Rest number)) (k.rest h s ran now number)
      one_more h s (Resume number) ran now = resume_outcome (λ (o : Outcome). P (push h (event (Resume number) o.1)) o.0) number s (k.refused h s ran now (Resume number)) (k.resume h s ran now number)

      pub every_run : (h : History) (s : State) → Ran ahead ls start h s → P h s
      every_run h s = every_history ls start P k.first one_more h s
