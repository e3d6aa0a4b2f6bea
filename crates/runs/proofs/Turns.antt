-- What a step says of the line that gets its unit; and what every call carries on, of one line and the clock.
use Rattle.std.proofs.Common.{◌≡◌, ℕ, ◌+◌, ◌^◌, ◌<◌, Bool, List, [], ◌∷◌, ◌++◌, length, Some, None, count_by, Option, sym, refl, ap, ◌∙◌, subst, arith, Err, Ok}
use Rattle.std.specs.Option.{option_map}
use Rattle.std.proofs.lemmas.Option.{none-some, same_Some}
use Rattle.model.specs.Ranges.{blank}
use Rattle.model.specs.Rankings.{Lawful}
use Rattle.model.specs.declared.job.Job.{Job}
use Rattle.model.specs.declared.line.Line.{Line}
use Rattle.runs.specs.declared.call.LastUnit.TheVariants.{Running}
use Rattle.runs.specs.declared.call.Accepted.TheVariants.{Step as UnitGiven}
use Rattle.runs.specs.declared.call.StepReport.{StepReport}
use Rattle.runs.specs.declared.call.UnitReport.{UnitReport}
use Rattle.runs.specs.declared.task.Task.{Task}
use Rattle.runs.specs.Tasks.{due, arrived, served, ended_early, rested, resumed, new_task, blank_task}
use Rattle.runs.specs.Steps.{first_of, arrived_all, unit_for, report_for, report_of, line_of, WellFormed}
use Rattle.runs.specs.Calls.{State, step_of, on_line, next_of}
use Rattle.runs.specs.Histories.{Event, event, History, unit_of, RanFrom, Ran, start_of, unit_event, end_event, rest_event, resume_event, line_in}
use Rattle.runs.specs.Promise.{SoundPlan}
use Rattle.runs.proofs.Basics.{Basic, basics, chosen, formed}
use Rattle.runs.proofs.Firsts.{first_place}
use Rattle.runs.proofs.Inductions.{every_run}
use Rattle.runs.proofs.Keeps.{arrived_well_formed}
use Rattle.runs.proofs.NewTasks.{new_tasks_at}
use Rattle.runs.proofs.Outcomes.{after_unit}
use Rattle.runs.proofs.Pointwise.{task_of, arrived_at, length_arrived, stepped_at, on_line_at}
use Rattle.runs.proofs.Serving.{numbered_at}
use Rattle.runs.proofs.Units.{push}

-- what a step said of the line to which it gave its unit, with y as it stood after the arrivals
pub record Told (y : Task) (r : StepReport) : Type 0 where
  pub some : 0 < y.left
  pub unit : r.unit ≡ Some (unit_for y)

pub record Stepped (i : ℕ) (s s' : State) (r : StepReport) : Type 0 where
  pub below : s.clock < 10 ^ 12
  pub clock : s'.clock ≡ s.clock + 1
  pub line : task_of s'.tasks i ≡ served (line_of r) (arrived s.clock (task_of s.tasks i))
  pub told : (line_of r) ≡ i + 1 → Told (arrived s.clock (task_of s.tasks i)) r

module _ (ahead : Job → Job → Bool) (lawful : Lawful ahead) where
  -- the line to which the unit goes, and what is said of it
  told_of : (ys : List Task) → WellFormed ys → (o : Option Task) → first_of ahead ys ≡ o → (n i : ℕ) → line_of (report_for o n) ≡ i + 1 → (i < length ys) × Told (task_of ys i) (report_for o n)
  told_of ys wf None e n i same = absurd (omega arith)
  told_of ys wf (Some b) e n i same =
      let found = first_place ahead lawful ys wf b e in
      grind (arith, numbered_at 1 ys found.0 blank_task found.2.0 wf.0)

  module _ (ls : List Line) (m start : ℕ) (sound : SoundPlan ls m) (h : History) (s : State) (b : Basic ls start h s) where
    -- what is told of the line that gets the unit
    report_told : s.clock < 10 ^ 12 → (i : ℕ) → line_of (report_of ahead s.clock s.tasks) ≡ i + 1 → (i < length ls) × Told (task_of (arrived_all s.clock s.tasks) i) (report_of ahead s.clock s.tasks)
    report_told below i same =
        let told = told_of (arrived_all s.clock s.tasks) (arrived_well_formed s.clock s.tasks below (formed ls m start h s sound b)) (first_of ahead (arrived_all s.clock s.tasks)) refl (count_by (due s.clock) s.tasks) i same in
        grind (arith, length_arrived s.clock s.tasks)

    pub unit_place : s.clock < 10 ^ 12 → (u : UnitReport) → (report_of ahead s.clock s.tasks).unit ≡ Some u → (i : ℕ) × (u.line ≡ i + 1) × (i < length ls)
    unit_place below u =
        let one : (o : Option Task) → first_of ahead (arrived_all s.clock s.tasks) ≡ o → option_map unit_for o ≡ Some u → (i : ℕ) × (u.line ≡ i + 1) × (i < length ls) = elim [
          | None ↦ λ e is. absurd (none-some u is)
          | Some x ↦ λ e is. let c = chosen ls start h s b ahead lawful m sound below x e in (c.place, ap (λ v. v.line) (sym (same_Some (unit_for x) u is)) ∙ c.number, c.inside)
        ] in
        one (first_of ahead (arrived_all s.clock s.tasks)) refl

    pub given_place : (r : StepReport) → (step_of ahead s).1 ≡ Ok (UnitGiven r) → (u : UnitReport) → r.unit ≡ Some u → (i : ℕ) × (u.line ≡ i + 1) × (i < length ls)
    given_place r = grind (arith, unit_place)

    given_stepped : (i : ℕ) → i < length ls → s.clock < 10 ^ 12
        → Stepped i s (after_unit ahead s) (report_of ahead s.clock s.tasks)
    given_stepped i in' below = grind (arith, stepped_at ahead s.clock s.tasks i, arrived_at s.clock s.tasks i, report_told below i)

    -- what a step that gave a unit to some line was for line i + 1
    pub stepped_turn : (i : ℕ) → i < length ls → (r : StepReport) → (step_of ahead s).1 ≡ Ok (UnitGiven r) → Stepped i s (step_of ahead s).0 r
    stepped_turn i in' r = grind (arith, given_stepped i in')

  -- a run through an event is a run up to it
  pub ran_split : (a b : History) (e : Event) (s s' : State) → RanFrom ahead s (a ++ e ∷ b) s' → (q : State) × RanFrom ahead s a q × ((next_of ahead q e.call).1 ≡ e.reply)
  ran_split [] b e s s' r = (s, refl, r.0)
  ran_split (x ∷ a) b e s s' r = grind (arith, (ran_split a b e (next_of ahead s x.call).0 s' r.1))

  -- What a start brings about and every call carries on, of one line and the clock, holds of every run.
  module _ (ls : List Line) (m start : ℕ) (sound : SoundPlan ls m) (i : ℕ) (in' : i < length ls) where
    pub record Carried (Q : History → ℕ → Task → Type 0) : Type 0 where
      pub first : Q [] (start_of start) (new_task (i + 1) (line_in ls i))
      pub step : (h : History) (s s' : State) (r : StepReport) → Ran ahead ls start h s → Stepped i s s' r → Q h s.clock (task_of s.tasks i)
          → Q (push h (unit_event r)) (s.clock + 1) (served (line_of r) (arrived s.clock (task_of s.tasks i)))
      pub none : (h : History) (s : State) (e : Event) → Ran ahead ls start h s → unit_of e.reply ≡ [] → Q h s.clock (task_of s.tasks i) → Q (push h e) s.clock (task_of s.tasks i)
      pub early : (h : History) (s : State) → Ran ahead ls start h s → s.last ≡ Running (i + 1) → Q h s.clock (task_of s.tasks i) → Q (push h end_event) s.clock (ended_early (task_of s.tasks i))
      pub aside : (h : History) (s : State) → Ran ahead ls start h s → Q h s.clock (task_of s.tasks i) → Q (push h (rest_event (i + 1))) s.clock (rested (task_of s.tasks i))
      pub again : (h : History) (s : State) → Ran ahead ls start h s → Q h s.clock (task_of s.tasks i) → Q (push h (resume_event (i + 1))) s.clock (resumed (task_of s.tasks i))

    module _ (Q : History → ℕ → Task → Type 0) (c : Carried Q) where
      abbrev On : History → State → Type 0
      On h s = Q h s.clock (task_of s.tasks i)

      -- line `number` is changed by f: the line at place i is that one, or stays as it was
      changed : (h : History) (s : State) → Ran ahead ls start h s → (e : Event) (number : ℕ) (f : Task → Task)
          → (number ≡ i + 1 → Q (push h e) s.clock (f (task_of s.tasks i))) → Q (push h e) s.clock (task_of s.tasks i) → Q (push h e) s.clock (task_of (on_line number f s.tasks) i)
      changed h s ran e number f own other =
          let b = basics ahead lawful ls m start sound h s ran in
          grind (arith, on_line_at number f s.tasks i)

      pub every_line : (h : History) (s : State) → Ran ahead ls start h s → Q h s.clock (task_of s.tasks i)
      every_line = every_run ahead ls start On (record {
        first = subst (Q [] (start_of start)) (sym (new_tasks_at 1 ls i blank_task blank in' ∙ ap (λ n. new_task n (line_in ls i)) (omega arith))) c.first;
        refused = λ h s ran q call f. c.none h s (event call (Err f)) ran refl q;
        unit = λ h s ran q soon _.
            let r = report_of ahead s.clock s.tasks in
            let st = given_stepped ls m (start_of start) sound h s (basics ahead lawful ls m start sound h s ran) i in' soon in
            subst (Q (push h (unit_event r)) (s.clock + 1)) (sym st.line) (c.step h s (after_unit ahead s) r ran st q);
        early = λ h s ran q l is. changed h s ran end_event l ended_early (λ same. c.early h s ran (is ∙ ap Running same) q) (c.none h s end_event ran refl q);
        rest = λ h s ran q number _. changed h s ran (rest_event number) number rested (λ same. subst (λ n. Q (push h (rest_event n)) s.clock (rested (task_of s.tasks i))) (sym same) (c.aside h s ran q)) (c.none h s (rest_event number) ran refl q);
        resume = λ h s ran q number _. changed h s ran (resume_event number) number resumed (λ same. subst (λ n. Q (push h (resume_event n)) s.clock (resumed (task_of s.tasks i))) (sym same) (c.again h s ran q)) (c.none h s (resume_event number) ran refl q);
      })
