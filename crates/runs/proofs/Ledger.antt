-- What each job has had: the units left to a pending job and those that it had make up its length; so
-- every step says truly whether a job began and ended with its unit.
use Rattle.std.proofs.Common.{◌≡◌, ℕ, ◌+◌, ◌^◌, ◌<◌, ◌≤◌, Bool, eqb, List, [], ◌∷◌, length, refl, ◌∙◌, subst, arith, Ok, Some}
use Rattle.std.proofs.lemmas.Bool.Decides.{nat_tests}
use Rattle.std.proofs.lemmas.Grind.{common_steps}
use Rattle.model.specs.Rankings.{Lawful}
use Rattle.model.specs.declared.job.Job.{Job}
use Rattle.model.specs.declared.line.Line.{Line}
use Rattle.runs.specs.declared.call.Accepted.TheVariants.{Step as UnitGiven}
use Rattle.runs.specs.declared.call.StepReport.{StepReport}
use Rattle.runs.specs.declared.call.UnitReport.{UnitReport}
use Rattle.runs.specs.declared.task.Task.{Task}
use Rattle.runs.specs.Tasks.{arrived, served, ended_early, rested, resumed}
use Rattle.runs.specs.Steps.{line_of}
use Rattle.runs.specs.Calls.{State, begun, step_of}
use Rattle.runs.specs.Histories.{Event, History, unit_of, clock_of, units_in, rests_after, release, Ran, start_of, unit_event, end_event, rest_event, resume_event, line_in}
use Rattle.runs.specs.Promise.{SoundPlan, Truly}
use Rattle.runs.proofs.Basics.{Basic, basics}
use Rattle.runs.proofs.Kept.{Kept, arrived_kept}
use Rattle.runs.proofs.Pointwise.{task_of}
use Rattle.runs.proofs.Reported.{unit_line}
use Rattle.runs.proofs.Turns.{Stepped, given_place, stepped_turn, ran_split, every_line}
use Rattle.runs.proofs.Units.{push, units_in_append}

-- Line n's pending job at clock t: what is left and what it had are its length.
abbrev pub Had : ℕ → History → ℕ → Line → ℕ → Task → Type 0
Had start h n l t x = 0 < x.left → x.left + units_in start h n x.release t ≡ l.length

module _ (start : ℕ) (h : History) (n : ℕ) (l : Line) where
  pub arrived_had : (t : ℕ) (x : Task) → x.line ≡ l → Had start h n l t x → Had start h n l t (arrived t x)
  arrived_had t x is had = grind arith

  pub served_had : (r : StepReport) (y : Task) → y.number ≡ n → (0 < y.left → (start ≤ y.release) × (y.release ≤ clock_of start h)) → Had start h n l (clock_of start h) y
      → Had start (push h (unit_event r)) n l (clock_of start h + 1) (served (line_of r) y)
  served_had r y is when had = grind (arith, common_steps)

pub rested_left : (x : Task) → (rested x).left ≡ 0
rested_left x = grind arith

module _ (ahead : Job → Job → Bool) (lawful : Lawful ahead) (ls : List Line) (m start : ℕ) (sound : SoundPlan ls m) where
  basic : (h : History) (s : State) → Ran ahead ls start h s → Basic ls (start_of start) h s
  basic = basics ahead lawful ls m start sound

  module _ (i : ℕ) (in' : i < length ls) where
    abbrev begin : ℕ
    begin = start_of start

    abbrev l : Line
    l = line_in ls i

    -- a line after the arrivals of an instant
    pub after_arrivals : (h : History) (s : State) → Ran ahead ls start h s → s.clock < 10 ^ 12
        → Kept begin (s.clock + 1) (i + 1) l (rests_after h (i + 1)) (arrived s.clock (task_of s.tasks i))
    after_arrivals h s ran below =
        let b = basic h s ran in
        arrived_kept begin s.clock (i + 1) l (rests_after h (i + 1)) (task_of s.tasks i) (omega (arith, b.clock)) below (sound.ranged i in') (b.each i in')

    abbrev Q : History → ℕ → Task → Type 0
    Q h t x = Had begin h (i + 1) l t x

    had_step : (h : History) (s s' : State) (r : StepReport) → Ran ahead ls start h s → Stepped i s s' r → Q h s.clock (task_of s.tasks i)
        → Q (push h (unit_event r)) (s.clock + 1) (served (line_of r) (arrived s.clock (task_of s.tasks i)))
    had_step h s s' r ran st had =
        let b = basic h s ran in
        let k = after_arrivals h s ran st.below in
        grind (arith, arrived_had begin h (i + 1) l s.clock (task_of s.tasks i), served_had begin h (i + 1) l r (arrived s.clock (task_of s.tasks i)))

    had_same : (h : History) (e : Event) (t : ℕ) (x y : Task) → unit_of e.reply ≡ [] → (0 < y.left → (y.left ≡ x.left) × (y.release ≡ x.release)) → Q h t x → Q (push h e) t y
    had_same h e t x y none same had p = grind (arith, common_steps)

    pub had : (h : History) (s : State) → Ran ahead ls start h s → Had begin h (i + 1) l s.clock (task_of s.tasks i)
    had = every_line ahead lawful ls m start sound i in' Q (record {
      first = λ p. absurd (omega arith);
      step = had_step;
      none = λ h s e ran none q. had_same h e s.clock (task_of s.tasks i) (task_of s.tasks i) none (λ _. (refl, refl)) q;
      early = λ h s ran last q. had_same h end_event s.clock (task_of s.tasks i) (ended_early (task_of s.tasks i)) refl (λ p. absurd (omega arith)) q;
      aside = λ h s ran q. had_same h (rest_event (i + 1)) s.clock (task_of s.tasks i) (rested (task_of s.tasks i)) refl (λ p. absurd (omega (arith, rested_left (task_of s.tasks i)))) q;
      again = λ h s ran q. had_same h (resume_event (i + 1)) s.clock (task_of s.tasks i) (resumed (task_of s.tasks i)) refl (λ _. (refl, refl)) q;
    })

  -- the job that gets the unit of a step after history a, by its number of release
  record Unit-of (a : History) (q : State) (u : UnitReport) (i k : ℕ) : Type 0 where
    from_start : start_of start ≤ release (line_in ls i) k
    come : release (line_in ls i) k ≤ q.clock
    latest : q.clock < release (line_in ls i) (k + 1)
    began : u.began ≡ eqb (units_in (start_of start) a (i + 1) (release (line_in ls i) k) q.clock) 0
    ended : u.ended ≡ eqb (units_in (start_of start) a (i + 1) (release (line_in ls i) k) q.clock + 1) (line_in ls i).length

  unit_of_lem : (a : History) (q : State) (r : StepReport) (u : UnitReport) (i : ℕ) (in' : i < length ls) → Ran ahead ls start a q → (step_of ahead q).1 ≡ Ok (UnitGiven r) → r.unit ≡ Some u → u.line ≡ i + 1 → (k : ℕ) × Unit-of a q u i k
  unit_of_lem a q r u i in' ran is unit line =
      let st = stepped_turn ahead lawful ls m (start_of start) sound a q (basic a q ran) i in' r is in
      let told = st.told (unit_line r u unit ∙ line) in
      let kept = after_arrivals i in' a q ran st.below in
      let job = kept.released told.some in
      let had-units = arrived_had (start_of start) a (i + 1) (line_in ls i) q.clock (task_of q.tasks i) ((basic a q ran).each i in').line (had i in' a q ran) told.some in
      let ranged = sound.ranged i in' in
      (job.turn.0, grind (arith, nat_tests))

  pub truly : (h : History) (s : State) → Ran ahead ls start h s → Truly ls (start_of start) h
  truly h s ran t r u at unit =
      let split = ran_split ahead lawful at.0 at.1 (unit_event r) (begun start ls) s (subst (λ z. Ran ahead ls start z s) at.2 ran) in
      let b = basic at.0 split.0 split.1 in
      let place = given_place ahead lawful ls m (start_of start) sound at.0 split.0 b r split.2 u unit in
      let it = unit_of_lem at.0 split.0 r u place.0 place.2 split.1 split.2 unit place.1 in
      let said = it.1 in
      let from = release (line_in ls place.0) it.0 in
      let units : units_in (start_of start) h (place.0 + 1) from t ≡ units_in (start_of start) at.0 (place.0 + 1) from split.0.clock = grind (arith, units_in_append (start_of start) at.0 (unit_event r ∷ at.1) (place.0 + 1) from t) in
      (place.0, place.1, place.2, (it.0, said.from_start, omega (arith, said.come, b.clock), omega (arith, said.latest, b.clock), (cc), (cc)))
