-- Facts of every reached state: its clock, the shape of its lines, who rests, what is pending, and the last unit.
use Rattle.std.proofs.Common.{◌≡◌, ℕ, suc, ◌+◌, ◌-◌, ◌^◌, ◌<◌, ◌≤◌, Bool, true, false, List, [], ◌∷◌, length, Some, None, count_by, Option, sym, refl, ap, ◌∙◌, subst, arith, Err, Ok}
use Rattle.std.proofs.ByRecursion.{All-from_get_or}
use Rattle.std.proofs.lemmas.Bool.{ltb-true}
use Rattle.std.proofs.lemmas.Grind.{common_steps}
use Rattle.model.specs.Ranges.{is_regular, blank}
use Rattle.model.specs.Rankings.{Lawful}
use Rattle.model.specs.declared.fault.Fault.{Fault}
use Rattle.model.specs.declared.job.Job.{Job}
use Rattle.model.specs.declared.line.Line.{Line}
use Rattle.runs.specs.declared.call.Call.{Call}
use Rattle.runs.specs.declared.call.Call.TheVariants.{EarlyEnd, Rest, Resume}
use Rattle.runs.specs.declared.call.LastUnit.{LastUnit}
use Rattle.runs.specs.declared.call.LastUnit.TheVariants.{Idle, Running, Ended}
use Rattle.runs.specs.declared.call.Accepted.TheVariants.{Done}
use Rattle.runs.specs.declared.task.Task.{Task}
use Rattle.runs.specs.Tasks.{pending, due, arrived, ended_early, rested, resumed, blank_task}
use Rattle.runs.specs.Steps.{first_of, arrived_all, stepped, report_for, report_of, Numbered, Timed, WellFormed, First}
use Rattle.runs.specs.Calls.{State, state_of, begun, last_of, on_line, aside_of}
use Rattle.runs.specs.Histories.{event, History, clock_of, line_at, rests_after, Ran, start_of, unit_event, end_event, rest_event, resume_event, line_in}
use Rattle.runs.specs.Promise.{SoundPlan}
use Rattle.runs.proofs.Firsts.{first_place}
use Rattle.runs.proofs.Inductions.{every_run}
use Rattle.runs.proofs.Kept.{Kept, arrived_kept, served_kept}
use Rattle.runs.proofs.Keeps.{arrived_well_formed}
use Rattle.runs.proofs.NewTasks.{length_new_tasks, new_tasks_at}
use Rattle.runs.proofs.Outcomes.{after_unit, OrdinaryLine}
use Rattle.runs.proofs.Pointwise.{task_of, who, arrived_at, length_arrived, length_stepped, stepped_at}
use Rattle.runs.proofs.Units.{push}

-- A unit that went to a job still pending: the line had the unit before clock t.
pub record LastRan (start : ℕ) (h : History) (t : ℕ) (xs : List Task) (number : ℕ) : Type 0 where
  pub some : 0 < number
  pub inside : number ≤ length xs
  pub pending : 0 < (task_of xs (number - 1)).left
  pub later : start < t
  pub had : line_at start h (t - 1) ≡ number

abbrev pub LastKept : ℕ → History → ℕ → List Task → LastUnit → Type 0
LastKept start h t xs Idle = Unit {0}
LastKept start h t xs (Ended l) = Unit {0}
LastKept start h t xs (Running l) = LastRan start h t xs l

-- `start` is the clock with which the run began.
pub record Basic (ls : List Line) (start : ℕ) (h : History) (s : State) : Type 0 where
  pub clock : s.clock ≡ clock_of start h
  pub bounded : s.clock ≤ 10 ^ 12
  pub size : length s.tasks ≡ length ls
  pub each : (i : ℕ) → i < length ls → Kept start s.clock (i + 1) (line_in ls i) (rests_after h (i + 1)) (task_of s.tasks i)
  pub last : LastKept start h s.clock s.tasks s.last

-- lines that carry their numbers by their places
numbered_from : (n : ℕ) (xs : List Task) → ((i : ℕ) → i < length xs → (task_of xs i).number ≡ n + i) → Numbered n xs
numbered_from n [] each = tt
numbered_from n (x ∷ xs) each = (omega (arith, each 0 (omega arith)), numbered_from (n + 1) xs (λ i h. omega (arith, each (suc i) (omega arith))))

pub formed : (ls : List Line) (m start : ℕ) (h : History) (s : State) → SoundPlan ls m → Basic ls start h s → WellFormed s.tasks
formed ls m start h s sound b =
    let each : (i : ℕ) → i < length s.tasks → ((task_of s.tasks i).number ≡ 1 + i) × Timed (task_of s.tasks i) = λ i p. grind arith in
    (numbered_from 1 s.tasks (λ i p. (each i p).0), omega (arith, b.size, sound.few), All-from_get_or Timed s.tasks blank_task (λ i p. (each i p).1))

-- Line x gets the unit at t: it stands at a place of the list, is pending, and goes first.
pub record Chosen (ahead : Job → Job → Bool) (ls : List Line) (t : ℕ) (xs : List Task) (x : Task) : Type 0 where
  pub place : ℕ
  pub inside : place < length ls
  pub is : arrived t (task_of xs place) ≡ x
  pub number : x.number ≡ place + 1
  pub pending : 0 < x.left
  pub first : First ahead (arrived_all t xs) place

module _ (ls : List Line) (start : ℕ) (h : History) (s : State) (b : Basic ls start h s) where
  pub refused_basic : (c : Call) (f : Fault) → Basic ls start (push h (event c (Err f))) s
  refused_basic c f = grind (arith, common_steps)

  -- one line changed between steps, and the last unit as `u`
  done_basic : (c : Call) (number : ℕ) (f : Task → Task) (u : LastUnit)
      → ((n : ℕ) → (n ≡ number → ⊥) → rests_after (push h (event c (Ok Done))) n ≡ rests_after h n)
      → ((i : ℕ) → i < length ls → i + 1 ≡ number → Kept start s.clock (i + 1) (line_in ls i) (rests_after (push h (event c (Ok Done))) (i + 1)) (f (task_of s.tasks i)))
      → LastKept start h s.clock (on_line number f s.tasks) u
      → Basic ls start (push h (event c (Ok Done))) (state_of s.clock (on_line number f s.tasks) u s.tracks)
  done_basic c number f u other own last = grind (arith, common_steps)

  last_on_line : (number : ℕ) (f : Task → Task) (u : LastUnit)
      → ((l : ℕ) → u ≡ Running l → l ≡ number → (f (task_of s.tasks (l - 1))).left ≡ (task_of s.tasks (l - 1)).left)
      → LastKept start h s.clock s.tasks u → LastKept start h s.clock (on_line number f s.tasks) u
  last_on_line number f Idle keeps k = tt
  last_on_line number f (Ended l) keeps k = tt
  last_on_line number f (Running l) keeps k = grind (arith, common_steps)

  last_aside : (number : ℕ) (u : LastUnit) → LastKept start h s.clock s.tasks u → LastKept start h s.clock (on_line number rested s.tasks) (aside_of number u)
  last_aside number Idle k = tt
  last_aside number (Ended l) k = tt
  last_aside number (Running l) k = grind (arith, last_on_line number rested (Running l))

  end_basic : (l : ℕ) → Basic ls start (push h end_event) (state_of s.clock (on_line l ended_early s.tasks) (Ended l) s.tracks)
  end_basic l = done_basic EarlyEnd l ended_early (Ended l) (λ n _. grind (arith, common_steps)) (λ i p same. grind (arith, common_steps)) tt

  -- the plan's line of that number
  ordinary : (number i : ℕ) → OrdinaryLine s.tasks number → i < length ls → i + 1 ≡ number → is_regular (line_in ls i) ≡ false
  ordinary number i o p same = grind arith

  rest_basic : (number : ℕ) → OrdinaryLine s.tasks number → Basic ls start (push h (rest_event number)) (state_of s.clock (on_line number rested s.tasks) (aside_of number s.last) s.tracks)
  rest_basic number o =
      done_basic (Rest number) number rested (aside_of number s.last)
      (λ n other. grind (arith, common_steps)) (λ i p same. grind (arith, common_steps)) (last_aside number s.last b.last)

  resume_basic : (number : ℕ) → Basic ls start (push h (resume_event number)) (state_of s.clock (on_line number resumed s.tasks) s.last s.tracks)
  resume_basic number = done_basic (Resume number) number resumed s.last (λ n other. grind (arith, common_steps)) (λ i p same. grind (arith, common_steps)) (last_on_line number resumed s.last (λ l _ _. refl) b.last)

  -- A step below the last clock.
  module _ (ahead : Job → Job → Bool) (lawful : Lawful ahead) (m : ℕ) (sound : SoundPlan ls m) (soon : s.clock < 10 ^ 12) where
    step_each : (i : ℕ) → i < length ls → Kept start (s.clock + 1) (i + 1) (line_in ls i) (rests_after h (i + 1)) (task_of (stepped ahead s.clock s.tasks) i)
    step_each i p =
        let k = arrived_kept start s.clock (i + 1) (line_in ls i) (rests_after h (i + 1)) (task_of s.tasks i) (omega (arith, b.clock)) soon (sound.ranged i p) (b.each i p) in
        grind (arith, stepped_at ahead s.clock s.tasks i, served_kept start (s.clock + 1) (i + 1) (line_in ls i) (rests_after h (i + 1)) (who ahead s.clock s.tasks) (arrived s.clock (task_of s.tasks i)) k)

    pub chosen : (x : Task) → first_of ahead (arrived_all s.clock s.tasks) ≡ Some x → Chosen ahead ls s.clock s.tasks x
    chosen x e =
        let t = s.clock in
        let ys = arrived_all t s.tasks in
        let found = first_place ahead lawful ys (arrived_well_formed t s.tasks soon (formed ls m start h s sound b)) x e in
        let i = found.0 in
        let p : i < length ls = omega (arith, found.2.0, length_arrived t s.tasks, b.size) in
        let is : arrived t (task_of s.tasks i) ≡ x = sym (arrived_at t s.tasks i (omega (arith, b.size))) ∙ found.1 in
        let k = arrived_kept start t (i + 1) (line_in ls i) (rests_after h (i + 1)) (task_of s.tasks i) (omega (arith, b.clock)) soon (sound.ranged i p) (b.each i p) in
        record {
          place = i;
          inside = p;
          is = is;
          number = omega (arith, ap (λ y. y.number) is, k.number);
          first = found.2;
          pending = ltb-true 0 x.left (subst (λ y. pending y ≡ true) found.1 (found.2.1 blank_task));
        }

    chosen_left : (x : Task) (e : first_of ahead (arrived_all s.clock s.tasks) ≡ Some x) → (task_of (stepped ahead s.clock s.tasks) (x.number - 1)).left ≡ x.left - 1
    chosen_left x e =
        let c = chosen x e in
        grind (arith, stepped_at ahead s.clock s.tasks c.place)

    -- where the unit of this step went
    step_last : (best : Option Task) (n : ℕ) → first_of ahead (arrived_all s.clock s.tasks) ≡ best
        → LastKept start (push h (unit_event (report_for best n))) (s.clock + 1) (stepped ahead s.clock s.tasks) (last_of (report_for best n))
    step_last None n e = tt
    step_last (Some x) n e =
        let c = chosen x e in
        let left = chosen_left x e in
        let long = length_stepped ahead s.clock s.tasks in
        grind (arith, common_steps)

    step_given : Basic ls start (push h (unit_event (report_of ahead s.clock s.tasks))) (after_unit ahead s)
    step_given = grind (arith, common_steps, step_each, step_last (first_of ahead (arrived_all s.clock s.tasks)) (count_by (due s.clock) s.tasks) refl)

-- Every run: at its start, and after one call more.
module _ (ahead : Job → Job → Bool) (lawful : Lawful ahead) (ls : List Line) (m start : ℕ) (sound : SoundPlan ls m) where
  at_start : Basic ls (start_of start) [] (begun start ls)
  at_start = record {
    clock = omega arith;
    bounded = omega arith;
    size = length_new_tasks 1 ls;
    each = λ i p. subst (Kept (start_of start) (start_of start) (i + 1) (line_in ls i) false) (sym (new_tasks_at 1 ls i blank_task blank p))
        (record { number = omega arith; line = refl; resting = refl; quiet = λ _. refl; up = λ _. refl; soon = omega arith; released = λ q. absurd (omega arith) });
    last = tt;
  }

  pub basics : (h : History) (s : State) → Ran ahead ls start h s → Basic ls (start_of start) h s
  basics = every_run ahead ls start (Basic ls (start_of start)) (record {
    first = at_start;
    refused = λ h s ran b. refused_basic ls (start_of start) h s b;
    unit = λ h s ran b soon _. step_given ls (start_of start) h s b ahead lawful m sound soon;
    early = λ h s ran b l is. end_basic ls (start_of start) h s b l;
    rest = λ h s ran b. rest_basic ls (start_of start) h s b;
    resume = λ h s ran b number o. resume_basic ls (start_of start) h s b number;
  })
