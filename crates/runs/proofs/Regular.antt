-- Every regular job begins in the unit of its release and is not interrupted: a unit that lies in a window of a
-- regular line finds its job pending, and no other regular one, unless it was ended early.
use Rattle.std.proofs.Common.{◌≡◌, ℕ, zero, suc, ◌+◌, ◌-◌, ◌^◌, ◌<◌, ◌≤◌, Bool, true, false, ◌⊎◌, List, [], length, sym, refl, subst, inl, inr, arith, Err, Ok}
use Rattle.std.proofs.ByRecursion.{All-get_or}
use Rattle.std.proofs.lemmas.Bool.{cases_lt, cases_order}
use Rattle.std.proofs.lemmas.Grind.{common_steps}
use Rattle.std.proofs.lemmas.Bool.Decides.{nat_tests}
use Rattle.model.specs.Ranges.{is_regular}
use Rattle.model.specs.Rankings.{Lawful}
use Rattle.model.specs.declared.fault.Fault.{Fault}
use Rattle.model.specs.declared.job.Job.{Job}
use Rattle.model.specs.declared.line.Line.{Line}
use Rattle.windows.specs.Windows.{InWindow}
use Rattle.runs.specs.declared.call.Call.{Call}
use Rattle.runs.specs.declared.call.Call.TheVariants.{Rest, Resume}
use Rattle.runs.specs.declared.call.LastUnit.{LastUnit}
use Rattle.runs.specs.declared.call.LastUnit.TheVariants.{Running, Ended}
use Rattle.runs.specs.declared.call.Accepted.TheVariants.{Done}
use Rattle.runs.specs.declared.call.StepReport.{StepReport}
use Rattle.runs.specs.declared.task.Task.{Task}
use Rattle.runs.specs.Tasks.{pending, arrived, job_of, served, ended_early, rested, resumed, blank_task}
use Rattle.runs.specs.Steps.{arrived_all, stepped, report_of, ToFirst}
use Rattle.runs.specs.Calls.{State, state_of, begun, on_line, aside_of}
use Rattle.runs.specs.Histories.{Event, event, History, unit_of, clock_of, line_at, rests_after, release, Ran, start_of, unit_event, end_event, line_in}
use Rattle.runs.specs.Promise.{SoundPlan, EndedBy, Regularly}
use Rattle.runs.proofs.Arrivals.{release_at_lem, no_release}
use Rattle.runs.proofs.Basics.{Basic, LastRan, LastKept, basics, formed}
use Rattle.runs.proofs.Firsts.{first_goes_first}
use Rattle.runs.proofs.Inductions.{every_run}
use Rattle.runs.proofs.Keeps.{arrived_well_formed}
use Rattle.runs.proofs.Kept.{Kept, arrived_kept}
use Rattle.runs.proofs.NewTasks.{new_tasks_at}
use Rattle.runs.proofs.Outcomes.{after_unit, OrdinaryLine}
use Rattle.runs.proofs.Pointwise.{task_of, who, arrived_at, length_arrived, stepped_at, on_line_at}
use Rattle.runs.proofs.Units.{push, line_same, clock_step, line_before}

-- Early ends, with one event more.
module _ (ls : List Line) (start : ℕ) (h : History) (e : Event) (older : (u : ℕ) → start ≤ u → u < clock_of start h → line_at start (push h e) u ≡ line_at start h u) where
  ended_older : (number from u : ℕ) → start ≤ from → u ≤ clock_of start h → EndedBy ls start h number from u → EndedBy ls start (push h e) number from u
  ended_older number from u low high by = grind (arith, common_steps)

  -- what holds of the units before the clock
  past_older : (i k u : ℕ) → Regularly ls start h → i < length ls → is_regular (line_in ls i) ≡ true → start ≤ release (line_in ls i) k
      → release (line_in ls i) k ≤ u → u < release (line_in ls i) k + (line_in ls i).length → u < clock_of start h
      → (line_at start (push h e) u ≡ i + 1) ⊎ EndedBy ls start (push h e) (i + 1) (release (line_in ls i) k) u
  past_older i k u all p reg low from to before = grind (arith, common_steps)

-- Regular line i + 1 at clock t: a pending job has had every unit since its release, and a release whose window
-- is not over has its job pending, or ended early.
pub record Unbroken (ls : List Line) (start t : ℕ) (h : History) (i : ℕ) (x : Task) : Type 0 where
  pub even : 0 < x.left → x.left + (t - x.release) ≡ (line_in ls i).length
  pub held : (k : ℕ) → start ≤ release (line_in ls i) k → release (line_in ls i) k < t → t < release (line_in ls i) k + (line_in ls i).length
      → ((0 < x.left) × (x.release ≡ release (line_in ls i) k)) ⊎ EndedBy ls start h (i + 1) (release (line_in ls i) k) t

pub record Steady (ls : List Line) (start : ℕ) (h : History) (s : State) : Type 0 where
  pub each : (i : ℕ) → i < length ls → is_regular (line_in ls i) ≡ true → Unbroken ls start s.clock h i (task_of s.tasks i)
  pub regularly : Regularly ls start h

module _ (ls : List Line) (start : ℕ) (h : History) (s : State) (b : Basic ls start h s) (st : Steady ls start h s) where
  -- A call that gives no unit.
  module _ (e : Event) (none : unit_of e.reply ≡ []) where
    kept_line : (u : ℕ) → start ≤ u → u < clock_of start h → line_at start (push h e) u ≡ line_at start h u
    kept_line u _ _ = line_same start h e none u

    regularly_same : Regularly ls start (push h e)
    regularly_same i k u p reg low from to before = grind (arith, common_steps)

    -- a line that is as it was
    unbroken_same : (i : ℕ) (y : Task) → i < length ls → is_regular (line_in ls i) ≡ true → y ≡ task_of s.tasks i → Unbroken ls start s.clock (push h e) i y
    unbroken_same i y p reg same = grind (arith, ended_older ls start h e kept_line)

  refused_steady : (c : Call) (f : Fault) → Steady ls start (push h (event c (Err f))) s
  refused_steady c f = grind (arith, unbroken_same, regularly_same)

  -- a change of an ordinary line
  ordinary_steady : (c : Call) (number : ℕ) (f : Task → Task) (u : LastUnit) → OrdinaryLine s.tasks number → Steady ls start (push h (event c (Ok Done))) (state_of s.clock (on_line number f s.tasks) u s.tracks)
  ordinary_steady c number f u o = grind (arith, common_steps, unbroken_same)

  -- the job that had the last unit is ended at the clock
  ended_unbroken : (l i : ℕ) → LastRan start h s.clock s.tasks l → i < length ls → i + 1 ≡ l → Unbroken ls start s.clock (push h end_event) i (ended_early (task_of s.tasks i))
  ended_unbroken l i ran p same = grind (arith, line_same)

  end_steady : (l : ℕ) → s.last ≡ Running l → Steady ls start (push h end_event) (state_of s.clock (on_line l ended_early s.tasks) (Ended l) s.tracks)
  end_steady l is =
      let ran : LastRan start h s.clock s.tasks l = subst (LastKept start h s.clock s.tasks) is b.last in
      record {
        each = λ i p reg. grind (arith, on_line_at l ended_early s.tasks i, ended_unbroken l i ran p, unbroken_same end_event refl i (task_of s.tasks i) p reg refl);
        regularly = regularly_same end_event refl;
      }

  -- A step below the last clock.
  module _ (ahead : Job → Job → Bool) (lawful : Lawful ahead) (m : ℕ) (sound : SoundPlan ls m) (soon : s.clock < 10 ^ 12) where
    -- a line of the plan after the arrivals
    kept_now : (i : ℕ) → i < length ls → Kept start (s.clock + 1) (i + 1) (line_in ls i) (rests_after h (i + 1)) (arrived s.clock (task_of s.tasks i))
    kept_now i p = arrived_kept start s.clock (i + 1) (line_in ls i) (rests_after h (i + 1)) (task_of s.tasks i) (omega (arith, b.clock)) soon (sound.ranged i p) (b.each i p)

    -- the clock lies in a window of every regular line that is pending
    window : (i : ℕ) → i < length ls → is_regular (line_in ls i) ≡ true → 0 < (arrived s.clock (task_of s.tasks i)).left → (k : ℕ) × InWindow (line_in ls i) k s.clock
    window i p reg some = grind (arith, kept_now)

    only_one : (i j : ℕ) → i < length ls → j < length ls → is_regular (line_in ls i) ≡ true → is_regular (line_in ls j) ≡ true
        → 0 < (arrived s.clock (task_of s.tasks i)).left → 0 < (arrived s.clock (task_of s.tasks j)).left → i ≡ j
    only_one i j p q reg reg' some some' =
        let v = window i p reg some in
        let w = window j q reg' some' in
        elim (cases_order i j) [
          | inl same ↦ same
          | inr (inl low) ↦ absurd (sound.apart i j low q reg reg' (s.clock, v.0, w.0, v.1, w.1))
          | inr (inr high) ↦ absurd (sound.apart j i high p reg' reg (s.clock, w.0, v.0, w.1, v.1))
        ]

    -- no ordinary line goes ahead of a regular one
    never_ahead : (i j : ℕ) → i < length ls → j < length ls → (j ≡ i → ⊥) → is_regular (line_in ls i) ≡ true → is_regular (line_in ls j) ≡ false
        → ahead (job_of (arrived s.clock (task_of s.tasks j))) (job_of (arrived s.clock (task_of s.tasks i))) ≡ true → ⊥
    never_ahead i j p q apart reg ord first = grind arith

    -- so a regular line that is pending gets the unit
    gets_unit : (i : ℕ) → i < length ls → is_regular (line_in ls i) ≡ true → 0 < (arrived s.clock (task_of s.tasks i)).left → who ahead s.clock s.tasks ≡ i + 1
    gets_unit i p reg some =
        let at : (j : ℕ) → j < length ls → task_of (arrived_all s.clock s.tasks) j ≡ arrived s.clock (task_of s.tasks j) = λ j q. arrived_at s.clock s.tasks j (omega (arith, b.size)) in
        by at (who ahead s.clock s.tasks) (first_goes_first ahead lawful (arrived_all s.clock s.tasks) (arrived_well_formed s.clock s.tasks soon (formed ls m start h s sound b)))
      where
        by : ((j : ℕ) → j < length ls → task_of (arrived_all s.clock s.tasks) j ≡ arrived s.clock (task_of s.tasks j)) → (w : ℕ) → ToFirst ahead (arrived_all s.clock s.tasks) w → w ≡ i + 1
        by at zero none = let pend = All-get_or (λ x. pending x ≡ false) (arrived_all s.clock s.tasks) i blank_task (omega (arith, b.size, length_arrived s.clock s.tasks)) none in grind arith
        by at (suc w) first = grind (arith, nat_tests, at i p, first.1 blank_task, length_arrived s.clock s.tasks, only_one i w p, never_ahead i w p)

    -- a release whose window holds the clock has its job pending after the arrivals, or ended early
    held_now : (i k : ℕ) → i < length ls → is_regular (line_in ls i) ≡ true → start ≤ release (line_in ls i) k → release (line_in ls i) k ≤ s.clock → s.clock < release (line_in ls i) k + (line_in ls i).length
        → ((0 < (arrived s.clock (task_of s.tasks i)).left) × ((arrived s.clock (task_of s.tasks i)).release ≡ release (line_in ls i) k)) ⊎ EndedBy ls start h (i + 1) (release (line_in ls i) k) s.clock
    held_now i k p reg low from to =
        let l = line_in ls i in
        let x = task_of s.tasks i in
        let ranged = sound.ranged i p in
        let k' = b.each i p in
        grind (arith, release_at_lem l k s.clock, no_release l k s.clock)

    -- The unit, as the history tells of it.
    abbrev told : StepReport
    told = report_of ahead s.clock s.tasks

    abbrev longer : History
    longer = push h (unit_event told)

    older : (u : ℕ) → start ≤ u → u < clock_of start h → line_at start longer u ≡ line_at start h u
    older = line_before start h told

    line_told : line_at start longer s.clock ≡ who ahead s.clock s.tasks
    line_told = grind (arith, common_steps)

    -- a pending regular job after its unit
    after_unit_lem : (i : ℕ) → i < length ls → is_regular (line_in ls i) ≡ true → let y : Task = arrived s.clock (task_of s.tasks i) in 0 < y.left
        → ((served (who ahead s.clock s.tasks) y).left ≡ y.left - 1) × ((served (who ahead s.clock s.tasks) y).release ≡ y.release)
    after_unit_lem i p reg some = grind (arith, gets_unit)

    step_unbroken : (i : ℕ) → i < length ls → is_regular (line_in ls i) ≡ true → Unbroken ls start (s.clock + 1) longer i (task_of (stepped ahead s.clock s.tasks) i)
    step_unbroken i p reg =
        let y = arrived s.clock (task_of s.tasks i) in
        let at = stepped_at ahead s.clock s.tasks i (omega (arith, b.size)) in
        subst (Unbroken ls start (s.clock + 1) longer i) (sym at)
        (record {
          even = λ q. grind (arith, after_unit_lem i p reg);
          held = λ k low from to. grind (arith, held_now i k p reg low, ended_older ls start h (unit_event told) older (i + 1) (release (line_in ls i) k) s.clock low);
        })

    step_regularly : Regularly ls start longer
    step_regularly i k u p reg low from to before =
        elim (cases_lt u s.clock) [
          | inl past ↦ past_older ls start h (unit_event told) older i k u st.regularly p reg low from to (omega (arith, b.clock))
          | inr now ↦
              let same : s.clock ≡ u = omega (arith, b.clock, clock_step start h told) in
              let held = held_now i k p reg low (omega (arith, same)) (omega (arith, same)) in
              grind (arith, line_told, gets_unit i p reg, ended_older ls start h (unit_event told) older (i + 1) (release (line_in ls i) k) s.clock low)
        ]

    step_steady : Steady ls start longer (after_unit ahead s)
    step_steady = record { each = step_unbroken; regularly = step_regularly }

-- Every run: at its start, and after one call more.
module _ (ahead : Job → Job → Bool) (lawful : Lawful ahead) (ls : List Line) (m start : ℕ) (sound : SoundPlan ls m) where
  at_start : Steady ls (start_of start) [] (begun start ls)
  at_start = grind (arith, new_tasks_at)

  basic : (h : History) (s : State) → Ran ahead ls start h s → Basic ls (start_of start) h s
  basic = basics ahead lawful ls m start sound

  pub steady : (h : History) (s : State) → Ran ahead ls start h s → Steady ls (start_of start) h s
  steady = every_run ahead ls start (Steady ls (start_of start)) (record {
    first = at_start;
    refused = λ h s ran st. refused_steady ls (start_of start) h s (basic h s ran) st;
    unit = λ h s ran st soon _. step_steady ls (start_of start) h s (basic h s ran) st ahead lawful m sound soon;
    early = λ h s ran st. end_steady ls (start_of start) h s (basic h s ran) st;
    rest = λ h s ran st number. ordinary_steady ls (start_of start) h s (basic h s ran) st (Rest number) number rested (aside_of number s.last);
    resume = λ h s ran st number. ordinary_steady ls (start_of start) h s (basic h s ran) st (Resume number) number resumed s.last;
  })

  pub regularly : (h : History) (s : State) → Ran ahead ls start h s → Regularly ls (start_of start) h
  regularly h s r = (steady h s r).regularly
