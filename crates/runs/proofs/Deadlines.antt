-- Where no pending job stands at its deadline, every job is over in time: it has had its length, was
-- ended early, or was set aside.
use Rattle.std.proofs.Common.{◌≡◌, ℕ, ◌+◌, ◌-◌, ◌<◌, ◌≤◌, Bool, false, List, [], ◌∷◌, ◌++◌, length, count_by, refl, ap, ◌∙◌, subst, inl, inr, arith}
use Rattle.std.proofs.lemmas.List.{length-append}
use Rattle.std.proofs.lemmas.Grind.{common_steps}
use Rattle.model.specs.Rankings.{Lawful}
use Rattle.model.specs.declared.job.Job.{Job}
use Rattle.model.specs.declared.line.Line.{Line}
use Rattle.runs.specs.declared.call.LastUnit.TheVariants.{Running}
use Rattle.runs.specs.declared.call.StepReport.{StepReport}
use Rattle.runs.specs.declared.task.Task.{Task}
use Rattle.runs.specs.Tasks.{due, arrived, served, ended_early, rested, resumed}
use Rattle.runs.specs.Calls.{State}
use Rattle.runs.specs.Histories.{Event, History, unit_of, clock_of, line_at, units_in, EndAt, RestAt, rests_after, release, Ran, start_of, unit_event, end_event, rest_event, resume_event, line_in}
use Rattle.runs.specs.Promise.{SoundPlan, Over, InTime}
use Rattle.runs.proofs.Arrivals.{next_release_lem, release_at_lem, no_release, arrived_old}
use Rattle.runs.proofs.Basics.{Basic, basics}
use Rattle.runs.proofs.Ledger.{Had, rested_left, after_arrivals, had}
use Rattle.runs.proofs.Pointwise.{task_of}
use Rattle.runs.proofs.Turns.{Stepped, ran_split, every_line}
use Rattle.runs.proofs.Units.{push, split_push, units_in_same, end_older, rest_older, rest_now}
use Rattle.runs.specs.Steps.{line_of}

-- the job of line n, l in the plan, that was released at `from`
module _ (start : ℕ) (n : ℕ) (l : Line) (from : ℕ) where
  abbrev Stopped : History → Type 0
  Stopped h = (c : ℕ) × (from < c) × (c < from + l.deadline) × (line_at start h (c - 1) ≡ n) × EndAt start h c

  abbrev Aside : History → Type 0
  Aside h = (c : ℕ) × (from < c) × (c < from + l.deadline) × RestAt start h n c

  -- it runs still, or it is over; the line's next job comes no sooner than at its deadline
  data Fate (h : History) (x : Task) : Type 0 where
    running : 0 < x.left → x.release ≡ from → Fate h x
    finished : units_in start h n from (from + l.deadline) ≡ l.length → (0 < x.left → from + l.deadline ≤ x.release) → Fate h x
    stopped : Stopped h → Fate h x
    aside : Aside h → Fate h x

  stopped_older : (h : History) (e : Event) → start ≤ from → Stopped h → Stopped (push h e)
  stopped_older h e low s = grind (arith, common_steps, end_older)

  aside_older : (h : History) (e : Event) → Aside h → Aside (push h e)
  aside_older h e a = (a.0, a.1, a.2, rest_older start h e n a.0 a.3)

  -- a call that gives no unit: the line is y after it
  module _ (low : start ≤ from) (h : History) (e : Event) (none : unit_of e.reply ≡ []) (x y : Task) where
    still_finished : units_in start h n from (from + l.deadline) ≡ l.length → units_in start (push h e) n from (from + l.deadline) ≡ l.length
    still_finished had = units_in_same start h e none n from (from + l.deadline) ∙ had

    -- and has its job as before
    fate_same : y.left ≡ x.left → y.release ≡ x.release → Fate h x → Fate (push h e) y
    fate_same left rel (running some at) = running (omega arith) (rel ∙ at)
    fate_same left rel (finished had next) = grind (arith, common_steps)
    fate_same left rel (stopped s) = stopped (stopped_older h e low s)
    fate_same left rel (aside a) = aside (aside_older h e a)

    -- and has no job
    fate_none : y.left ≡ 0 → (0 < x.left → x.release ≡ from → Fate (push h e) y) → Fate h x → Fate (push h e) y
    fate_none left over (running some at) = over some at
    fate_none left over (finished had next) = finished (still_finished had) (λ p. absurd (omega arith))
    fate_none left over (stopped s) = stopped (stopped_older h e low s)
    fate_none left over (aside a) = aside (aside_older h e a)

  -- a unit: after the arrivals the line is y
  module _ (low : start ≤ from) (h : History) (r : StepReport) (y : Task) (number : y.number ≡ n) where
    abbrev h' : History
    h' = push h (unit_event r)

    fate_served : from ≤ clock_of start h → clock_of start h < from + l.deadline → 0 < y.left → y.release ≡ from → Had start h n l (clock_of start h) y → Fate h' (served (line_of r) y)
    fate_served come before some at had = grind (arith, common_steps)

    -- the job is finished, and the line's next one comes no sooner than its deadline
    fate_after : from < clock_of start h → units_in start h n from (from + l.deadline) ≡ l.length → (0 < y.left → from + l.deadline ≤ y.release) → (0 < y.left → y.release ≤ clock_of start h) → ((line_of r) ≡ n → 0 < y.left) → Fate h' (served (line_of r) y)
    fate_after past had next come own = grind (arith, common_steps)

-- `early`: no pending job stands at its deadline; `none_due`: none is struck out.
module _ (ahead : Job → Job → Bool) (lawful : Lawful ahead) (ls : List Line) (m start : ℕ) (sound : SoundPlan ls m)
    (early : (h : History) (s : State) → Ran ahead ls start h s → (i : ℕ) → i < length ls → 0 < (task_of s.tasks i).left → s.clock < (task_of s.tasks i).release + (line_in ls i).deadline)
    (none_due : (h : History) (s : State) → Ran ahead ls start h s → count_by (due s.clock) s.tasks ≡ 0) where
  basic : (h : History) (s : State) → Ran ahead ls start h s → Basic ls (start_of start) h s
  basic = basics ahead lawful ls m start sound

  -- release k of line i + 1, in whose unit the line was not at rest
  module _ (i : ℕ) (in' : i < length ls) (k : ℕ) where
    abbrev begin : ℕ
    begin = start_of start

    abbrev l : Line
    l = line_in ls i

    abbrev from : ℕ
    from = release l k

    abbrev F : History → Task → Type 0
    F h x = Fate begin (i + 1) l from h x

    abbrev Q : History → ℕ → Task → Type 0
    Q h t x = (a b : History) (r : StepReport) → h ≡ a ++ unit_event r ∷ b → clock_of begin a ≡ from → rests_after a (i + 1) ≡ false → F h x

    -- the clock has come past the release
    past : (h a b : History) (r : StepReport) → h ≡ a ++ unit_event r ∷ b → clock_of begin a ≡ from → (begin ≤ from) × (from < clock_of begin h)
    past h a b r is now = grind (arith, common_steps)

    -- the line at a reached state, and after the arrivals there
    had_now : (h : History) (s : State) → Ran ahead ls start h s → Had begin h (i + 1) l (clock_of begin h) (task_of s.tasks i)
    had_now h s ran = subst (λ t. Had begin h (i + 1) l t (task_of s.tasks i)) (basic h s ran).clock (had ahead lawful ls m start sound i in' h s ran)

    -- the step of the release itself
    fate_new : (h : History) (s s' : State) (r : StepReport) → Ran ahead ls start h s → Stepped i s s' r → clock_of begin h ≡ from → rests_after h (i + 1) ≡ false
        → F (push h (unit_event r)) (served (line_of r) (arrived s.clock (task_of s.tasks i)))
    fate_new h s s' r ran st now awake =
        let b = basic h s ran in
        let x = b.each i in' in
        let ranged = sound.ranged i in' in
        let y = after_arrivals ahead lawful ls m start sound i in' h s ran st.below in
        grind (arith, release_at_lem l k s.clock, fate_served begin (i + 1) l from)

    -- a later step
    fate_step : (h : History) (s s' : State) (r : StepReport) → Ran ahead ls start h s → Stepped i s s' r → begin ≤ from → from < clock_of begin h
        → F h (task_of s.tasks i) → F (push h (unit_event r)) (served (line_of r) (arrived s.clock (task_of s.tasks i)))
    fate_step h s s' r ran st low after (running some at) = grind (arith, common_steps, basic, arrived_old, no_release, fate_served, had_now)
    fate_step h s s' r ran st low after (finished units next) =
        let b = basic h s ran in
        let ranged = sound.ranged i in' in
        let y = after_arrivals ahead lawful ls m start sound i in' h s ran st.below in
        let next' : 0 < (arrived s.clock (task_of s.tasks i)).left → from + l.deadline ≤ (arrived s.clock (task_of s.tasks i)).release = grind (arith, next_release_lem l k) in
        fate_after begin (i + 1) l from low h r (arrived s.clock (task_of s.tasks i)) y.number after units next' (λ p. omega (arith, (y.released p).before, b.clock)) (λ line. (st.told line).some)
    fate_step h s s' r ran st low after (stopped c) = grind (arith, stopped_older)
    fate_step h s s' r ran st low after (aside c) = grind (arith, common_steps)

    on_step : (h : History) (s s' : State) (r : StepReport) → Ran ahead ls start h s → Stepped i s s' r → Q h s.clock (task_of s.tasks i)
        → Q (push h (unit_event r)) (s.clock + 1) (served (line_of r) (arrived s.clock (task_of s.tasks i)))
    on_step h s s' r ran st q a b r' is now awake =
        elim (split_push h a b (unit_event r) (unit_event r') is) [
          | inl last ↦ fate_new h s s' r ran st (ap (clock_of begin) last.0 ∙ now) (ap (λ g. rests_after g (i + 1)) last.0 ∙ awake)
          | inr older ↦ let p = past h a older.0 r' older.1 now in fate_step h s s' r ran st p.0 p.1 (q a older.0 r' older.1 now awake)
        ]

    -- a call that gives no unit
    on_call : (h : History) (e : Event) (t : ℕ) (x y : Task) → unit_of e.reply ≡ [] → (begin ≤ from → F h x → F (push h e) y) → Q h t x → Q (push h e) t y
    on_call h e t x y none goes q a b r is now awake = grind (arith, split_push)

    -- a pending job that is over at the clock is over in time
    timely : (h : History) (s : State) → Ran ahead ls start h s → 0 < (task_of s.tasks i).left → (task_of s.tasks i).release ≡ from
        → (from < clock_of begin h) × (clock_of begin h < from + l.deadline)
    timely h s ran some at = grind (arith, basic)

    on_end : (h : History) (s : State) → Ran ahead ls start h s → s.last ≡ Running (i + 1) → Q h s.clock (task_of s.tasks i) → Q (push h end_event) s.clock (ended_early (task_of s.tasks i))
    on_end h s ran last =
        let b = basic h s ran in
        on_call h end_event s.clock (task_of s.tasks i) (ended_early (task_of s.tasks i)) refl (λ low. fate_none begin (i + 1) l from low h end_event refl (task_of s.tasks i) (ended_early (task_of s.tasks i)) refl
        (λ some at. grind (arith, common_steps)))

    on_rest : (h : History) (s : State) → Ran ahead ls start h s → Q h s.clock (task_of s.tasks i) → Q (push h (rest_event (i + 1))) s.clock (rested (task_of s.tasks i))
    on_rest h s ran =
        on_call h (rest_event (i + 1)) s.clock (task_of s.tasks i) (rested (task_of s.tasks i)) refl (λ low.
        fate_none begin (i + 1) l from low h (rest_event (i + 1)) refl (task_of s.tasks i) (rested (task_of s.tasks i)) (rested_left (task_of s.tasks i))
        (λ some at. let t = timely h s ran some at in aside (clock_of begin h, t.0, t.1, rest_now begin h (i + 1))))

    fates : (h : History) (s : State) → Ran ahead ls start h s → Q h s.clock (task_of s.tasks i)
    fates = every_line ahead lawful ls m start sound i in' Q (record {
      first = λ a b r is. absurd (omega (arith, ap length is, length-append a (unit_event r ∷ b)));
      step = on_step;
      none = λ h s e ran none. on_call h e s.clock (task_of s.tasks i) (task_of s.tasks i) none (λ low. fate_same begin (i + 1) l from low h e none (task_of s.tasks i) (task_of s.tasks i) refl refl);
      early = on_end;
      aside = on_rest;
      again = λ h s ran. on_call h (resume_event (i + 1)) s.clock (task_of s.tasks i) (resumed (task_of s.tasks i)) refl (λ low. fate_same begin (i + 1) l from low h (resume_event (i + 1)) refl (task_of s.tasks i) (resumed (task_of s.tasks i)) refl refl);
    })

    -- at the deadline no job runs still
    over : (h : History) (s : State) → Ran ahead ls start h s → from + l.deadline ≤ clock_of begin h → F h (task_of s.tasks i) → Over ls begin h i from
    over h s ran late (running some at) = grind (arith, timely h s ran some at)
    over h s ran late (finished units next) = inl units
    over h s ran late (stopped c) = inr (inl c)
    over h s ran late (aside c) = inr (inr c)

  pub in_time : (h : History) (s : State) → Ran ahead ls start h s → InTime ls (start_of start) h
  in_time h s ran = grind (arith, ran_split, over, fates)
