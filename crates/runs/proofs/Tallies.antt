-- What became of a line's jobs: those made are those ended, missed, set aside and pending, and without
-- a rest they are the line's releases.
use Rattle.std.proofs.Common.{◌≡◌, ℕ, suc, ◌+◌, ◌<◌, Bool, true, false, cond, ltb, List, [], length, refl, arith}
use Rattle.std.proofs.lemmas.Bool.{cond-true, cond-false, lt-ltb, le-ltb}
use Rattle.std.proofs.lemmas.Grind.{common_steps}
use Rattle.std.proofs.lemmas.Bool.Decides.{nat_tests}
use Rattle.model.specs.Rankings.{Lawful}
use Rattle.model.specs.declared.job.Job.{Job}
use Rattle.model.specs.declared.line.Line.{Line}
use Rattle.runs.specs.declared.call.LastUnit.TheVariants.{Running}
use Rattle.runs.specs.declared.call.StepReport.{StepReport}
use Rattle.runs.specs.declared.task.Counts.{Counts}
use Rattle.runs.specs.declared.task.Task.{Task}
use Rattle.runs.specs.Tasks.{struck, arrives, admitted, arrived, served, ended_early, rested, resumed}
use Rattle.runs.specs.Calls.{State}
use Rattle.runs.specs.Histories.{Event, History, unit_of, units_of, clock_of, RestAt, releases_in, Ran, start_of, unit_event, end_event, resume_event, line_in}
use Rattle.runs.specs.Promise.{SoundPlan, Tallied}
use Rattle.runs.proofs.Arrivals.{no_release}
use Rattle.runs.proofs.Basics.{Basic, basics}
use Rattle.runs.proofs.Kept.{struck_is}
use Rattle.runs.proofs.Ledger.{after_arrivals}
use Rattle.runs.proofs.Pointwise.{task_of}
use Rattle.runs.proofs.Turns.{Stepped, every_line}
use Rattle.runs.proofs.Units.{push, units_same, rest_older, rest_now}
use Rattle.runs.specs.Steps.{line_of}

-- jobs pending: one or none
abbrev waiting : ℕ → ℕ
waiting left = cond (ltb 0 left) 1 0

one_waits : (left : ℕ) → 0 < left → waiting left ≡ 1
one_waits left some = cond-true {A = ℕ} (ltb 0 left) 1 0 (lt-ltb 0 left some)

none_waits : (left : ℕ) → left ≡ 0 → waiting left ≡ 0
none_waits left none = cond-false {A = ℕ} (ltb 0 left) 1 0 (le-ltb 0 left (omega arith))

abbrev Balance : ℕ → Counts → Type 0
Balance left c = c.made ≡ c.ended + c.missed + c.aside + waiting left

abbrev Balanced : Task → Type 0
Balanced x = Balance x.left x.counts

struck_balanced : (t : ℕ) (x : Task) → Balanced x → Balanced (struck t x)
struck_balanced t x b = grind arith

admitted_balanced : (t : ℕ) (y : Task) → (arrives t y ≡ true → y.left ≡ 0) → 0 < y.line.length → Balanced y → Balanced (admitted t y)
admitted_balanced t y gone some b = grind arith

served_balanced : (n : ℕ) (y : Task) → (n ≡ y.number → 0 < y.left) → Balanced y → Balanced (served n y)
served_balanced n y own b = grind arith

ended_balanced : (x : Task) → 0 < x.left → Balanced x → Balanced (ended_early x)
ended_balanced x some b = omega (arith, b, one_waits x.left some, none_waits 0 refl)

rested_balanced : (x : Task) → Balanced x → Balanced (rested x)
rested_balanced x b = grind arith

-- a line not at rest makes a job at each of its releases, and no other line makes any
made_by_arrival : (t : ℕ) (x : Task) → (arrived t x).counts.made ≡ x.counts.made + cond (arrives t x) 1 0
made_by_arrival t x = grind arith

arrived_resting : (t : ℕ) (x : Task) → (arrived t x).resting ≡ x.resting
arrived_resting t x = grind arith

-- a unit makes no job, and puts no line at rest
served_same : (n : ℕ) (y : Task) → ((served n y).counts.made ≡ y.counts.made) × ((served n y).resting ≡ y.resting)
served_same n y = grind arith

module _ (ahead : Job → Job → Bool) (lawful : Lawful ahead) (ls : List Line) (m start : ℕ) (sound : SoundPlan ls m) where
  module _ (i : ℕ) (in' : i < length ls) where
    abbrev begin : ℕ
    begin = start_of start

    abbrev l : Line
    l = line_in ls i

    basic : (h : History) (s : State) → Ran ahead ls start h s → Basic ls begin h s
    basic = basics ahead lawful ls m start sound

    -- at a release the line's last job is over
    no_job : (h : History) (s : State) → Ran ahead ls start h s → arrives s.clock (struck s.clock (task_of s.tasks i)) ≡ true → (struck s.clock (task_of s.tasks i)).left ≡ 0
    no_job h s ran e = grind (arith, basic, no_release)

    balanced_step : (h : History) (s s' : State) (r : StepReport) → Ran ahead ls start h s → Stepped i s s' r → Balanced (task_of s.tasks i) → Balanced (served (line_of r) (arrived s.clock (task_of s.tasks i)))
    balanced_step h s s' r ran st b = grind (arith, nat_tests, basic, after_arrivals, served_balanced, admitted_balanced, no_job, struck_is, struck_balanced)

    last_waits : (h : History) (s : State) → Ran ahead ls start h s → s.last ≡ Running (i + 1) → 0 < (task_of s.tasks i).left
    last_waits h s ran last = grind (arith, basic)

    balanced : (h : History) (s : State) → Ran ahead ls start h s → Balanced (task_of s.tasks i)
    balanced = every_line ahead lawful ls m start sound i in' (λ _ _ x. Balanced x) (record {
      first = omega (arith, none_waits 0 refl);
      step = balanced_step;
      none = λ h s e ran none b. b;
      early = λ h s ran last b. ended_balanced (task_of s.tasks i) (last_waits h s ran last) b;
      aside = λ h s ran b. rested_balanced (task_of s.tasks i) b;
      again = λ h s ran b. b;
    })

    -- no rest of the line was accepted
    abbrev Unrested : History → Type 0
    Unrested h = (c : ℕ) → RestAt begin h (i + 1) c → ⊥

    abbrev Made : History → ℕ → Task → Type 0
    Made h t x = Unrested h → (x.resting ≡ false) × (x.counts.made ≡ releases_in l begin (length (units_of h)))

    unrested : (h : History) (e : Event) → Unrested (push h e) → Unrested h
    unrested h e never c at = never c (rest_older begin h e (i + 1) c at)

    one_more : (h : History) (r : StepReport) → length (units_of (push h (unit_event r))) ≡ suc (length (units_of h))
    one_more h r = grind (arith, common_steps)

    made_step : (h : History) (s s' : State) (r : StepReport) → Ran ahead ls start h s → Stepped i s s' r → Made h s.clock (task_of s.tasks i) → Made (push h (unit_event r)) (s.clock + 1) (served (line_of r) (arrived s.clock (task_of s.tasks i)))
    made_step h s s' r ran st made never =
        let b = basic h s ran in
        let old = made (unrested h (unit_event r) never) in
        let same = served_same (line_of r) (arrived s.clock (task_of s.tasks i)) in
        grind (arith, nat_tests, made_by_arrival s.clock (task_of s.tasks i), arrived_resting s.clock (task_of s.tasks i), b.each i in', one_more h r)

    made_same : (h : History) (e : Event) (t : ℕ) (x y : Task) → unit_of e.reply ≡ [] → (x.resting ≡ false → y.resting ≡ false) → y.counts.made ≡ x.counts.made → Made h t x → Made (push h e) t y
    made_same h e t x y none up same made never = grind (arith, unrested h e never, units_same h e none)

    made_all : (h : History) (s : State) → Ran ahead ls start h s → Made h s.clock (task_of s.tasks i)
    made_all = every_line ahead lawful ls m start sound i in' Made (record {
      first = λ _. (refl, refl);
      step = made_step;
      none = λ h s e ran none. made_same h e s.clock (task_of s.tasks i) (task_of s.tasks i) none (λ up. up) refl;
      early = λ h s ran last. made_same h end_event s.clock (task_of s.tasks i) (ended_early (task_of s.tasks i)) refl (λ up. up) refl;
      aside = λ h s ran made never. absurd (never (clock_of begin h) (rest_now begin h (i + 1)));
      again = λ h s ran. made_same h (resume_event (i + 1)) s.clock (task_of s.tasks i) (resumed (task_of s.tasks i)) refl (λ _. refl) refl;
    })

  pub tallied : (h : History) (s : State) → Ran ahead ls start h s → Tallied ls (start_of start) h s
  tallied h s ran = grind (arith, balanced, made_all)
