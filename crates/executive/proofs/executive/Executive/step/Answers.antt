use Rattle.std.proofs.Common.{◌≡◌, ◌+◌, length, Err, sym, refl, ap, ◌∙◌, subst, arith}
use Rattle.std.proofs.lemmas.Bool.Decides.{nat_tests}
use Rattle.model.specs.declared.fault.Fault.TheVariants.{ClockAtEnd}
use Rattle.runs.proofs.Pointwise.{length_stepped}
use Rattle.runs.specs.declared.call.Call.TheVariants.{Step}
use Rattle.runs.specs.Calls.{last_of}
use Rattle.runs.specs.Jitter.{note_start}
use Rattle.executive.specs.Executives.{lines_of, StillPending}
use Rattle.executive.specs.Slots.{AllTracked, tasks_of, tracks_of}
use Rattle.executive.specs.Views.{view_of}
use Rattle.executive.proofs.Outcomes.{step_refused}
use Rattle.executive.proofs.Places.{length_tasks, kept_formed}
use Rattle.executive.proofs.Standings.{lines_stepped, still_stepped, tracked_same, unit_line_within}
use Rattle.executive.proofs.Tracking.{note_same}
use Rattle.executive.proofs.Takings.{took}
use Rattle.executive.proofs.executive.Executive.step.Goals as goal

pub returns-then-clock-ge-LAST_CLOCK : goal.returns-then-clock-ge-LAST_CLOCK
returns-then-clock-ge-LAST_CLOCK g c =
    let x = c.args.self.now in
    let ah = g.R.Ranking.ahead x.ranking in
    took ah (g.met.R.Ranking.lawful x.ranking) x x Step _ (step_refused ah (view_of x) (omega (arith, c.clock-clock.ensures, c.if-clock-ge-LAST_CLOCK.true)) ∙ ap (λ t. (view_of x, Err (ClockAtEnd t))) (sym c.clock-clock.ensures)) refl refl

pub note_start-requires-clause-line : goal.note_start-requires-clause-line
note_start-requires-clause-line g c u e =
    let x = c.args.self.now in
    let s = x.slots in
    let at = unit_line_within (g.R.Ranking.ahead x.ranking) (g.met.R.Ranking.lawful x.ranking) s.clock (omega (arith, c.clock-clock.ensures, c.if-clock-ge-LAST_CLOCK.false)) (tasks_of s.list.items) (kept_formed s.clock s.list.items s.kept s.few) u (ap (λ r. r.unit) (sym c.step.ensures.report) ∙ e) in
    (at.0, omega (arith, at.1, length_tasks s.list.items, length_tasks c.step.new.self.list.items, ap length c.step.ensures.tasks, length_stepped (g.R.Ranking.ahead x.ranking) s.clock (tasks_of s.list.items)))

pub note_start-requires-clause-tracked : goal.note_start-requires-clause-tracked
note_start-requires-clause-tracked g c =
    let x = c.args.self.now in
    let s = x.slots in
    subst (λ t. AllTracked t c.step.new.self.list.items) (sym c.clock-clock.ensures) (tracked_same s.clock s.list.items c.step.new.self.list.items c.step.ensures.tracks (ap lines_of c.step.ensures.tasks ∙ lines_stepped (g.R.Ranking.ahead x.ranking) s.clock (tasks_of s.list.items)) x.tracked)

pub invariant_of-self : goal.invariant_of-self
invariant_of-self g c =
    let x = c.args.self.now in
    let s = x.slots in
    let ah = g.R.Ranking.ahead x.ranking in
    let now = c.step.ensures in
    let noted = c.note_start.ensures in
    let tasks = noted.tasks ∙ now.tasks in
    record {
      lines = ap lines_of tasks ∙ lines_stepped ah s.clock (tasks_of s.list.items) ∙ x.lines;
      running = subst (λ u. StillPending u (tasks_of c.note_start.new.self.list.items)) (sym (c.from-self.ensures ∙ ap last_of now.report)) (subst (StillPending _) (sym tasks) (still_stepped ah (g.met.R.Ranking.lawful x.ranking) s.clock (omega (arith, c.clock-clock.ensures, c.if-clock-ge-LAST_CLOCK.false)) (tasks_of s.list.items) (kept_formed s.clock s.list.items s.kept s.few)));
      tracked = subst (λ t. AllTracked t c.note_start.new.self.list.items) (ap (λ t. t + 1) c.clock-clock.ensures ∙ sym (noted.clock ∙ now.clock)) noted.tracked;
    }

pub returns : goal.returns
returns g c =
    let x = c.args.self.now in
    let s = x.slots in
    let ah = g.R.Ranking.ahead x.ranking in
    let ts = tasks_of s.list.items in
    let ks = tracks_of s.list.items in
    let now = c.step.ensures in
    let noted = c.note_start.ensures in
    let r = c.step.result.report in
    let tracks : note_start s.clock r ts ks ≡ tracks_of c.note_start.new.self.list.items =
    note_same s.clock r ts (tasks_of c.step.new.self.list.items) ks (sym (ap lines_of now.tasks ∙ lines_stepped ah s.clock ts))
    ∙ ap (note_start s.clock r (tasks_of c.step.new.self.list.items)) (sym now.tracks) ∙ ap (λ t. note_start t r (tasks_of c.step.new.self.list.items) (tracks_of c.step.new.self.list.items)) (sym c.clock-clock.ensures) ∙ sym noted.tracks in
    took ah (g.met.R.Ranking.lawful x.ranking) x _ Step _ (grind (arith, nat_tests, tracks)) refl refl
