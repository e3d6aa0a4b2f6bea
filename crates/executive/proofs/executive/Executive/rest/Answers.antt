use Rattle.std.proofs.Common.{Err, sym, refl, ap, ◌∙◌, subst, arith}
use Rattle.std.proofs.lemmas.Result.{err_from_is_err_and}
use Rattle.runs.specs.declared.call.Call.TheVariants.{Rest}
use Rattle.executive.specs.declared.between.Change.TheVariants.{Rest as Changes}
use Rattle.executive.specs.Executives.{StillPending}
use Rattle.executive.specs.Slots.{tasks_of}
use Rattle.executive.specs.Views.{Took, done_or, view_of}
use Rattle.executive.proofs.Outcomes.{aside_as, ordinary_number, rest_refused, rest_resting, rest_taken}
use Rattle.executive.proofs.Places.{task_number}
use Rattle.executive.proofs.Standings.{still_rested}
use Rattle.executive.proofs.Takings.{changed_lines, changed_tracked, took}
use Rattle.executive.proofs.executive.Executive.rest.Goals as goal

pub returns-in_err-task : goal.returns-in_err-task
returns-in_err-task g c =
    let x = c.args.self.now in
    let ah = g.R.Ranking.ahead x.ranking in
    let p = err_from_is_err_and c.from_residual.result c.from_residual.ensures.1 in
    subst (λ r. Took ah x x (Rest c.args.number) (done_or r)) (sym p.1)
    (took ah (g.met.R.Ranking.lawful x.ranking) x x (Rest c.args.number) (Err p.0) (rest_refused c.args.number x.slots.list.items (view_of x) refl p.0 (ap (λ e. Err e) p.2 ∙ c.in_err-task.ensures)) refl refl)

pub returns-then-task : goal.returns-then-task
returns-then-task g c =
    let x = c.args.self.now in
    let y = c.in_ok-task.field-0.now in
    took (g.R.Ranking.ahead x.ranking) (g.met.R.Ranking.lawful x.ranking) x x (Rest c.args.number) _
    (grind (arith, rest_resting c.args.number x.slots.list.items (view_of x) refl y c.in_ok-task.ensures, ordinary_number x.slots c.args.number y c.in_ok-task.ensures)) refl refl

pub invariant_of-self : goal.invariant_of-self
invariant_of-self g c =
    let x = c.args.self.now in
    let n = c.in_ok-task.field-0.now.task.number in
    let now = c.change.ensures in
    record {
      lines = changed_lines x n Changes c.change.new.self now.clock now.tasks now.tracks;
      running = subst (λ u. StillPending u (tasks_of c.change.new.self.list.items)) (sym (c.last_after.ensures.last ∙ aside_as n x.last)) (subst (StillPending _) (sym now.tasks) (still_rested n _ (task_number x.slots.clock x.slots.list.items x.slots.kept) x.last x.running));
      tracked = changed_tracked x n Changes c.change.new.self now.clock now.tasks now.tracks;
    }

pub returns : goal.returns
returns g c =
    let x = c.args.self.now in
    let y = c.in_ok-task.field-0.now in
    took (g.R.Ranking.ahead x.ranking) (g.met.R.Ranking.lawful x.ranking) x _ (Rest c.args.number) _
    (grind (arith, rest_taken c.args.number x.slots.list.items (view_of x) refl y c.in_ok-task.ensures, ordinary_number x.slots c.args.number y c.in_ok-task.ensures, aside_as y.task.number x.last)) refl refl
