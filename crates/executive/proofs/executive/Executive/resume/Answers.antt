use Rattle.std.proofs.Common.{Err, sym, refl, ap, ◌∙◌, subst, arith}
use Rattle.std.proofs.lemmas.Result.{err_from_is_err_and}
use Rattle.runs.specs.declared.call.Call.TheVariants.{Resume}
use Rattle.executive.specs.declared.between.Change.TheVariants.{Resume as Changes}
use Rattle.executive.specs.Executives.{StillPending}
use Rattle.executive.specs.Views.{Took, done_or, view_of}
use Rattle.executive.proofs.Outcomes.{ordinary_number, resume_refused, resume_awake, resume_taken}
use Rattle.executive.proofs.Standings.{still_resumed}
use Rattle.executive.proofs.Takings.{changed_lines, changed_tracked, took}
use Rattle.executive.proofs.executive.Executive.resume.Goals as goal

pub returns-in_err-task : goal.returns-in_err-task
returns-in_err-task g c =
    let x = c.args.self.now in
    let ah = g.R.Ranking.ahead x.ranking in
    let p = err_from_is_err_and c.from_residual.result c.from_residual.ensures.1 in
    subst (λ r. Took ah x x (Resume c.args.number) (done_or r)) (sym p.1)
    (took ah (g.met.R.Ranking.lawful x.ranking) x x (Resume c.args.number) (Err p.0) (resume_refused c.args.number x.slots.list.items (view_of x) refl p.0 (ap (λ e. Err e) p.2 ∙ c.in_err-task.ensures)) refl refl)

pub returns-then-not-task : goal.returns-then-not-task
returns-then-not-task g c =
    let x = c.args.self.now in
    let y = c.in_ok-task.field-0.now in
    took (g.R.Ranking.ahead x.ranking) (g.met.R.Ranking.lawful x.ranking) x x (Resume c.args.number) _
    (grind (arith, resume_awake c.args.number x.slots.list.items (view_of x) refl y c.in_ok-task.ensures, ordinary_number x.slots c.args.number y c.in_ok-task.ensures)) refl refl

pub invariant_of-self : goal.invariant_of-self
invariant_of-self g c =
    let x = c.args.self.now in
    let n = c.in_ok-task.field-0.now.task.number in
    let now = c.change.ensures in
    record {
      lines = changed_lines x n Changes c.change.new.self now.clock now.tasks now.tracks;
      running = subst (StillPending x.last) (sym now.tasks) (still_resumed n _ x.last x.running);
      tracked = changed_tracked x n Changes c.change.new.self now.clock now.tasks now.tracks;
    }

pub returns : goal.returns
returns g c =
    let x = c.args.self.now in
    let y = c.in_ok-task.field-0.now in
    took (g.R.Ranking.ahead x.ranking) (g.met.R.Ranking.lawful x.ranking) x _ (Resume c.args.number) _
    (grind (arith, resume_taken c.args.number x.slots.list.items (view_of x) refl y c.in_ok-task.ensures, ordinary_number x.slots c.args.number y c.in_ok-task.ensures)) refl refl
