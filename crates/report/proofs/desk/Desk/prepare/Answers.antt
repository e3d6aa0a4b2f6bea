use Rattle.std.proofs.Common.{refl}
use Rattle.std.proofs.lemmas.Result.{err_from_is_err_and}
use Rattle.report.proofs.Places.{filled_kept, filled_ok, filled_err}
use Rattle.report.proofs.desk.Desk.prepare.Goals as goal

pub returns-in_err-read : goal.returns-in_err-read
returns-in_err-read c =
    let p = err_from_is_err_and c.from_residual.result c.from_residual.ensures.1 in
    let read = c.read.new.self in
    let e = filled_err _ _ _ read.tasks c.in_err-read.ensures.filled in
    record {
      sheet = filled_kept c.read.result _ _ _ c.read.ensures.filled;
      plan = rw (p.1, p.2, e) (refl, refl);
    }

pub returns : goal.returns
returns c =
    let read = c.read.new.self in
    let e = filled_ok _ _ _ read.tasks c.in_ok-read.ensures.filled in
    record {
      sheet = filled_kept c.read.result _ _ _ c.read.ensures.filled;
      plan = rw e c.plan.ensures.filled;
    }
