use Rattle.std.proofs.Common.{refl}
use Rattle.std.proofs.lemmas.Result.{err_from_is_err_and}
use Rattle.sheet.proofs.ReadIffAdmitted.{read_admitted, refused_not_admitted, limits}
use Rattle.sheet.proofs.sheet.Sheet.read.Goals as goal

pub invariant_of-self : goal.invariant_of-self
invariant_of-self c =
    let e = rw (← c.fill.ensures) at c.in_ok-policy.ensures in
    let l = limits c.args.text.now c.fill.new.self e in
    record { ranged = l.0; limited = l.1; few = l.2 }

pub returns : goal.returns
returns c =
    let e = rw (← c.fill.ensures) at c.in_ok-policy.ensures in
    let r = read_admitted c.args.text.now c.fill.new.self e in
    record { filled = rw e refl; grammar = r.0; says = r.1 }

pub returns-in_err-policy : goal.returns-in_err-policy
returns-in_err-policy c =
    let p = err_from_is_err_and c.from_residual.result c.from_residual.ensures.1 in
    let e = c.in_err-policy.ensures in
    let r = refused_not_admitted c.args.text.now _ _ e in
    record { filled = rw (p.1, p.2, e) (refl, refl); grammar = rw p.1 r.0; says = r.1 }
