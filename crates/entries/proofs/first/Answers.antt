use Rattle.std.proofs.Common.{◌≡◌, length, subst, arith}
use Rattle.std.specs.List.{IsFirstBest}
use Rattle.entries.proofs.FirstPlaces.{entry_at}
use Rattle.entries.proofs.first.Goals as goal

pub returns-clause-entry : goal.returns-clause-entry
returns-clause-entry g c =
    let xs = c.args.entries.now in
    let end : c.loop-i.i ≡ length xs = omega arith in
    entry_at g.met.T.Entry.ranks xs c.loop-i.best.0 (subst (λ n. IsFirstBest g.T.Entry.before xs n c.loop-i.best.0) end (c.loop-i.invariant.first (omega arith)))
