use Rattle.entries.proofs.FirstPlaces.{Carries}
use Rattle.entries.proofs.first.Given as goal

abbrev pub invariant-loop-i : goal.invariant-loop-i
invariant-loop-i g l = Carries g.T.Entry.before l.entries l.i l.best.0 l.best.1.now
