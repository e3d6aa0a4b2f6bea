-- The ranking's own laws are all that the promise asks.
use Rattle.runs.proofs.Promised.{promise}
use Rattle.runs.proofs.promise_stands.Goals as goal

pub returns : goal.returns
returns g c = promise (g.R.Ranking.ahead c.args.ranking.now) (g.met.R.Ranking.lawful c.args.ranking.now)
