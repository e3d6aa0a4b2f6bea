use Rattle.planning.specs.Hyperperiods.{hyperperiod}
use Rattle.planning.specs.Places.{plan_set}
use Rattle.runs.specs.Histories.{RanFrom, Ran}
use Rattle.runs.proofs.Promised.{promise}
use Rattle.executive.specs.Batches.{events_of}
use Rattle.executive.specs.Views.{view_of}
use Rattle.executive.proofs.SoundPlans.{sound_plan}
use Rattle.std.proofs.Common.{subst}
use Rattle.executive.proofs.executive.batch.run.Goals as goal

pub returns-clause-promised : goal.returns-clause-promised
returns-clause-promised g c =
    let x = c.start-executive.result in
    let y = c.take_each.new.self in
    let began = c.start-executive.ensures in
    let events = events_of c.args.calls.now c.take_each.new.replies in
    let lines = (plan_set c.args.plan).lines in
    let ah = g.R.Ranking.ahead c.args.ranking in
    let ran : Ran ah lines c.args.start events (view_of y) =
    subst (λ s. RanFrom ah s events (view_of y)) began.state
    (subst (λ q. RanFrom (g.R.Ranking.ahead q) (view_of x) events (view_of y)) began.ranking c.take_each.ensures.took.exact) in
    promise ah (g.met.R.Ranking.lawful c.args.ranking) lines (hyperperiod lines) c.args.start events (view_of y) (sound_plan c.args.plan) ran
