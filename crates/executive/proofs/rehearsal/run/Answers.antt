use Rattle.std.proofs.Common.{Ok, Err, ap, ◌∙◌, arith}
use Rattle.std.proofs.lemmas.Result.{err_from_is_err_and}
use Rattle.executive.specs.Slots.{tasks_of}
use Rattle.runs.specs.Rehearsals.{and_then, run_units}
use Rattle.executive.proofs.Running.{run_on, run_stops}
use Rattle.executive.proofs.rehearsal.run.Goals as goal

pub loop-preserved : goal.loop-preserved
loop-preserved g c =
    let ah = g.R.Ranking.ahead c.args.ranking.now in
    let s = c.loop.slots in
    let now = c.step_unmissed.ensures in
    let all = run_units ah c.args.units c.args.slots.now.clock (tasks_of c.args.slots.now.list.items) in
    (run_on ah c.args.units c.loop.counter s.clock (tasks_of s.list.items) all c.loop-test.true c.loop.invariant.0 _ _ now.clock now.tasks c.in_ok-step_unmissed.ensures.value, omega (arith, now.clock, c.loop.invariant.1))

pub returns-in_err-step_unmissed-clause-reached : goal.returns-in_err-step_unmissed-clause-reached
returns-in_err-step_unmissed-clause-reached g c =
    let ah = g.R.Ranking.ahead c.args.ranking.now in
    let s = c.loop.slots in
    let all = run_units ah c.args.units c.args.slots.now.clock (tasks_of c.args.slots.now.list.items) in
    let p = err_from_is_err_and c.from_residual.result c.from_residual.ensures.1 in
    ap (λ r. and_then r (λ _. Ok (tasks_of c.step_unmissed.new.slots.list.items))) p.1
    ∙ run_stops ah c.args.units c.loop.counter s.clock (tasks_of s.list.items) all c.loop-test.true c.loop.invariant.0 p.0 (ap (λ e. Err e) p.2 ∙ c.in_err-step_unmissed.ensures.value)
