use Rattle.std.proofs.Common.{set, ap, ◌∙◌, arith}
use Rattle.std.proofs.lemmas.List.Edits.{map_over_more}
use Rattle.std.proofs.lemmas.List.{get_or_default}
use Rattle.planning.specs.Deadlines.{changed}
use Rattle.planning.proofs.deadlines.set_deadlines.Goals as goal

pub loop-line-preserved : goal.loop-line-preserved
loop-line-preserved c =
    let ys = c.loop-line.lines in
    let i = c.loop-line.line-index in
    ap (set ys i) c.change.ensures
    ∙ map_over_more (changed c.args.policy c.least_ordinary-least.result) c.args.lines.now ys i _ c.loop-line-test.true c.loop-line.invariant (get_or_default ys i _ _ (omega arith))
