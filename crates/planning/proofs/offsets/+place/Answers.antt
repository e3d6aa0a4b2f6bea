use Rattle.std.proofs.Common.{◌≡◌, None, rules, arith}
use Rattle.std.proofs.lemmas.Grind.{common_steps}
use Rattle.planning.proofs.Candidates.{candidate, try_next, not_clear, none_left}
use Rattle.planning.proofs.offsets.+place.Goals as goal
use Rattle.planning.proofs.offsets.+place.Goals.{place-else-clear-via-then-clear+else-place_behind, place-else-clear-via-else-clear}

pub place-loop-offset-preserved : goal.place-loop-offset-preserved
place-loop-offset-preserved t g c =
    let placed = c.args.placed.now.items in
    let l = c.in-Some.line.now in
    let rest = c.in-Some.rest.now in
    let o = c.loop-offset.offset in
    let same = c.loop-offset.invariant.0 in
    let next = λ (none : candidate placed l rest o ≡ None). try_next l.period o (candidate placed l rest) _ c.loop-offset-test.true none c.loop-offset.invariant.1 in
    elim c.else-clear.branch [
      | place-else-clear-via-then-clear+else-place_behind w ↦ (
        grind (arith, common_steps, w.placed-is, w.if-place_behind.false, w.place_behind-then-clear.ensures.kept),
        next (none_left placed c.loop-offset.placed.items l rest o same (search (rules, w.if-place_behind.ensures.found))),
      )
      | place-else-clear-via-else-clear w ↦ (
        grind (arith, common_steps, w.placed-is),
        next (not_clear placed c.loop-offset.placed.items l rest o same (search (rules, w.if-clear.ensures))),
      )
    ]
