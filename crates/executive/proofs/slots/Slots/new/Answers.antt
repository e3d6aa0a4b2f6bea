use Rattle.std.proofs.Common.{sym, ap, ◌∙◌, subst, arith}
use Rattle.executive.specs.Slots.{AllKept, tasks_of, tracks_of}
use Rattle.executive.proofs.NewSlots.{pushed_kept, pushed_tasks, pushed_tracks}
use Rattle.executive.proofs.slots.Slots.new.Goals as goal

pub loop-i-preserved : goal.loop-i-preserved
loop-i-preserved c =
    let ls = c.args.lines.now in
    let xs = c.loop-i.list.items in
    let inv = c.loop-i.invariant in
    let new = c.new.ensures in
    let is = c.push.ensures.items in (
      omega (arith, c.push.ensures.len, inv.0),
      ap tasks_of is ∙ pushed_tasks c.args.start ls xs c.loop-i.i c.loop-i-test.true inv.0 c.new.result inv.1 new.task,
      ap tracks_of is ∙ pushed_tracks c.args.start ls xs c.loop-i.i c.loop-i-test.true inv.0 c.new.result inv.2 new.track,
      subst (AllKept c.args.start) (sym is) (pushed_kept c.args.start ls xs c.loop-i.i c.loop-i-test.true inv.0 c.new.result inv.3 new.task new.kept),
    )
