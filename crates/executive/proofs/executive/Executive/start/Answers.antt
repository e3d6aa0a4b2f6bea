use Rattle.std.proofs.Common.{ap, ◌∙◌}
use Rattle.executive.specs.Executives.{lines_of}
use Rattle.executive.proofs.Standings.{lines_new, still_idle, tracked_new}
use Rattle.executive.proofs.executive.Executive.start.Goals as goal

pub invariant_of-result : goal.invariant_of-result
invariant_of-result g c =
    let now = c.new-slots.ensures in
    record {
      lines = ap lines_of now.tasks ∙ lines_new 1 c.lines.result.now ∙ c.lines.ensures;
      running = still_idle _;
      tracked = tracked_new _ _ _ now.tracks;
    }
