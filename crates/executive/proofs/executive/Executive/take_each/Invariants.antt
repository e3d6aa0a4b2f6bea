use Rattle.std.proofs.Common.{◌≡◌, take, drop}
use Rattle.runs.specs.Histories.{RanFrom}
use Rattle.executive.specs.Batches.{events_of}
use Rattle.executive.specs.Views.{view_of}
use Rattle.executive.proofs.executive.Executive.take_each.Given as goal

abbrev pub invariant-loop-i : goal.invariant-loop-i
invariant-loop-i g l =
    (drop l.made l.replies ≡ drop l.made l.initial.replies)
    × (l.self.plan ≡ l.initial.self.plan)
    × (l.self.ranking ≡ l.initial.self.ranking)
    × RanFrom (g.R.Ranking.ahead l.initial.self.ranking) (view_of l.initial.self) (events_of (take l.i l.calls) (take l.i l.replies)) (view_of l.self)
