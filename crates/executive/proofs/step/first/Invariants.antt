use Rattle.std.proofs.Common.{◌≡◌, ◌+◌, drop, Some}
use Rattle.std.specs.List.{fold, reduce}
use Rattle.executive.specs.Slots.{first_of_two}
use Rattle.executive.proofs.Chosen.{seen}
use Rattle.executive.proofs.step.first.Given as goal

abbrev pub invariant-loop-slot : goal.invariant-loop-slot
invariant-loop-slot g l =
    let ahead = g.R.Ranking.ahead l.ranking in
    Some (fold (first_of_two ahead) l.best (seen (drop (l.start + 1 + l.slot-index) l.slots))) ≡ reduce (first_of_two ahead) (seen l.slots)
