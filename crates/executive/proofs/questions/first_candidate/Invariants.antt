use Rattle.std.proofs.Common.{◌≡◌, ◌≤◌, length, take}
use Rattle.std.specs.List.{filter_map}
use Rattle.executive.proofs.questions.first_candidate.Given as goal

abbrev pub invariant-loop-slot : goal.invariant-loop-slot
invariant-loop-slot g l = (l.candidates.items ≡ filter_map g.T.Candidate.candidate (take l.slot-index l.slots)) × (length l.candidates.items ≤ l.slot-index)
