-- Texts and buffers compute.
use Rattle.std.proofs.Common.{rules}
use Rattle.std.specs.Fmt.{digits}
use Rattle.cases.proofs.edge_cases.Goals as goal

pub returns : goal.returns
unfolding digits
returns c = search rules
