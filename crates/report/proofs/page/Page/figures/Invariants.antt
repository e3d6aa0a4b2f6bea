use Rattle.std.proofs.Common.{drop}
use Rattle.report.specs.Printed.{figures}
use Rattle.report.proofs.Pages.{Half}
use Rattle.report.proofs.page.Page.figures.Given as goal

abbrev pub invariant-loop-n : goal.invariant-loop-n
invariant-loop-n l = Half l.initial.self l.self (figures l.numbers) (figures (drop l.n-index l.numbers))
