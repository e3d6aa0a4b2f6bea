use Rattle.std.proofs.Common.{sym}
use Rattle.sheet.proofs.Cuts.{first_at}
use Rattle.sheet.proofs.cutting.split_once.Goals as goal

pub returns : goal.returns
returns c = first_at c.args.byte c.args.s.now c.in_ok-n.n (sym c.in_ok-n.ensures)
