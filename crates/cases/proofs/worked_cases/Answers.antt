-- Numbers and texts compute, and what is claimed of all rankings follows from their laws.
use Rattle.std.proofs.Common.{rules}
use Rattle.std.specs.Fmt.{digits}
use Rattle.windows.proofs.Room.{too_long}
use Rattle.cases.proofs.Told.{told}
use Rattle.cases.proofs.Worked.{never_meet, meets, has_room, unlawful, not_dm}
use Rattle.cases.proofs.worked_cases.Goals as goal

pub returns : goal.returns
unfolding digits
returns c = search (rules, told, never_meet, meets, has_room, unlawful, not_dm, too_long)
