use Rattle.std.proofs.Common.{[], refl, arith}
use Rattle.std.proofs.lemmas.Grind.{common_steps}
use Rattle.planning.proofs.Among.{among}
use Rattle.planning.proofs.offsets.place_lines.Goals as goal

pub returns-then-found : goal.returns-then-found
returns-then-found c =
    let w = among [] [] c.args.all.now refl in
    grind (arith, common_steps)

pub returns-else-found : goal.returns-else-found
returns-else-found c =
    let w = among [] [] c.args.all.now refl in
    grind (arith, common_steps)
