use Rattle.std.proofs.lemmas.Nat.Gcd.{IsGcd-from_mod}
use Rattle.windows.proofs.Gcd.{is_gcd_of}
use Rattle.windows.proofs.euclid.+gcd.Goals as goal

pub returns-else-b-eq0 : goal.returns-else-b-eq0
returns-else-b-eq0 t c =
    let greatest = IsGcd-from_mod c.args.a c.args.b c.gcd.result c.gcd.ensures.greatest in
    record { value = is_gcd_of c.args.a c.args.b c.gcd.result greatest; greatest = greatest }
