-- Two lines have offsets that keep them apart exactly if their lengths together are no more than the
-- greatest common divisor of their periods.
use Rattle.std.proofs.Common.{◌≡◌, ◌+◌, ◌%◌, ◌<◌, ◌≤◌, ◌∙◌, mod-eq_of_lt, arith}
use native.Mathlib.Nat.{le_of_dvd, add-mod_right, sub-zero}
use Rattle.std.proofs.lemmas.Bool.Decides.{nat_tests}
use Rattle.model.specs.declared.line.Line.{Line}
use Rattle.windows.specs.Euclid.{gcd_of}
use Rattle.windows.specs.Windows.{Periodic, gap_of, at, Crowded, Room}
use Rattle.windows.proofs.Gcd.{gcd_is}

pub too_long : (a b : Line) → gcd_of a.period b.period < a.length + b.length → Crowded a b
too_long a b h x y = grind (arith, nat_tests)

pub next_to : (a b : Line) → a.length + b.length ≤ gcd_of a.period b.period → Periodic a → Periodic b → Room a b
next_to a b fit pa pb =
    let p = gcd_of a.period b.period in
    let c = a.length in
    let start : 0 % p ≡ 0 = mod-eq_of_lt (omega arith) in
    let whole : c % p ≡ c = mod-eq_of_lt (omega (arith, pb.0)) in
    let g : gap_of (at a 0) (at b c) p ≡ c = rw (start, sub-zero, whole) (add-mod_right c p ∙ whole) in
    (0, c, pa.1, omega (arith, le_of_dvd pb.1 (gcd_is a.period b.period).1), grind (arith, nat_tests))
