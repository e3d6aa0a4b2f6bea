use Rattle.std.proofs.Common.{◌≡◌, ◌^◌, ◌<◌, true, drop}
use Rattle.std.specs.Char.{is_ascii_digit}
use Rattle.std.specs.List.{list_all}
use Rattle.sheet.specs.Reading.{value_from}
use Rattle.sheet.proofs.values.value_of.Given as goal

abbrev pub invariant-loop-b : goal.invariant-loop-b
invariant-loop-b l = (value_from l.n (drop l.b-index l.digits) ≡ value_from 0 l.digits) × (list_all is_ascii_digit (drop l.b-index l.digits) ≡ true) × (l.n < 10 ^ l.b-index)
