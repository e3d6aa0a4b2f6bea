-- One step behind another, where each step may come to a fault.
--   and_then   what follows an `Ok`
--   or_fault   what follows a value
use Rattle.std.specs.Prelude.{Some, None, Ok, Err, Option, Result}
use Rattle.model.specs.declared.fault.Fault.{Fault}

-- What follows an `Ok`; a fault stays.
abbrev pub and_then : {X Y : Type 0} → Result X Fault → (X → Result Y Fault) → Result Y Fault
and_then (Ok x) f = f x
and_then (Err e) f = Err e

-- What follows a value; without one, the fault.
abbrev pub or_fault : {X Y : Type 0} → Option X → Fault → (X → Result Y Fault) → Result Y Fault
or_fault (Some x) e f = f x
or_fault None e f = Err e
