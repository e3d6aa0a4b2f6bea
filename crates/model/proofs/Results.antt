-- What is known of the steps from what they come to.
use Rattle.std.proofs.Common.{◌≡◌, ℕ, ◌⊎◌, Some, None, Ok, Err, Option, Result, refl, inl, inr, arith}
use Rattle.model.specs.declared.fault.Fault.{Fault}
use Rattle.model.specs.Results.{and_then, or_fault}

pub err_ok : {Y : Type 0} {d : Fault} {y : Y} → ◌≡◌ {A = Result Y Fault} (Err d) (Ok y) → ⊥
err_ok {Y} {d} {y} e = let z : ◌≡◌ {A = ℕ} 0 1 = cc in omega arith

module _ {X Y : Type 0} where
  -- an `Ok` behind a step comes from an `Ok` of that step
  pub and_then_ok : (r : Result X Fault) (f : X → Result Y Fault) (y : Y) → and_then r f ≡ Ok y → (x : X) × (r ≡ Ok x) × (f x ≡ Ok y)
  and_then_ok (Ok x) f y e = (x, refl, e)
  and_then_ok (Err d) f y e = absurd (err_ok e)

  pub or_fault_ok : (o : Option X) (d : Fault) (f : X → Result Y Fault) (y : Y) → or_fault o d f ≡ Ok y → (x : X) × (o ≡ Some x) × (f x ≡ Ok y)
  or_fault_ok (Some x) d f y e = (x, refl, e)
  or_fault_ok None d f y e = absurd (err_ok e)

  pub or_fault_err : (o : Option X) (d : Fault) (f : X → Result Y Fault) (w : Fault) → or_fault o d f ≡ Err w → ((o ≡ None) × (w ≡ d)) ⊎ ((x : X) × (o ≡ Some x) × (f x ≡ Err w))
  or_fault_err (Some x) d f w e = inr (x, refl, e)
  or_fault_err None d f w e = inl (refl, cc)
