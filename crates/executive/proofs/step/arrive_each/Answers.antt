use Rattle.std.proofs.Common.{rules, tests, ◌≡◌, Some, sym, ap, ◌∙◌, arith}
use Rattle.std.specs.Option.{option_or}
use Rattle.std.proofs.lemmas.Bool.Decides.{nat_tests}
use Rattle.executive.specs.Slots.{arrived_slot}
use Rattle.executive.proofs.Places.{slot_at}
use Rattle.executive.proofs.Struck.{arrived_more, count_no, count_yes, lowest_no, lowest_yes}
use Rattle.executive.proofs.step.arrive_each.Goals as goal
use Rattle.executive.proofs.step.arrive_each.Goals.{then-strike, else-strike}

pub loop-slot-preserved : goal.loop-slot-preserved
loop-slot-preserved c =
    let xs = c.args.slots.now in
    let ys = c.loop-slot.slots in
    let i = c.loop-slot.slot-index in
    let t = c.args.t in
    let inv = c.loop-slot.invariant in
    let within = c.loop-slot-test.true in
    let long = c.loop-slot.auto.slots in
    let y = c.release_at.new.self in
    let is : y ≡ arrived_slot t (slot_at ys i) = search (rules, tests) in
    let number : c.strike.new.task.number ≡ y.task.number = grind (arith, nat_tests, is) in
    let value = c.strike.ensures.value in
    let after = arrived_more t xs ys i within long inv.0 y is in
    elim c.if-strike.branch [
      | then-strike w ↦ let hit = sym w.if-strike.true ∙ value in (
        after,
        ap (λ s. s.count) w.struck-is ∙ ap (λ s. s.count) w.add.ensures ∙ count_yes t xs ys i within long inv.0 _ inv.1 hit,
        ap (λ s. s.lowest) w.struck-is ∙ ap (λ s. s.lowest) w.add.ensures ∙ ap (λ n. option_or c.loop-slot.struck.lowest (Some n)) number ∙ lowest_yes t xs ys i within long inv.0 _ inv.2 hit y is,
        omega (arith, ap (λ s. s.count) w.struck-is, ap (λ s. s.count) w.add.ensures, inv.3),
      )
      | else-strike w ↦ let miss = sym w.if-strike.false ∙ value in (
        after,
        ap (λ s. s.count) w.struck-is ∙ count_no t xs ys i within long inv.0 _ inv.1 miss,
        ap (λ s. s.lowest) w.struck-is ∙ lowest_no t xs ys i within long inv.0 _ inv.2 miss,
        omega (arith, ap (λ s. s.count) w.struck-is, inv.3),
      )
    ]
