use Rattle.std.proofs.Common.{◌-◌, get_or, sym, ◌∙◌, arith}
use Rattle.std.proofs.lemmas.List.{at_drop_more, at_drop_all}
use Rattle.sheet.specs.Reading.{value_from}
use Rattle.sheet.proofs.Digits.{digit_at, value_grows, seven_fit}
use Rattle.sheet.proofs.values.value_of.Goals as goal

pub overflow_mul-n : goal.overflow_mul-n
overflow_mul-n c = omega (arith, seven_fit c.loop-b.n c.loop-b.b-index (omega (arith, c.requires.0)) c.loop-b.invariant.2)

pub overflow_sub-n : goal.overflow_sub-n
overflow_sub-n c = (digit_at c.args.digits.now c.loop-b.b-index c.loop-b-test.true c.loop-b.invariant.1).0

pub overflow_add-n : goal.overflow_add-n
overflow_add-n c =
    let d = digit_at c.args.digits.now c.loop-b.b-index c.loop-b-test.true c.loop-b.invariant.1 in
    omega (arith, d.1, seven_fit c.loop-b.n c.loop-b.b-index (omega (arith, c.requires.0)) c.loop-b.invariant.2)

pub loop-b-preserved : goal.loop-b-preserved
loop-b-preserved c =
    let xs = c.args.digits.now in
    let i = c.loop-b.b-index in
    let n = c.loop-b.n in
    let d = digit_at xs i c.loop-b-test.true c.loop-b.invariant.1 in
    (sym (at_drop_more (value_from n) xs i 0 c.loop-b-test.true) ∙ c.loop-b.invariant.0, d.2, value_grows n (get_or xs i 0 - 48) i c.loop-b.invariant.2 (omega (arith, d.1)))

pub returns : goal.returns
returns c = sym (at_drop_all (value_from c.loop-b.n) c.args.digits.now c.loop-b.b-index c.loop-b-test.false) ∙ c.loop-b.invariant.0
