use Rattle.std.proofs.Common.{◌≡◌, ◌+◌, Some, None, Ok, sym, refl, ap, ◌∙◌, arith}
use Rattle.std.proofs.lemmas.List.{at_drop_all}
use Rattle.std.proofs.lemmas.Option.{none-some}
use Rattle.model.specs.declared.fault.Fault.TheVariants.{HyperperiodTooLong}
use Rattle.planning.specs.Hyperperiods.{hyperperiod, passes_at}
use Rattle.planning.specs.Plans.{refuse}
use Rattle.planning.proofs.Multiples.{hyper_from, is_hyperperiod, none_within, within_none, passes_first, goes_past, stays_within}
use Rattle.planning.proofs.hyperperiod.hyperperiod.Goals as goal

pub returns-then-multiple-gt-LIMIT : goal.returns-then-multiple-gt-LIMIT
returns-then-multiple-gt-LIMIT c =
    let ls = c.args.lines.now in
    let i = c.loop-i.i in
    let some : passes_at 1 1 ls ≡ Some (i + 1) = sym c.loop-i.invariant.0 ∙ goes_past ls i c.loop-i.h c.lcm-multiple.result _ c.loop-i-test.true c.lcm-multiple.ensures.value c.if-multiple-gt-LIMIT.true in
    record {
      value = sym (ap (λ o. refuse o HyperperiodTooLong (Ok (hyperperiod ls))) some);
      least = is_hyperperiod ls;
      within = λ positive. (λ ok. cc, λ short. absurd (none-some (i + 1) (sym (within_none 1 1 ls (omega arith) positive short) ∙ some)));
      first = λ n e. let same : i + 1 ≡ n = cc in passes_first ls n (some ∙ ap Some same);
    }

pub loop-i-preserved : goal.loop-i-preserved
loop-i-preserved c =
    let w = stays_within c.args.lines.now c.loop-i.i c.loop-i.h c.lcm-multiple.result _ c.loop-i-test.true c.lcm-multiple.ensures.value c.if-multiple-gt-LIMIT.false in
    (w.0 ∙ c.loop-i.invariant.0, w.1 ∙ c.loop-i.invariant.1)

pub returns : goal.returns
returns c =
    let ls = c.args.lines.now in
    let i = c.loop-i.i in
    let all = c.loop-i-test.false in
    let h : c.loop-i.h ≡ hyperperiod ls = sym (at_drop_all (hyper_from c.loop-i.h) ls i all) ∙ c.loop-i.invariant.1 in
    let none : passes_at 1 1 ls ≡ None = sym c.loop-i.invariant.0 ∙ at_drop_all (passes_at (i + 1) c.loop-i.h) ls i all in
    record {
      value = ap Ok h ∙ sym (ap (λ o. refuse o HyperperiodTooLong (Ok (hyperperiod ls))) none);
      least = is_hyperperiod ls;
      within = λ positive. (λ _. none_within 1 1 ls (omega arith) none, λ _. refl);
      first = λ n e. cc;
    }
