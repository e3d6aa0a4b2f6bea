use Rattle.std.proofs.Common.{◌≡◌, ◌<◌, ◌≤◌, Ok, is_ok, sym, ap, ◌∙◌, subst, arith, Decides}
use Rattle.std.specs.List.{AllByRecursion}
use Rattle.model.specs.declared.fault.Fault.TheVariants.{HyperperiodTooLong}
use Rattle.planning.specs.Hyperperiods.{hyperperiod, limit, passes_at, IsHyperperiod}
use Rattle.planning.specs.Plans.{refuse}
use Rattle.planning.proofs.Multiples.{within_none, positive, is_hyperperiod}
use Rattle.planning.proofs.Planned.{planned_periods}
use Rattle.planning.proofs.plan.Plan.hyperperiod.Goals as goal

pub unwrap-requires : goal.unwrap-requires
unwrap-requires c =
    let p = c.args.self.now in
    (subst (λ ls. AllByRecursion (λ l. 0 < l.period) ls → Decides (is_ok c.hyperperiod.result) (hyperperiod ls ≤ limit)) c.lines.ensures c.hyperperiod.ensures.within (planned_periods p.tasks.lines p.planned)).1 p.short

pub returns : goal.returns
returns c =
    let p = c.args.self.now in
    let ls = p.tasks.lines in
    let periods = planned_periods ls p.planned in
    let none = within_none 1 1 ls (omega arith) periods p.short in
    let ok : Ok c.unwrap.result ≡ Ok (hyperperiod ls) =
    sym c.unwrap.ensures ∙ c.hyperperiod.ensures.value ∙ ap (λ xs. refuse (passes_at 1 1 xs) HyperperiodTooLong (Ok (hyperperiod xs))) c.lines.ensures ∙ ap (λ o. refuse o HyperperiodTooLong (Ok (hyperperiod ls))) none in
    let value : c.unwrap.result ≡ hyperperiod ls = cc in
    let low = positive 1 ls (omega arith) periods in
    let high = p.short in
    record { value = value; range = (omega arith, omega arith); least = subst (IsHyperperiod ls) (sym value) (is_hyperperiod ls) }
