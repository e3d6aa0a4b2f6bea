use Rattle.std.proofs.Common.{◌≡◌, not, sym, subst, ◌∙◌, MatchOption, rules}
use Rattle.std.proofs.lemmas.Iterator.{YieldsList-from_slice, YieldsList-from_map}
use Rattle.std.proofs.lemmas.Iterator.Adapters.{option_map_id}
use Rattle.std.proofs.lemmas.Iterator.Consumers.{YieldsList-at, YieldsList-from_filter, min_from_yields_List}
use borrow.Author.Tests.{tests}
use Rattle.model.specs.Ranges.{is_regular}
use Rattle.planning.specs.Deadlines.{least_ordinary, IsLeastOrdinary, NoneOrdinary}
use Rattle.planning.proofs.LeastDeadline.{least_is}
use Rattle.planning.proofs.deadlines.least_ordinary.Goals as goal

pub returns-clause-least : goal.returns-clause-least
returns-clause-least c =
    let ls = c.args.lines.now in
    let value : c.min.result ≡ least_ordinary ls =
    sym (option_map_id c.min.result)
    ∙ min_from_yields_List c.map.result c.min.result c.min.ensures.ran
    (YieldsList-from_map _ (λ l. l.deadline)
    (YieldsList-at c.map.ensures.source (YieldsList-from_filter _ (λ l. not (is_regular l)) (YieldsList-at c.filter.ensures.source (YieldsList-from_slice ls cc)) c.filter.ensures.closure (λ x b q k. search (rules, tests))))
    c.map.ensures.closure (λ x r q k. search rules)) in
    subst (λ o. MatchOption o (NoneOrdinary ls) (IsLeastOrdinary ls)) (sym value) (least_is ls)
