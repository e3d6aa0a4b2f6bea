use Rattle.std.proofs.Common.{ap, ◌∙◌, rules, tests}
use Rattle.std.specs.Option.{unwrap_or}
use Rattle.std.specs.Ordering.{max_by_ordering, nat_cmp}
use Rattle.std.proofs.lemmas.Iterator.{YieldsList-from_map, YieldsList-from_slice}
use Rattle.std.proofs.lemmas.Iterator.Consumers.{reduce_from_yields_List}
use Rattle.std.proofs.lemmas.List.Folds.{max_of_map}
use Rattle.model.specs.declared.line.Line.{Line}
use Rattle.executive.proofs.rehearsal.last_offset.Goals as goal

pub returns : goal.returns
returns c =
    let ls = c.args.lines.now in
    c.unwrap_or.ensures
    ∙ ap (λ o. unwrap_or o 0) (reduce_from_yields_List (λ p z. max_by_ordering (nat_cmp p z) p z) c.map.result c.max.result c.max.ensures.ran (YieldsList-from_map _ (λ (l : Line). l.offset) (YieldsList-from_slice ls (cc)) c.map.ensures.closure (λ x r q k. search (rules, tests))))
    ∙ max_of_map (λ (l : Line). l.offset) ls
