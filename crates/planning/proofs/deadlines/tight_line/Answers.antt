use Rattle.std.proofs.Common.{rules, ◌≡◌, ◌+◌, nat_lt, ap, ◌∙◌}
use Rattle.std.specs.Option.{option_map}
use Rattle.std.proofs.lemmas.Iterator.{YieldsList-from_slice}
use Rattle.std.proofs.lemmas.Iterator.Search.{position_from_yields_List}
use borrow.Author.Tests.{tests}
use Rattle.planning.proofs.Positions.{line_number}
use Rattle.planning.proofs.deadlines.tight_line.Goals as goal

pub returns : goal.returns
returns c =
    let ls = c.args.lines.now.items in
    let moved : c.map.result ≡ option_map (λ i. i + 1) c.position.result = search rules in
    moved
    ∙ ap (option_map (λ i. i + 1)) (position_from_yields_List (λ l. nat_lt l.deadline l.length) _ _ _ c.position.ensures.ran (YieldsList-from_slice ls cc) (λ x b q k. search (rules, tests)))
    ∙ line_number (λ l. nat_lt l.deadline l.length) ls
