use Rattle.std.proofs.Common.{◌≡◌, ℕ, ◌<◌, List, ◌∷◌, ◌++◌, length, Some, None, Option, sym, ap, ◌∙◌}
use Rattle.std.proofs.lemmas.List.{take-append-drop}
use Rattle.std.specs.Borrow.{Bor}
use Rattle.std.specs.Option.{IfSome, MatchOption}
use Rattle.std.specs.List.{IsSplitAt}
use Rattle.script.specs.Batches.{IsRecord}
use Rattle.script.proofs.batch.next_record.Goals as goal

-- what stands behind the header is cut in two
cut : (batch header texts : List ℕ) (mid : ℕ) → batch ≡ header ++ 10 ∷ texts → (r : Option (Bor (List ℕ) × Bor (List ℕ)))
    → MatchOption r (length texts < mid) (λ p. IsSplitAt texts mid p.0.now p.1.now) → IfSome r (λ p. IsRecord batch p.0.now p.1.now)
cut batch header texts mid e None m = tt
cut batch header texts mid e (Some p) m =
    let parts : texts ≡ p.0.now ++ p.1.now = rw (m.1, m.2) (sym (take-append-drop mid texts)) in
    (header, e ∙ ap (λ t. header ++ 10 ∷ t) parts)

pub returns : goal.returns
returns c = cut c.args.batch.now c.in_ok-header.header.now c.in_ok-header.texts.now c.in_ok-length_of.field-0 (c.in_ok-header.ensures.0) c.split_at_checked.result c.split_at_checked.ensures.cases
