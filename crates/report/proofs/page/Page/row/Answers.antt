use Rattle.std.proofs.Common.{ℕ, List, [], ◌∷◌, ◌++◌, refl}
use Rattle.report.specs.declared.page.Page.{Page}
use Rattle.report.specs.Pages.{Room, Wrote}
use Rattle.report.specs.Printed.{figures, row}
use Rattle.report.proofs.Pages.{Half, half_start, half_room, half_more}
use Rattle.report.proofs.page.Page.row.Goals as goal

-- the row behind its word, and behind its figures
module _ (p : Page) (word ns : List ℕ) (room : Room p (row word ns)) where
  at_word : Half p p (row word ns) (row word ns)
  at_word = half_start p (row word ns) room

  at_figures : (q : Page) → Wrote p q word → Half p q (row word ns) (figures ns ++ 10 ∷ [])
  at_figures = half_more word (figures ns ++ 10 ∷ []) refl at_word

  at_end : (q r : Page) → Wrote p q word → Wrote q r (figures ns) → Half p r (row word ns) (10 ∷ [])
  at_end q r w v = half_more (figures ns) (10 ∷ []) refl (at_figures q w) r v

pub text-requires : goal.text-requires
text-requires c =
    let word = c.args.word.now in
    let ns = c.args.numbers.now in
    half_room word (figures ns ++ 10 ∷ []) refl (at_word c.args.self.now word ns c.requires)

pub figures-requires : goal.figures-requires
figures-requires c =
    let ns = c.args.numbers.now in
    half_room (figures ns) (10 ∷ []) refl (at_figures c.args.self.now c.args.word.now ns c.requires c.text.new.self c.text.ensures)

pub text-requires-2 : goal.text-requires-2
text-requires-2 c =
    (at_end c.args.self.now c.args.word.now c.args.numbers.now c.requires c.text.new.self c.figures.new.self c.text.ensures c.figures.ensures).room

pub returns : goal.returns
returns c =
    (at_end c.args.self.now c.args.word.now c.args.numbers.now c.requires c.text.new.self c.figures.new.self c.text.ensures c.figures.ensures).ends c.text-2.new.self c.text-2.ensures
