use Rattle.std.proofs.Common.{◌≡◌, ℕ, List, decimal, sym, ap, ◌∙◌, subst}
use Rattle.model.specs.declared.line.Line.{Line}
use Rattle.report.specs.Pages.{Room, Wrote}
use Rattle.report.specs.Printed.{row, kind_word, task_figures}
use Rattle.report.proofs.Pages.{room_first, room_rest, wrote_both}
use Rattle.report.proofs.lines.task_line.Goals as goal

-- a line behind its number
abbrev behind : Line → List ℕ
behind l = row (kind_word l.kind) (task_figures l)

-- from the word and the figures that the code hands on
is_behind : (l : Line) (word ns : List ℕ) → word ≡ kind_word l.kind → ns ≡ task_figures l → row word ns ≡ behind l
is_behind l word ns e f = ap (λ w. row w ns) e ∙ ap (row (kind_word l.kind)) f

pub number-requires : goal.number-requires
number-requires c = room_first c.args.page.now (decimal c.args.number) (behind c.args.line.now) c.requires

pub row-requires : goal.row-requires
row-requires c =
    let l = c.args.line.now in
    let q = c.number.new.self in
    subst (Room q) (sym (is_behind l c.kind_word.result.now c.task_figures.result c.kind_word.ensures c.task_figures.ensures))
    (room_rest c.args.page.now (decimal c.args.number) (behind l) c.requires q c.number.ensures)

pub returns : goal.returns
returns c =
    let p = c.args.page.now in
    let q = c.number.new.self in
    let r = c.row.new.self in
    let l = c.args.line.now in
    let digits = decimal c.args.number in
    wrote_both p digits (behind l) (room_first p digits (behind l) c.requires) q r c.number.ensures
    (subst (Wrote q r) (is_behind l c.kind_word.result.now c.task_figures.result c.kind_word.ensures c.task_figures.ensures) c.row.ensures)
