use Rattle.std.proofs.Common.{◌≡◌, ℕ, ◌+◌, ◌<◌, List, [], ◌∷◌, ◌++◌, length, get_or, drop, decimal, refl, subst}
use Rattle.std.proofs.lemmas.List.{at_drop_more, at_drop_all}
use Rattle.report.specs.Printed.{figures}
use Rattle.report.proofs.Pages.{Half, half_start, half_room, half_more, half_end}
use Rattle.report.proofs.page.Page.figures.Goals as goal

-- the space, the number and the figures behind it
abbrev behind : List ℕ → ℕ → List ℕ
behind ns i = decimal (get_or ns i 0) ++ figures (drop (i + 1) ns)

next : (ns : List ℕ) (i : ℕ) → i < length ns → figures (drop i ns) ≡ (32 ∷ []) ++ behind ns i
next ns i h = at_drop_more figures ns i 0 h

pub loop-n-init : goal.loop-n-init
loop-n-init c = half_start c.args.self.now (figures c.args.numbers.now) c.requires

pub text-requires : goal.text-requires
text-requires c =
    let ns = c.args.numbers.now in
    let i = c.loop-n.n-index in
    half_room (32 ∷ []) (behind ns i) (next ns i c.loop-n-test.true) c.loop-n.invariant

pub number-requires : goal.number-requires
number-requires c =
    let ns = c.args.numbers.now in
    let i = c.loop-n.n-index in
    half_room (decimal (get_or ns i 0)) (figures (drop (i + 1) ns)) refl
    (half_more (32 ∷ []) (behind ns i) (next ns i c.loop-n-test.true) c.loop-n.invariant c.text.new.self c.text.ensures)

pub loop-n-preserved : goal.loop-n-preserved
loop-n-preserved c =
    let ns = c.args.numbers.now in
    let i = c.loop-n.n-index in
    half_more (decimal (get_or ns i 0)) (figures (drop (i + 1) ns)) refl
    (half_more (32 ∷ []) (behind ns i) (next ns i c.loop-n-test.true) c.loop-n.invariant c.text.new.self c.text.ensures) c.number.new.self c.number.ensures

pub returns : goal.returns
returns c =
    let ns = c.args.numbers.now in
    half_end (subst (Half c.args.self.now c.loop-n.self (figures ns)) (at_drop_all figures ns c.loop-n.n-index c.loop-n-test.false) c.loop-n.invariant)
