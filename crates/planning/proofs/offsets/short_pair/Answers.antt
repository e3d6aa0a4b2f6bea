use Rattle.std.proofs.Common.{◌≡◌, ◌+◌, true, false, not, get_or, length, Some, ◌∷◌, [], sym, ap, ◌∙◌, add-zero, arith, length-append}
use Rattle.std.proofs.lemmas.Bool.{and_left, and_right}
use Rattle.std.proofs.lemmas.Iterator.Consumers.{YieldsList-at}
use Rattle.model.specs.Ranges.{blank}
use Rattle.planning.proofs.PairLoops.{lower_more, none_left, passed_over, hit, numbered, this_line, at_end}
use Rattle.planning.proofs.ShortPairs.{never_apart}
use Rattle.planning.specs.Offsets.{short_pair}
use Rattle.planning.proofs.offsets.short_pair.Goals as goal
use Rattle.planning.proofs.offsets.short_pair.Goals.{else-is_regular-via-then-is_regular+else-not-roomy, else-is_regular-via-else-is_regular}

pub loop-i-preserved-then-not-is_regular : goal.loop-i-preserved-then-not-is_regular
loop-i-preserved-then-not-is_regular c = lower_more c.args.lines.now c.loop-i.i _ c.loop-i-test.true false c.if-not-is_regular.ensures ∙ c.loop-i.invariant

pub loop-j-init : goal.loop-j-init
loop-j-init c = simp add-zero (lower_more c.args.lines.now c.loop-i.i _ c.loop-i-test.true true c.if-not-is_regular.ensures ∙ c.loop-i.invariant)

pub loop-j-preserved : goal.loop-j-preserved
loop-j-preserved c =
    let ls = c.args.lines.now in
    let i = c.loop-i.i in
    let a = get_or ls i blank in
    let xs = c.loop-j.yielded in
    let road = YieldsList-at c.into_iter-j-iterator.ensures.into_iter_gives (numbered ls (i + 1) _ _ _ (cc) c.enumerate.ensures.source c.enumerate.ensures.count c.skip-j-items.ensures.source c.skip-j-items.ensures.count) in
    let w = this_line ls (i + 1) road xs c.loop-j.j-iterator c.loop-j.yielded_by c.next.result c.next.new.self (c.in-Some.j, c.in-Some.b) c.in-Some.is c.next.ensures.steps in
    let more = length-append xs ((c.in-Some.j, c.in-Some.b) ∷ []) in
    elim c.else-is_regular.branch [
      | else-is_regular-via-then-is_regular+else-not-roomy v ↦
          passed_over a ls (i + 1) (i + 1 + length xs) c.in-Some.b.now w.0 w.2 _ (omega arith) (and_right _ _ (ap not (sym v.if-not-roomy.ensures.value))) ∙ c.loop-j.invariant
      | else-is_regular-via-else-is_regular v ↦
          passed_over a ls (i + 1) (i + 1 + length xs) c.in-Some.b.now w.0 w.2 _ (omega arith) (and_left _ _ (sym v.if-is_regular.ensures)) ∙ c.loop-j.invariant
    ]

pub loop-i-preserved : goal.loop-i-preserved
loop-i-preserved c =
    let ls = c.args.lines.now in
    let i = c.loop-i.i in
    let xs = c.loop-j.yielded in
    let road = YieldsList-at c.into_iter-j-iterator.ensures.into_iter_gives (numbered ls (i + 1) _ _ _ (cc) c.enumerate.ensures.source c.enumerate.ensures.count c.skip-j-items.ensures.source c.skip-j-items.ensures.count) in
    sym (none_left (get_or ls i blank) ls (i + 1) (i + 1 + length xs) (at_end ls (i + 1) road xs c.loop-j.j-iterator c.loop-j.yielded_by c.next.result c.next.new.self c.in-None.is c.next.ensures.steps)) ∙ c.loop-j.invariant

pub returns-then-not-roomy : goal.returns-then-not-roomy
returns-then-not-roomy c =
    let ls = c.args.lines.now in
    let i = c.loop-i.i in
    let xs = c.loop-j.yielded in
    let road = YieldsList-at c.into_iter-j-iterator.ensures.into_iter_gives (numbered ls (i + 1) _ _ _ (cc) c.enumerate.ensures.source c.enumerate.ensures.count c.skip-j-items.ensures.source c.skip-j-items.ensures.count) in
    let w = this_line ls (i + 1) road xs c.loop-j.j-iterator c.loop-j.yielded_by c.next.result c.next.new.self (c.in-Some.j, c.in-Some.b) c.in-Some.is c.next.ensures.steps in
    let found : Some (i + 1, c.in-Some.j + 1) ≡ short_pair 1 ls =
    sym (hit (get_or ls i blank) ls (i + 1) (i + 1 + length xs) c.in-Some.b.now w.0 w.2 c.in-Some.j w.1 (sym c.if-is_regular.ensures) (sym c.if-not-roomy.ensures.value)) ∙ c.loop-j.invariant in
    record { first = found; never = λ pair e. never_apart ls pair (sym found ∙ e) }
