use Rattle.std.proofs.Common.{◌<◌, ◌≤◌, min, length, get_or, ◌∙◌, subst, arith}
use Rattle.std.proofs.lemmas.List.{drop-set-lt, get_or-take, length-take-le}
use Rattle.runs.specs.Histories.{RanFrom}
use Rattle.runs.specs.declared.call.Call.TheVariants.{Step}
use Rattle.executive.specs.Batches.{events_of}
use Rattle.executive.specs.Views.{Took, view_of}
use Rattle.executive.proofs.Batches.{all_events, run_more, took_each}
use Rattle.executive.proofs.executive.Executive.take_each.Goals as goal

pub loop-i-preserved : goal.loop-i-preserved
loop-i-preserved g c =
    let cs = c.args.calls.now in
    let rs = c.loop-i.replies in
    let n = c.min-made.result in
    let i = c.loop-i.i in
    let x = c.loop-i.self in
    let y = c.take.new.self in
    let told = c.take.result in
    let ah = g.R.Ranking.ahead c.args.self.now.ranking in
    let inv = c.loop-i.invariant in
    let within : i < n = omega (arith, c.loop-i-test.true, length-take-le n cs (omega (arith, c.min-made.ensures))) in
    let took : Took ah x y (get_or cs i Step) told = subst (λ q. Took (g.R.Ranking.ahead q) x y (get_or cs i Step) told) inv.2
    (subst (λ k. Took (g.R.Ranking.ahead x.ranking) x y k told) (get_or-take n cs i Step within) c.take.ensures) in (
      drop-set-lt n rs i told within ∙ inv.0,
      took.plan ∙ inv.1,
      took.ranking ∙ inv.2,
      run_more ah x y cs rs i told (view_of c.args.self.now) (omega (arith, within, c.min-made.ensures)) (omega (arith, within, c.min-made.ensures, c.loop-i.auto.replies)) inv.3 took,
    )

pub returns : goal.returns
returns g c =
    let cs = c.args.calls.now in
    let rs = c.loop-i.replies in
    let n = c.min-made.result in
    let i = c.loop-i.i in
    let x = c.args.self.now in
    let y = c.loop-i.self in
    let ah = g.R.Ranking.ahead x.ranking in
    let inv = c.loop-i.invariant in
    let whole : min (length cs) (length rs) ≤ i = omega (arith, c.min-made.ensures, c.loop-i-test.false, length-take-le n cs (omega (arith, c.min-made.ensures)), c.loop-i.auto.replies) in
    record {
      count = c.min-made.ensures;
      behind = inv.0;
      took = took_each ah x y (g.met.R.Ranking.lawful x.ranking) (events_of cs rs) (subst (λ h. RanFrom ah (view_of x) h (view_of y)) (all_events i cs rs whole) inv.3) inv.1 inv.2;
    }
