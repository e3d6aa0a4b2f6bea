use Rattle.std.proofs.Common.{◌≡◌, ◌+◌, ◌-◌, ◌<◌, length, get_or, ap, ◌∙◌, arith}
use Rattle.model.specs.Ranges.{blank}
use Rattle.planning.specs.Hyperperiods.{hyperperiod}
use Rattle.planning.specs.Places.{plan_set}
use Rattle.runs.specs.Histories.{start_of}
use Rattle.runs.specs.Jitter.{figures_of, no_track, track_figures}
use Rattle.runs.specs.Starts.{starts_of}
use Rattle.runs.proofs.Promised.{promise}
use Rattle.executive.specs.Slots.{tracks_of}
use Rattle.executive.specs.Views.{view_of}
use Rattle.executive.proofs.Outcomes.{line_is}
use Rattle.executive.proofs.Places.{line_at, track_at}
use Rattle.executive.proofs.SoundPlans.{sound_plan}
use Rattle.executive.proofs.Takings.{slot_count}
use Rattle.executive.proofs.executive.Executive.figures.Goals as goal

pub returns-clause-run : goal.returns-clause-run
returns-clause-run g c start h ran =
    let x = c.args.self.now in
    let ls = (plan_set x.plan).lines in
    let number = c.args.number in
    let i = number - 1 in
    let l = get_or ls i blank in
    let one = line_is number x.slots.list.items c.in_ok-slot.slot.now c.in_ok-slot.ensures in
    let in' : i < length ls = omega (arith, one.0, one.1, slot_count x) in
    let back : i + 1 ≡ number = omega (arith, one.0) in
    let told : c.figures.result ≡ track_figures l (get_or (tracks_of x.slots.list.items) i no_track) =
    grind (arith, one.2, line_at x.slots.list.items i, track_at x.slots.list.items i, x.lines) in
    (one.0, omega (arith, one.1, slot_count x), told ∙ (promise (g.R.Ranking.ahead x.ranking) (g.met.R.Ranking.lawful x.ranking) ls (hyperperiod ls) start h (view_of x) (sound_plan x.plan) ran).figured.figures i in' ∙ ap (λ k. figures_of l (starts_of l k (start_of start) h)) back)
