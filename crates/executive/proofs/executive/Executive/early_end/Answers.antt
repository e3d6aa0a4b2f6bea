use Rattle.std.proofs.Common.{refl, ◌∙◌, arith}
use Rattle.runs.specs.declared.call.Call.TheVariants.{EarlyEnd}
use Rattle.executive.specs.declared.between.Change.TheVariants.{EndEarly}
use Rattle.executive.proofs.Outcomes.{end_refused, ends_running}
use Rattle.executive.proofs.Places.{length_tasks}
use Rattle.executive.proofs.Standings.{still_ended}
use Rattle.executive.proofs.Takings.{changed_lines, changed_tracked, took}
use Rattle.executive.proofs.executive.Executive.early_end.Goals as goal

pub change-requires-clause-line : goal.change-requires-clause-line
change-requires-clause-line g c =
    let x = c.args.self.now in
    let at = x.running c.in-Some.line (ends_running x.last c.in-Some.line c.in-Some.ensures.ends).0 in
    (at.0, omega (arith, at.1, length_tasks x.slots.list.items))

pub invariant_of-self : goal.invariant_of-self
invariant_of-self g c =
    let x = c.args.self.now in
    let l = c.in-Some.line in
    let now = c.change.ensures in
    record {
      lines = changed_lines x l EndEarly c.change.new.self now.clock now.tasks now.tracks;
      running = still_ended c.last_after.new.last l _ (c.in-Some.ensures.last ∙ (ends_running x.last l c.in-Some.ensures.ends).1);
      tracked = changed_tracked x l EndEarly c.change.new.self now.clock now.tasks now.tracks;
    }

pub returns-in-Some : goal.returns-in-Some
returns-in-Some g c =
    let x = c.args.self.now in
    let last = ends_running x.last c.in-Some.line c.in-Some.ensures.ends in
    took (g.R.Ranking.ahead x.ranking) (g.met.R.Ranking.lawful x.ranking) x _ EarlyEnd _ (grind (arith, last)) refl refl

pub returns-in-None : goal.returns-in-None
returns-in-None g c =
    let x = c.args.self.now in
    took (g.R.Ranking.ahead x.ranking) (g.met.R.Ranking.lawful x.ranking) x _ EarlyEnd _ (grind (arith, end_refused)) refl refl
