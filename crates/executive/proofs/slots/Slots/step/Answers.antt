use Rattle.std.proofs.Common.{map, sym, ap, ◌∙◌, subst}
use Rattle.std.specs.Option.{option_map}
use Rattle.runs.specs.Steps.{arrived_all, first_of, line_of, number_of, unit_for, ToFirst}
use Rattle.runs.specs.Tasks.{served}
use Rattle.executive.specs.Slots.{tasks_of, tracks_of}
use Rattle.executive.proofs.Firsts.{step_to_first}
use Rattle.executive.proofs.Places.{arrived_tasks, arrived_tracks}
use Rattle.executive.proofs.slots.Slots.step.Goals as goal

pub returns-clause-tasks : goal.returns-clause-tasks
returns-clause-tasks g c =
    let s = c.args.self.now in
    let ah = g.R.Ranking.ahead c.args.ranking.now in
    c.give_first-unit.ensures.tasks ∙ ap (λ ts. map (served (number_of (first_of ah ts))) ts) (ap tasks_of c.arrive_all-struck.ensures.slots ∙ arrived_tasks s.clock s.list.items)

pub returns-clause-tracks : goal.returns-clause-tracks
returns-clause-tracks g c =
    let s = c.args.self.now in
    c.give_first-unit.ensures.tracks ∙ ap tracks_of c.arrive_all-struck.ensures.slots ∙ arrived_tracks s.clock s.list.items

pub returns-clause-first : goal.returns-clause-first
returns-clause-first g c =
    let s = c.args.self.now in
    let ah = g.R.Ranking.ahead c.args.ranking.now in
    let n = c.arrive_all-struck.result.count in
    subst (λ u. ToFirst ah (arrived_all s.clock (tasks_of s.list.items)) (line_of (record { unit = u; struck = n })))
    (sym (c.give_first-unit.ensures.unit ∙ ap (λ ts. option_map unit_for (first_of ah ts)) (ap tasks_of c.arrive_all-struck.ensures.slots ∙ arrived_tasks s.clock s.list.items)))
    (step_to_first ah (g.met.R.Ranking.lawful c.args.ranking.now) s c.requires n)
