use Rattle.std.proofs.Common.{◌≡◌, length, get_or, sym, ap, ◌∙◌, subst, arith}
use Rattle.planning.specs.Hyperperiods.{hyperperiod}
use Rattle.planning.specs.Places.{plan_set}
use Rattle.std.specs.List.{filter_map}
use Rattle.entries.specs.Entries.{first_entry}
use Rattle.runs.specs.Histories.{start_of}
use Rattle.runs.specs.Jitter.{no_track}
use Rattle.runs.proofs.Promised.{promise}
use Rattle.executive.specs.Questions.{largest_deviation, worse, worst_of, IsWorstOf, WorstOfRun}
use Rattle.executive.specs.Slots.{tracks_of}
use Rattle.executive.specs.Views.{view_of}
use Rattle.executive.proofs.Places.{length_tracks}
use Rattle.executive.proofs.SoundPlans.{sound_plan}
use Rattle.executive.proofs.Takings.{slot_count}
use Rattle.executive.proofs.WorstLines.{deviating_slots, worst_is_first, worst_same}
use Rattle.executive.proofs.executive.Executive.worst.Goals as goal

pub returns : goal.returns
returns g c =
    let x = c.args.self.now in
    let ks = tracks_of x.slots.list.items in
    let ls = (plan_set x.plan).lines in
    let value : c.first_candidate.result ≡ worst_of (view_of x) = c.first_candidate.ensures ∙ ap (λ zs. first_entry worse (filter_map (λ y. largest_deviation y.task.number y.track) zs)) c.as_slice.ensures.value ∙ ap (first_entry worse) (deviating_slots 1 x.slots.list.items (λ i p. (x.slots.kept i p).0 ∙ omega arith)) in
    record {
      value = value;
      first = subst (IsWorstOf (view_of x)) (sym value) (worst_is_first (view_of x));
      run = λ start h ran.
          let shown = (promise (g.R.Ranking.ahead x.ranking) (g.met.R.Ranking.lawful x.ranking) ls (hyperperiod ls) start h (view_of x) (sound_plan x.plan) ran).figured.figures in
          subst (WorstOfRun ls (start_of start) h) (sym value)
          (worst_same (length ks) (length ls) (λ i. (get_or ks i no_track).number) (λ i. (get_or ks i no_track).largest) _ _ (length_tracks x.slots.list.items ∙ slot_count x)
          (λ i p. ap (λ f. f.number) (shown i p)) (λ i p. ap (λ f. f.largest) (shown i p)) (worst_of (view_of x)) (worst_is_first (view_of x)));
    }
