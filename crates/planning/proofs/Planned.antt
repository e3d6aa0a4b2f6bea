-- What planning makes of a sheet's lines is a plan, with the first placing.
use Rattle.std.proofs.Common.{◌≡◌, ◌<◌, ◌≤◌, List, Ok, length, sym, ap, subst, arith}
use Rattle.std.proofs.ByRecursion.{All-from_get_or}
use Rattle.std.proofs.lemmas.List.{length-map}
use Rattle.std.specs.List.{AllByRecursion}
use Rattle.model.specs.Ranges.{Ranged, AllRanged, blank, regulars}
use Rattle.model.specs.TaskSets.{TaskSet}
use Rattle.model.specs.declared.line.Line.{Line}
use Rattle.windows.specs.Windows.{AllApart}
use Rattle.planning.proofs.Kept.{hyperperiod_kept, regulars_kept, all_planned, all_apart}
use Rattle.planning.proofs.Multiples.{none_within}
use Rattle.planning.proofs.Placings.{found_is_least}
use Rattle.planning.proofs.Refusals.{passed}
use Rattle.planning.specs.Deadlines.{least_ordinary, changed}
use Rattle.planning.specs.Hyperperiods.{hyperperiod, limit}
use Rattle.planning.specs.Plans.{AllPlanned, FirstPlaced, plan_of}

pub all_ranged : (ls : List Line) → AllRanged ls → AllByRecursion Ranged ls
all_ranged ls a = All-from_get_or Ranged ls blank a

-- what a plan's type asks of its lines
pub record IsPlan (ls : List Line) : Type 0 where
  pub few : length ls ≤ 24
  pub planned : AllPlanned ls
  pub limited : regulars ls ≤ 8
  pub apart : AllApart ls
  pub short : hyperperiod ls ≤ limit

module _ (s t : TaskSet) (ranged : AllRanged s.lines) (made : plan_of s ≡ Ok t) where
  pub first_placed : FirstPlaced s.policy s.lines t.lines
  first_placed =
      let p = passed s.policy s.lines t made in
      (p.q, found_is_least s.lines (all_ranged s.lines ranged) p.q p.placed, ap (λ t. t.lines) p.is)

  pub is_plan : length s.lines ≤ 24 → regulars s.lines ≤ 8 → IsPlan t.lines
  is_plan few limited =
      let ls = s.lines in
      let p = passed s.policy ls t made in
      let a = all_ranged ls ranged in
      let h = (found_is_least ls a p.q p.placed).is in
      let m = least_ordinary p.q in
      let whole = h.whole in
      let long = length-map p.q (changed s.policy m) in
      let count = regulars_kept s.policy m ls p.q h in
      let hyper = hyperperiod_kept s.policy m 1 ls p.q h in
      let within = none_within 1 1 ls (omega arith) p.short in
      subst IsPlan (sym (ap (λ t. t.lines) p.is)) (record {
        few = omega arith;
        planned = all_planned s.policy m ls p.q a h p.loose;
        limited = omega arith;
        apart = all_apart s.policy m ls p.q a h;
        short = omega arith;
      })

pub planned_periods : (ls : List Line) → AllPlanned ls → AllByRecursion (λ l. 0 < l.period) ls
planned_periods ls a = All-from_get_or (λ l. 0 < l.period) ls blank (λ i h. let r = (a i h).0 in omega (arith, r.1, r.2, r.3))
