-- A plan that passes its rehearsal: every run stays under the rehearsal's, folded back at the second
-- mark, so that no pending job ever stands at its deadline.
use Rattle.std.proofs.Common.{◌≡◌, ℕ, suc, ◌+◌, ◌-◌, ◌*◌, ◌/◌, ◌%◌, ◌^◌, ◌<◌, ◌≤◌, Bool, false, ◌⊎◌, List, [], ◌∷◌, length, Ok, count_by, sym, refl, ap, ◌∙◌, subst, inl, inr, mod-lt, mul_assoc, add-mul, div-add-mod', arith, rules}
use Rattle.std.proofs.lemmas.Bool.{cases_lt}
use Rattle.model.specs.Rankings.{Lawful}
use Rattle.model.specs.declared.job.Job.{Job}
use Rattle.model.specs.declared.line.Line.{Line}
use Rattle.runs.specs.declared.task.Task.{Task}
use Rattle.runs.specs.Tasks.{due, releases_at, arrives, rested, new_tasks, ended_early, resumed}
use Rattle.runs.specs.Steps.{stepped}
use Rattle.runs.specs.Calls.{State, on_line}
use Rattle.runs.specs.Histories.{History, Ran, start_of, line_in}
use Rattle.runs.specs.Promise.{SoundPlan}
use Rattle.runs.specs.Rehearsals.{last_offset, rehearsal_of}
use Rattle.runs.proofs.Basics.{Basic, formed, basics}
use Rattle.runs.proofs.Dominance.{Dom, Lowered, on_line_dom, ended_lowers, rested_lowers, resumed_lowers, step_dom}
use Rattle.runs.proofs.Folding.{offset_below, length_state, state_at_lem, state_well_formed, state_arrives, state_clear, fold_dom}
use Rattle.runs.proofs.Inductions.{every_run}
use Rattle.runs.proofs.Latest.{release_again}
use Rattle.runs.specs.RehearsalRules.{state_at}
use Rattle.runs.proofs.NewTasks.{length_new_tasks, new_tasks_at}
use Rattle.runs.proofs.Pointwise.{task_of}

-- Clock t of a run is instant τ of the rehearsal, a whole number of hyperperiods m before.
pub record Folded (ls : List Line) (m t : ℕ) : Type 0 where
  pub τ : ℕ
  pub σ : ℕ
  pub sum : t ≡ τ + σ
  pub inside : τ < last_offset ls + m + m
  pub turns : (c : ℕ) × (σ ≡ c * m)
  pub back : (σ ≡ 0) ⊎ (last_offset ls + m ≤ τ)

-- The lines xs at clock t are under those of the rehearsal.
pub record Shadowed (ahead : Job → Job → Bool) (ls : List Line) (m t : ℕ) (xs : List Task) : Type 0 where
  pub fold : Folded ls m t
  pub dom : Dom fold.σ xs (state_at ahead ls fold.τ)

folded : (ls : List Line) (m t : ℕ) → 0 < m → Folded ls m t
folded ls m t p =
    let mark = last_offset ls + m in
    let gap = t - mark in
    elim (cases_lt t (mark + m)) [
      | inl low ↦ record { τ = t; σ = 0; sum = omega arith; inside = low; turns = (0, omega arith); back = inl refl }
      | inr high ↦ record { τ = mark + gap % m; σ = gap / m * m; sum = omega (arith, div-add-mod' gap m); inside = omega (arith, mod-lt gap p); turns = (gap / m, refl); back = inr (omega arith) }
    ]

none_counted : (p : Task → Bool) (xs : List Task) → ((i : ℕ) → i < length xs → p (task_of xs i) ≡ false) → count_by p xs ≡ 0
none_counted p [] none = refl
none_counted p (x ∷ xs) none = grind (arith, none_counted p xs (λ i h. none (suc i) (omega arith)), none 0 (omega arith))

module _ (ahead : Job → Job → Bool) (lawful : Lawful ahead) (ls : List Line) (m : ℕ) (plan : SoundPlan ls m) (ok : rehearsal_of ahead m ls ≡ Ok tt) where
  -- before the first step nothing is pending
  new_shadowed : (t : ℕ) → Shadowed ahead ls m t (new_tasks 1 ls)
  new_shadowed t = grind (arith, folded, length_new_tasks, length_state, state_at_lem, new_tasks_at)

  -- the same lines have releases at both instants
  releases_both : (t i : ℕ) (f : Folded ls m t) → i < length ls → releases_at (line_in ls i) t ≡ releases_at (line_in ls i) f.τ
  releases_both t i f h =
      let l = line_in ls i in
      let n = plan.whole i h in
      let c = f.turns in
      elim f.back [
        | inl none ↦ ap (releases_at l) (omega (arith, f.sum))
        | inr past ↦ ap (releases_at l) f.sum ∙ release_again l f.τ f.σ (c.0 * n.0) (omega (arith, offset_below ls i h)) (c.1 ∙ ap (λ x. c.0 * x) n.1 ∙ sym (mul_assoc c.0 n.0 l.period))
      ]

  -- one unit more, and back to the first mark from the second
  unit_more : (t : ℕ) (xs ys : List Task) (f : Folded ls m t) → ys ≡ state_at ahead ls (suc f.τ) → Dom f.σ xs ys → Shadowed ahead ls m (t + 1) xs
  unit_more t xs ys f e dom =
      elim (cases_lt (suc f.τ) (last_offset ls + m + m)) [
        | inl low ↦ record {
          fold = record { τ = suc f.τ; σ = f.σ; sum = omega (arith, f.sum); inside = low; turns = f.turns; back = grind arith };
          dom = subst (Dom f.σ xs) e dom;
        }
        | inr high ↦
            let end : suc f.τ ≡ last_offset ls + m + m = omega (arith, f.inside) in
            record {
              fold = record { τ = last_offset ls + m; σ = f.σ + m; sum = omega (arith, f.sum, end); inside = omega (arith, plan.some); turns = (f.turns.0 + 1, omega (arith, f.turns.1, add-mul f.turns.0 1 m)); back = inr (omega arith) };
              dom = fold_dom ahead ls m plan ok f.σ xs (subst (Dom f.σ xs) (e ∙ ap (state_at ahead ls) end) dom);
            }
      ]

  module _ (start : ℕ) (h : History) (s : State) (b : Basic ls start h s) (shadow : Shadowed ahead ls m s.clock s.tasks) where
    -- no line is due
    shadow_clear : (i : ℕ) → i < length ls → due s.clock (task_of s.tasks i) ≡ false
    shadow_clear i p =
        let f = shadow.fold in
        grind (arith, state_clear ahead ls m plan ok f.τ i)

    step_shadowed : s.clock < 10 ^ 12 → Shadowed ahead ls m (s.clock + 1) (stepped ahead s.clock s.tasks)
    step_shadowed soon =
        let f = shadow.fold in
        let low : f.τ ≤ 10 ^ 12 = omega (arith, f.sum, b.bounded) in
        let awake : (i : ℕ) → i < length ls → releases_at (task_of s.tasks i).line s.clock ≡ arrives f.τ (task_of (state_at ahead ls f.τ) i) = λ i p. grind (arith, releases_both s.clock i f p, state_arrives ahead ls m plan f.τ i p) in
        unit_more s.clock (stepped ahead s.clock s.tasks) (stepped ahead f.τ (state_at ahead ls f.τ)) f refl
        (step_dom ahead lawful s.clock f.τ f.σ s.tasks (state_at ahead ls f.τ) f.sum soon (formed ls m start h s plan b) (state_well_formed ahead ls m plan f.τ low) shadow.dom
        (λ i p. state_clear ahead ls m plan ok f.τ i low f.inside (omega (arith, length_state ahead ls f.τ)))
        (λ i p. grind arith) (λ i p. grind arith))

    on_line_shadowed : (n : ℕ) (f : Task → Task) → ((x : Task) → Lowered x (f x)) → Shadowed ahead ls m s.clock (on_line n f s.tasks)
    on_line_shadowed n f low = record { fold = shadow.fold; dom = on_line_dom shadow.fold.σ n f low s.tasks _ shadow.dom }

  module _ (start : ℕ) where
    basic : (h : History) (s : State) → Ran ahead ls start h s → Basic ls (start_of start) h s
    basic = basics ahead lawful ls m start plan

    shadowed : (h : History) (s : State) → Ran ahead ls start h s → Shadowed ahead ls m s.clock s.tasks
    shadowed = every_run ahead ls start (λ _ s. Shadowed ahead ls m s.clock s.tasks) (record {
      first = new_shadowed (start_of start);
      refused = λ h s ran now c f. now;
      unit = λ h s ran now soon _. step_shadowed (start_of start) h s (basic h s ran) now soon;
      early = λ h s ran now l _. on_line_shadowed (start_of start) h s (basic h s ran) now l ended_early ended_lowers;
      rest = λ h s ran now n _. on_line_shadowed (start_of start) h s (basic h s ran) now n rested rested_lowers;
      resume = λ h s ran now n _. on_line_shadowed (start_of start) h s (basic h s ran) now n resumed resumed_lowers;
    })

    module _ (h : History) (s : State) (ran : Ran ahead ls start h s) where
      clear : (i : ℕ) → i < length ls → due s.clock (task_of s.tasks i) ≡ false
      clear = search (rules, shadow_clear, basic, shadowed)

      -- No pending job stands at its deadline, or past it.
      pub early : (i : ℕ) → i < length ls → 0 < (task_of s.tasks i).left → s.clock < (task_of s.tasks i).release + (line_in ls i).deadline
      early i p some = grind (arith, (basic h s ran).each i p, clear i p)

      pub none_due : count_by (due s.clock) s.tasks ≡ 0
      none_due = grind (arith, none_counted, clear, basic)
