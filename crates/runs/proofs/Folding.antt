-- The rehearsal's run by its lines: from the first mark to the second every release moves on by a
-- hyperperiod, so that what is under it at the second mark is under it at the first.
use Rattle.std.proofs.Common.{inl, inr, ◌≡◌, ℕ, zero, suc, ◌+◌, ◌^◌, ◌<◌, ◌≤◌, Bool, true, false, ◌⊎◌, List, [], ◌∷◌, length, Ok, sym, refl, ap, ◌∙◌, subst, arith, fold, max, rules}
use Rattle.std.proofs.ByRecursion.{All-get_or}
use Rattle.std.proofs.lemmas.Grind.{common_steps}
use Rattle.model.specs.Ranges.{blank}
use Rattle.model.specs.declared.job.Job.{Job}
use Rattle.model.specs.declared.line.Line.{Line}
use Rattle.runs.specs.declared.task.Task.{Task}
use Rattle.runs.specs.Tasks.{due, releases_at, arrives, arrived, served, new_task, blank_task}
use Rattle.runs.specs.Steps.{WellFormed}
use Rattle.runs.specs.Promise.{SoundPlan}
use Rattle.runs.specs.Rehearsals.{last_offset, rehearsal_of}
use Rattle.runs.proofs.Dominance.{Dom}
use Rattle.runs.proofs.Keeps.{stepped_well_formed}
use Rattle.runs.proofs.Kept.{releases_at_lem}
use Rattle.runs.proofs.NewTasks.{length_new_tasks, new_tasks_at, new_well_formed}
use Rattle.runs.proofs.Pointwise.{task_of, who, length_stepped, stepped_at}
use Rattle.runs.proofs.Arrivals.{release_at_lem}
use Rattle.runs.proofs.Latest.{Latest, latest_later}
use Rattle.runs.specs.RehearsalRules.{state_at}
use Rattle.runs.proofs.Marks.{same_units_at, marks}
use Rattle.runs.specs.Histories.{line_in}

-- a step leaves a line's number, figures and rest
abbrev pub Same : Task → Task → Type 0
Same x y = (y.number ≡ x.number) × (y.line ≡ x.line) × (y.resting ≡ x.resting)

served_same : (n : ℕ) (x : Task) → Same x (served n x) × ((served n x).release ≡ x.release)
served_same n x = grind arith

step_same : (t n : ℕ) (x : Task) → Same x (served n (arrived t x))
step_same t n x = grind arith

-- its job is then the one released at t, or the one before
step_release : (t n : ℕ) (x : Task) → x.resting ≡ false → ((releases_at x.line t ≡ true) × ((served n (arrived t x)).release ≡ t)) ⊎ ((releases_at x.line t ≡ false) × ((served n (arrived t x)).release ≡ x.release))
step_release t n x awake = grind arith

largest_from : (ls : List Line) (m : ℕ) → m ≤ fold (λ n l. max n l.offset) m ls
largest_from [] m = omega arith
largest_from (l ∷ ls) m = omega (arith, largest_from ls (max m l.offset))

offset_below_from : (ls : List Line) (m i : ℕ) → i < length ls → (line_in ls i).offset ≤ fold (λ n l. max n l.offset) m ls
offset_below_from [] m i h = absurd (omega arith)
offset_below_from (l ∷ ls) m zero h = omega (arith, largest_from ls (max m l.offset))
offset_below_from (l ∷ ls) m (suc i) h = grind (arith, offset_below_from ls (max m l.offset) i)

pub offset_below : (ls : List Line) (i : ℕ) → i < length ls → (line_in ls i).offset ≤ last_offset ls
offset_below ls i h = offset_below_from ls 0 i h

module _ (ahead : Job → Job → Bool) (ls : List Line) where
  pub length_state : (n : ℕ) → length (state_at ahead ls n) ≡ length ls
  length_state zero = length_new_tasks 1 ls
  length_state (suc n) = length_stepped ahead n (state_at ahead ls n) ∙ length_state n

  pub state_at_lem : (n i : ℕ) → i < length ls → Same (new_task (1 + i) (line_in ls i)) (task_of (state_at ahead ls n) i)
  state_at_lem zero i h = subst (Same (new_task (1 + i) (line_in ls i))) (sym (new_tasks_at 1 ls i blank_task blank h)) (refl, refl, refl)
  state_at_lem (suc n) i h = grind (arith, common_steps, state_at_lem n i h, length_state n, stepped_at ahead n (state_at ahead ls n) i, step_same n (who ahead n (state_at ahead ls n)))

  latest_at : (n i : ℕ) → i < length ls → 0 < (line_in ls i).period → (line_in ls i).offset < n → Latest (line_in ls i) n (task_of (state_at ahead ls n) i).release
  latest_at zero i h p from = absurd (omega arith)
  latest_at (suc n) i h p from =
      let l = line_in ls i in
      let x = task_of (state_at ahead ls n) i in
      let w = who ahead n (state_at ahead ls n) in
      let s = state_at_lem n i h in
      let at = ap (λ z. z.release) (stepped_at ahead n (state_at ahead ls n) i (omega (arith, length_state n))) in
      elim (step_release n w x s.2) [
        | inl now ↦ let k = releases_at_lem l n (subst (λ z. releases_at z n ≡ true) s.1 now.0) in subst (Latest l (suc n)) (sym (at ∙ now.1)) (k.0, k.1, omega arith, omega arith)
        | inr before ↦
            let past : l.offset < n = grind arith in
            let old = latest_at n i h p past in
            let other : n ≡ x.release + l.period → ⊥ = λ e. grind (arith, release_at_lem l (old.0 + 1) n) in
            subst (Latest l (suc n)) (sym (at ∙ before.1)) (old.0, old.1, omega (arith, old.2), omega (arith, old.3, other))
      ]

  module _ (m : ℕ) (plan : SoundPlan ls m) where
    period_at : (i : ℕ) → i < length ls → 0 < (line_in ls i).period
    period_at i h = let r = plan.ranged i h in omega (arith, r.1, r.2, r.3)

    pub state_well_formed : (n : ℕ) → n ≤ 10 ^ 12 → WellFormed (state_at ahead ls n)
    state_well_formed zero h = new_well_formed ls plan.few plan.ranged
    state_well_formed (suc n) h = search (rules, stepped_well_formed, (state_well_formed n (omega arith)))

    pub state_arrives : (n i : ℕ) → i < length ls → arrives n (task_of (state_at ahead ls n) i) ≡ releases_at (line_in ls i) n
    state_arrives n i h = grind (arith, state_at_lem)

    module _ (ok : rehearsal_of ahead m ls ≡ Ok tt) where
      pub state_clear : (n i : ℕ) → n ≤ 10 ^ 12 → n < last_offset ls + m + m → i < length ls → due n (task_of (state_at ahead ls n) i) ≡ false
      state_clear n i top before h = All-get_or (λ x. due n x ≡ false) (state_at ahead ls n) i blank_task (omega (arith, length_state n)) ((marks ahead ls m ok).0 n before)

      -- from the second mark back to the first
      pub fold_dom : (σ : ℕ) (xs : List Task) → Dom σ xs (state_at ahead ls (last_offset ls + m + m)) → Dom (σ + m) xs (state_at ahead ls (last_offset ls + m))
      fold_dom σ xs dom =
          let mark = last_offset ls + m in
          let one = length_state mark in
          let two = length_state (mark + m) in
          record {
            same_length = dom.same_length ∙ two ∙ sym one;
            under = λ i h.
                let hi : i < length ls = omega (arith, dom.same_length, two) in
                let u = dom.under i h in
                let a = state_at_lem mark i hi in
                let b = state_at_lem (mark + m) i hi in
                let p = period_at i hi in
                let from : (line_in ls i).offset < mark = omega (arith, offset_below ls i hi, plan.some) in
                let c = plan.whole i hi in
                let r = latest_later (line_in ls i) mark m c.0 (task_of (state_at ahead ls mark) i).release (task_of (state_at ahead ls (mark + m)) i).release c.1 (latest_at mark i hi p from) (latest_at (mark + m) i hi p (omega arith)) in
                let left = same_units_at (state_at ahead ls mark) (state_at ahead ls (mark + m)) (marks ahead ls m ok).1 i (omega (arith, one)) (omega (arith, two)) in
                grind arith;
          }
