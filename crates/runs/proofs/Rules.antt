-- The rehearsal keeps its rules, and they permit no other result.
use Rattle.std.proofs.Common.{inl, inr, ◌≡◌, ℕ, zero, suc, ◌+◌, ◌<◌, ◌≤◌, Bool, ltb, ◌⊎◌, List, Some, None, Ok, Err, Option, Result, sym, refl, subst, arith, rules}
use Rattle.std.proofs.lemmas.Slice.Eq.{bytes_eq-Decides}
use Rattle.std.proofs.lemmas.Bool.{ltb-true, ltb-false, cond_both, both_ways}
use Rattle.model.specs.declared.fault.Fault.{Fault}
use Rattle.model.specs.declared.fault.Fault.TheVariants.{Missed}
use Rattle.model.specs.declared.job.Job.{Job}
use Rattle.model.specs.declared.line.Line.{Line}
use Rattle.runs.specs.declared.task.Task.{Task}
use Rattle.runs.specs.Tasks.{new_tasks}
use Rattle.runs.specs.Steps.{Numbered, lowest_due}
use Rattle.runs.specs.Rehearsals.{load_of, units_left, run_units, same_left, settled, and_then, between_marks, rehearsal_of}
use Rattle.runs.specs.RehearsalRules.{OnlyRehearsed, state_at, NoneStruckBelow, LowestStruck, first_mark, second_mark, Rehearsed, passed, overload, missed, unsettled}
use Rattle.runs.proofs.Keeps.{stepped_numbered}
use Rattle.runs.proofs.Lowest.{lowest_none, lowest_struck, lowest_struck_once, struck_not_clear}
use Rattle.runs.proofs.NewTasks.{new_numbered}

module _ (ahead : Job → Job → Bool) (ls : List Line) where
  state_numbered : (t : ℕ) → Numbered 1 (state_at ahead ls t)
  state_numbered zero = new_numbered 1 ls
  state_numbered (suc t) = search (rules, stepped_numbered, (state_numbered t))

  abbrev lowest_at : ℕ → Option ℕ
  lowest_at t = lowest_due t (state_at ahead ls t)

  abbrev run_of : ℕ → ℕ → Result (List Task) Fault
  run_of n t = run_units ahead n t (state_at ahead ls t)

  -- the run comes to its end with nothing struck out, or stops at the first instant that strikes one out
  abbrev Went : ℕ → ℕ → ℕ → Type 0
  Went n t end = ((u : ℕ) → t ≤ u → u < end → lowest_at u ≡ None) × (run_of n t ≡ Ok (state_at ahead ls end))

  abbrev Stopped : ℕ → ℕ → ℕ → Type 0
  Stopped n t end = (u l : ℕ) × (t ≤ u) × (u < end) × ((v : ℕ) → t ≤ v → v < u → lowest_at v ≡ None) × (lowest_at u ≡ Some l) × (run_of n t ≡ Err (Missed u l))

  run_ends : (n t end : ℕ) → end ≡ t + n → Went n t end ⊎ Stopped n t end
  run_ends zero t end e = grind arith
  run_ends (suc n) t end e =
      elim (lowest_at t) as (λ o. lowest_at t ≡ o → Went (suc n) t end ⊎ Stopped (suc n) t end) [
        | None ↦ λ is. grind (arith, run_ends n (suc t) end (omega arith))
        | Some l ↦ λ is. grind arith
      ] refl

  clear_below : (n : ℕ) → ((u : ℕ) → u < n → lowest_at u ≡ None) → NoneStruckBelow ahead ls n
  clear_below n quiet t h = grind (arith, lowest_none)

  module _ (h : ℕ) where
    struck_first : (u l : ℕ) → load_of h ls ≤ h → u < second_mark h ls → ((v : ℕ) → v < u → lowest_at v ≡ None) → lowest_at u ≡ Some l → Rehearsed ahead h ls (Err (Missed u l))
    struck_first u l light in' quiet some = missed u l light in' (clear_below u quiet) (lowest_struck u (state_at ahead ls u) (state_numbered u) l some)

    compared : load_of h ls ≤ h → NoneStruckBelow ahead ls (second_mark h ls) → Rehearsed ahead h ls (settled (state_at ahead ls (first_mark h ls)) (state_at ahead ls (second_mark h ls)))
    compared light clear =
        let xs = state_at ahead ls (first_mark h ls) in
        let ys = state_at ahead ls (second_mark h ls) in
        let same = bytes_eq-Decides (units_left xs) (units_left ys) in
        cond_both (same_left xs ys) _ _ (Rehearsed ahead h ls) (λ e. passed light clear (same.0 e)) (λ e. unsettled light clear (λ p. both_ways _ e (same.1 p)))

    abbrev after_first : List Task → Result (Unit {0}) Fault
    after_first first = and_then (run_units ahead h (first_mark h ls) first) (λ second. settled first second)

    -- from the first mark on
    to_second : load_of h ls ≤ h → ((u : ℕ) → u < first_mark h ls → lowest_at u ≡ None) → Rehearsed ahead h ls (after_first (state_at ahead ls (first_mark h ls)))
    to_second light quiet =
        let m = first_mark h ls in
        grind (arith, compared light, clear_below (second_mark h ls), struck_first, run_ends h m (second_mark h ls))

    at_marks : load_of h ls ≤ h → Rehearsed ahead h ls (between_marks ahead (first_mark h ls) h (new_tasks 1 ls))
    at_marks light =
        let m = first_mark h ls in
        elim (run_ends m 0 m (omega arith)) [
          | inl w ↦ subst (λ r. Rehearsed ahead h ls (and_then r after_first)) (sym w.1) (to_second light (λ u q. w.0 u (omega arith) q))
          | inr s ↦ subst (λ r. Rehearsed ahead h ls (and_then r after_first)) (sym s.6) (struck_first s.0 s.1 light (omega (arith, s.3)) (λ v q. s.4 v (omega arith) q) s.5)
        ]

    pub keeps_rules : Rehearsed ahead h ls (rehearsal_of ahead h ls)
    keeps_rules = cond_both (ltb h (load_of h ls)) _ _ (Rehearsed ahead h ls) (λ e. overload (ltb-true h (load_of h ls) e)) (λ e. at_marks (ltb-false h (load_of h ls) e))

  -- what no two results have in common
  struck_later : (h t line : ℕ) → t < second_mark h ls → LowestStruck t (state_at ahead ls t) line → NoneStruckBelow ahead ls (second_mark h ls) → ⊥
  struck_later h t line in' struck clear = grind (arith, struck_not_clear)

  same_miss : (t u l m : ℕ) → NoneStruckBelow ahead ls t → LowestStruck t (state_at ahead ls t) l → NoneStruckBelow ahead ls u → LowestStruck u (state_at ahead ls u) m → ◌≡◌ {A = Result (Unit {0}) Fault} (Err (Missed t l)) (Err (Missed u m))
  same_miss t u l m clear struck clear' struck' = grind (arith, lowest_struck_once u (state_at ahead ls u) l m, struck_not_clear t (state_at ahead ls t) l, struck_not_clear u (state_at ahead ls u) m)

  pub one_result : (h : ℕ) {q r : Result (Unit {0}) Fault} → Rehearsed ahead h ls q → Rehearsed ahead h ls r → q ≡ r
  one_result h (passed a b c) (passed d e f) = refl
  one_result h (passed a b c) (overload d) = absurd (omega arith)
  one_result h (passed a b c) (missed t l d i e f) = absurd (struck_later h t l i f b)
  one_result h (passed a b c) (unsettled d e f) = absurd (f c)
  one_result h (overload a) (passed d e f) = absurd (omega arith)
  one_result h (overload a) (overload d) = refl
  one_result h (overload a) (missed t l d i e f) = absurd (omega arith)
  one_result h (overload a) (unsettled d e f) = absurd (omega arith)
  one_result h (missed t l a i b c) (passed d e f) = absurd (struck_later h t l i c e)
  one_result h (missed t l a i b c) (overload d) = absurd (omega arith)
  one_result h (missed t l a i b c) (missed u m d j e f) = same_miss t u l m b c e f
  one_result h (missed t l a i b c) (unsettled d e f) = absurd (struck_later h t l i c e)
  one_result h (unsettled a b c) (passed d e f) = absurd (c f)
  one_result h (unsettled a b c) (overload d) = absurd (omega arith)
  one_result h (unsettled a b c) (missed t l d i e f) = absurd (struck_later h t l i f b)
  one_result h (unsettled a b c) (unsettled d e f) = refl

  pub only_rehearsed : (h : ℕ) (r : Result (Unit {0}) Fault) → r ≡ rehearsal_of ahead h ls → OnlyRehearsed ahead h ls r
  only_rehearsed h r e = let kept = subst (Rehearsed ahead h ls) (sym e) (keeps_rules h) in (kept, λ q other. one_result h other kept)
