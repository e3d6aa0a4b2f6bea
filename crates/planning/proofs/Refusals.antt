-- What is known of the steps of planning from what planning comes to.
use Rattle.std.proofs.Common.{◌≡◌, ℕ, List, [], Some, None, Ok, Err, Option, Result, sym, refl, subst}
use Rattle.std.specs.List.{AllByRecursion}
use Rattle.model.specs.Ranges.{Ranged}
use Rattle.model.specs.Results.{or_fault}
use Rattle.model.specs.TaskSets.{TaskSet, task_set}
use Rattle.model.specs.declared.fault.Fault.{Fault}
use Rattle.model.specs.declared.fault.Fault.TheVariants.{HyperperiodTooLong, PairTooLong, NoOffsets, DeadlineTooShort}
use Rattle.model.specs.declared.line.Line.{Line}
use Rattle.model.specs.declared.policy.Policy.{Policy}
use Rattle.planning.proofs.Placings.{found_is_least, nothing_to_find, too_long_to_place}
use Rattle.planning.specs.Deadlines.{with_deadlines, tight_at}
use Rattle.planning.specs.Hyperperiods.{passes_at}
use Rattle.planning.specs.Offsets.{short_pair, place}
use Rattle.planning.specs.Plans.{refuse, plan_of, Unplaceable, RightlyRefused, PlacedFirst}

-- every step went well, and q are the lines with their offsets
pub record Passed (policy : Policy) (ls : List Line) (t : TaskSet) : Type 0 where
  pub q : List Line
  pub short : passes_at 1 1 ls ≡ None
  pub placed : place [] ls ≡ Some q
  pub loose : tight_at 1 (with_deadlines policy q) ≡ None
  pub is : t ≡ task_set policy (with_deadlines policy q)

module _ (policy : Policy) (ls : List Line) where
  -- the steps, where what each of them finds is given
  abbrev last : List Line → Option ℕ → Result TaskSet Fault
  last q tight = refuse tight DeadlineTooShort (Ok (task_set policy (with_deadlines policy q)))

  abbrev steps : Option ℕ → Option (ℕ × ℕ) → Option (List Line) → Result TaskSet Fault
  steps long pair placed = refuse long HyperperiodTooLong (refuse pair (λ p. PairTooLong p.0 p.1) (or_fault placed NoOffsets (λ q. last q (tight_at 1 (with_deadlines policy q)))))

  pub passed : (t : TaskSet) → plan_of (task_set policy ls) ≡ Ok t → Passed policy ls t
  passed t e = go (passes_at 1 1 ls) (short_pair 1 ls) (place [] ls) refl refl e
    where
      loose : (q : List Line) (o : Option ℕ) → tight_at 1 (with_deadlines policy q) ≡ o → last q o ≡ Ok t → (o ≡ None) × (t ≡ task_set policy (with_deadlines policy q))
      loose q (Some n) f e = cc
      loose q None f e = (refl, cc)

      go : (a : Option ℕ) (b : Option (ℕ × ℕ)) (o : Option (List Line)) → passes_at 1 1 ls ≡ a → place [] ls ≡ o → steps a b o ≡ Ok t → Passed policy ls t
      go (Some n) b o f g e = cc
      go None (Some p) o f g e = cc
      go None None None f g e = cc
      go None None (Some q) f g e = let w = loose q (tight_at 1 (with_deadlines policy q)) refl e in record { q = q; short = f; placed = g; loose = w.0; is = w.1 }

  pub refused : AllByRecursion Ranged ls → (w : Fault) → plan_of (task_set policy ls) ≡ Err w → RightlyRefused policy ls w
  refused ranged w e = go (passes_at 1 1 ls) (short_pair 1 ls) (place [] ls) refl refl e
    where
      without : Unplaceable ls → ((k : ℕ) → w ≡ DeadlineTooShort k → ⊥) → RightlyRefused policy ls w
      without none other = (λ i j is. none, λ is. none, λ k is. absurd (other k is))

      tight : (q : List Line) → place [] ls ≡ Some q → (o : Option ℕ) → tight_at 1 (with_deadlines policy q) ≡ o → last q o ≡ Err w → RightlyRefused policy ls w
      tight q g None f e = cc
      tight q g (Some n) f e = (λ i j is. cc, λ is. cc, λ k is. let same : Some n ≡ Some k = cc in (q, found_is_least ls ranged q g, subst (λ o. tight_at 1 (with_deadlines policy q) ≡ o) same f))

      go : (a : Option ℕ) (b : Option (ℕ × ℕ)) (o : Option (List Line)) → short_pair 1 ls ≡ b → place [] ls ≡ o → steps a b o ≡ Err w → RightlyRefused policy ls w
      go (Some n) b o f g e = (λ i j is. cc, λ is. cc, λ k is. cc)
      go None (Some pair) o f g e = without (too_long_to_place ls ranged pair f) (λ k is. cc)
      go None None None f g e = without (nothing_to_find ls ranged g) (λ k is. cc)
      go None None (Some q) f g e = tight q g (tight_at 1 (with_deadlines policy q)) refl e

pub refused_first : {X : Type 0} (r : Result X Fault) (policy : Policy) (ls after : List Line) (w : Fault) → r ≡ Err w → RightlyRefused policy ls w → PlacedFirst r policy ls after
refused_first r policy ls after w e h = subst (λ o. PlacedFirst o policy ls after) (sym e) h
