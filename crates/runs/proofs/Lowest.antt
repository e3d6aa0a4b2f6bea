-- The lowest line that is struck out: one more line looked at, and what it says of all lines.
use Rattle.std.proofs.Common.{◌≡◌, ℕ, zero, suc, ◌+◌, ◌<◌, Bool, true, false, cond, List, [], ◌∷◌, length, get_or, take, Some, None, refl, arith}
use Rattle.std.specs.Option.{option_map, option_or}
use Rattle.std.specs.List.{find, AllByRecursion}
use Rattle.std.proofs.lemmas.List.Folds.{find-append}
use Rattle.std.proofs.lemmas.Bool.{both_ways}
use Rattle.std.proofs.lemmas.Option.{none-some, same_Some}
use Rattle.std.proofs.ByRecursion.{All-get_or}
use Rattle.std.proofs.lemmas.Grind.{common_steps}
use Rattle.runs.specs.Tasks.{due, blank_task}
use Rattle.runs.specs.RehearsalRules.{LowestStruck}
use Rattle.runs.specs.Steps.{lowest_due, Numbered}
use Rattle.runs.specs.declared.task.Task.{Task}

-- one line more stands behind those so far
module _ (t : ℕ) (xs : List Task) (i : ℕ) (d : Task) (h : i < length xs) where
  lowest_more : lowest_due t (take (i + 1) xs) ≡ option_or (lowest_due t (take i xs)) (lowest_due t (get_or xs i d ∷ []))
  lowest_more = grind (arith, common_steps, find-append)

  pub lowest_more_yes : due t (get_or xs i d) ≡ true → lowest_due t (take (i + 1) xs) ≡ option_or (lowest_due t (take i xs)) (Some (get_or xs i d).number)
  lowest_more_yes e = grind (arith, lowest_more)

  pub lowest_more_no : due t (get_or xs i d) ≡ false → lowest_due t (take (i + 1) xs) ≡ lowest_due t (take i xs)
  lowest_more_no e = grind (arith, lowest_more)

-- no line is the lowest: none is struck out
pub lowest_none : (t : ℕ) (xs : List Task) → lowest_due t xs ≡ None → AllByRecursion (λ x. due t x ≡ false) xs
lowest_none t [] e = tt
lowest_none t (x ∷ xs) e = grind (arith, (lowest_none t xs))

-- the place of the lowest line that is struck out
StruckAt : ℕ → List Task → ℕ → Type 0
StruckAt t xs i = (i < length xs) × ((d : Task) → due t (get_or xs i d) ≡ true) × ((k : ℕ) (d : Task) → k < i → due t (get_or xs k d) ≡ false)

struck_place : (t n : ℕ) (xs : List Task) → Numbered n xs → (l : ℕ) → lowest_due t xs ≡ Some l → (i : ℕ) × (l ≡ n + i) × StruckAt t xs i
unfolding StruckAt
struck_place t n [] num l e = absurd (none-some l e)
struck_place t n (x ∷ xs) num l e = by (struck_place t (n + 1) xs num.1 l) (due t x) refl e
  where
    below : due t x ≡ false → (i : ℕ) → ((k : ℕ) (d : Task) → k < i → due t (get_or xs k d) ≡ false) → (k : ℕ) (d : Task) → k < suc i → due t (get_or (x ∷ xs) k d) ≡ false
    below none i rest zero d h = none
    below none i rest (suc k) d h = rest k d (omega arith)

    by : (lowest_due t xs ≡ Some l → (i : ℕ) × (l ≡ n + 1 + i) × StruckAt t xs i) → (b : Bool) → due t x ≡ b → option_map (λ y. y.number) (cond b (Some x) (find (due t) xs)) ≡ Some l → (i : ℕ) × (l ≡ n + i) × StruckAt t (x ∷ xs) i
    by later true is e' = let same : x.number ≡ l = same_Some x.number l e' in (0, omega (arith, num.0), (omega arith, (λ d. is), (λ k d h. absurd (omega arith))))
    by later false is e' = let rest = later e' in (suc rest.0, omega (arith, rest.1), (omega (arith, rest.2.0), rest.2.1, below is rest.0 rest.2.2))

pub lowest_struck : (t : ℕ) (xs : List Task) → Numbered 1 xs → (l : ℕ) → lowest_due t xs ≡ Some l → LowestStruck t xs l
unfolding StruckAt
lowest_struck t xs num l e = grind (arith, struck_place)

-- one line alone is the lowest, and it is struck out
pub lowest_struck_once : (t : ℕ) (xs : List Task) (l m : ℕ) → LowestStruck t xs l → LowestStruck t xs m → l ≡ m
lowest_struck_once t xs zero m p q = absurd p
lowest_struck_once t xs (suc i) zero p q = absurd q
lowest_struck_once t xs (suc i) (suc j) p q = grind (arith, p.1 blank_task, q.1 blank_task, p.2 j blank_task)

pub struck_not_clear : (t : ℕ) (xs : List Task) (l : ℕ) → LowestStruck t xs l → AllByRecursion (λ x. due t x ≡ false) xs → ⊥
struck_not_clear t xs zero p clear = p
struck_not_clear t xs (suc i) p clear = both_ways (due t (get_or xs i blank_task)) (All-get_or (λ x. due t x ≡ false) xs i blank_task p.0 clear) (p.1 blank_task)
