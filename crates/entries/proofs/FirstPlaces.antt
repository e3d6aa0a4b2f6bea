-- The loop that carries the first entry so far with its place, and what entry stands at the end's place.
use Rattle.std.proofs.Common.{◌≡◌, ℕ, ◌+◌, ◌<◌, ◌≤◌, Bool, true, false, List, [], ◌∷◌, length, get_or, Some, sym, ap, ◌∙◌, ⊎_elim, arith}
use Rattle.std.specs.List.{IsFirstBest}
use Rattle.std.specs.Cmp.{IsStrictWeakOrder}
use Rattle.std.proofs.lemmas.Bool.{cases_lt}
use Rattle.std.proofs.lemmas.List.MinMax.{IsFirstBest-none, IsFirstBest-takes, IsFirstBest-keeps, IsFirstBest-unique, IsFirstBest-from_best_of}
use Rattle.std.proofs.lemmas.List.{get_or_default}
use Rattle.entries.specs.Entries.{first_entry, EntryAt}

-- of the first i entries y is the first, and stands at b; before the loop it is the front entry
pub record Carries {X : Type 0} (before : X → X → Bool) (xs : List X) (i b : ℕ) (y : X) : Type 0 where
  pub within : b < length xs
  pub front : i ≡ 0 → b ≡ 0
  pub first : 0 < i → IsFirstBest before xs i b
  pub here : y ≡ get_or xs b y

module _ {X : Type 0} {before : X → X → Bool} (o : IsStrictWeakOrder before) (xs : List X) (i b : ℕ) (x y : X) (h : Carries before xs i b y) (l : i < length xs) (e : x ≡ get_or xs i x) where
  pub takes : before x y ≡ true → Carries before xs (i + 1) i x
  takes t = record {
    within = l;
    front = λ z. absurd (omega arith);
    first = λ _. ⊎_elim (λ (some : 0 < i). IsFirstBest-takes o xs i b x y (h.first some) l e h.here t) (λ (none : i ≤ 0). let z : i ≡ 0 = omega arith in rw z (IsFirstBest-none o xs)) (cases_lt 0 i);
    here = e;
  }

  pub keeps : before x y ≡ false → Carries before xs (i + 1) b y
  keeps t = record {
    within = h.within;
    front = λ z. absurd (omega arith);
    first = λ _. ⊎_elim (λ (some : 0 < i). IsFirstBest-keeps o xs i b x y (h.first some) l e h.here t) (λ (none : i ≤ 0). let z : i ≡ 0 = omega arith in rw (z, h.front z) (IsFirstBest-none o xs)) (cases_lt 0 i);
    here = h.here;
  }

pub entry_at : {X : Type 0} {before : X → X → Bool} (o : IsStrictWeakOrder before) (xs : List X) (b : ℕ) → IsFirstBest before xs (length xs) b → EntryAt xs (Some b) (first_entry before xs)
entry_at o [] b h d = absurd (omega (arith, h.0))
entry_at o (a ∷ xs) b h d =
    let best = IsFirstBest-from_best_of o a xs in
    let same : best.0 ≡ b = IsFirstBest-unique o (a ∷ xs) (length (a ∷ xs)) best.0 b a best.1 h in
    ap Some (sym best.2 ∙ ap (λ i. get_or (a ∷ xs) i a) same ∙ get_or_default (a ∷ xs) b a d h.0)
