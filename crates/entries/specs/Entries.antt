-- The first entry of a list, in an order of its entries.
--   first_entry   the entry that no other goes before, ties to the lower place; none of an empty list
--   EntryAt       it is the entry at a place
--   OnlyFirst     no other place has the first entry
use Rattle.std.specs.Prelude.{◌≡◌, ℕ, Bool, List, [], ◌∷◌, length, Some, None, Option, slice_index_or}
use Rattle.std.specs.List.{IsFirstBest, best_of}

-- the best so far gives way only to an entry that goes before it
abbrev pub first_entry : {X : Type 0} → (X → X → Bool) → List X → Option X
first_entry before [] = None
first_entry before (x ∷ xs) = Some (best_of before x xs)

abbrev pub EntryAt : {X : Type 0} → List X → Option ℕ → Option X → Type 0
EntryAt xs None entry = entry ≡ None
EntryAt {X} xs (Some i) entry = (d : X) → entry ≡ Some (slice_index_or xs i d)

-- a place is r if no entry goes before the one there, and that one goes before all at lower places
abbrev pub OnlyFirst : {X : Type 0} → (X → X → Bool) → List X → Option ℕ → Type 0
OnlyFirst before xs r = (i : ℕ) → IsFirstBest before xs (length xs) i → r ≡ Some i
