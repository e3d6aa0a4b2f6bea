-- The worst line: the lines with deviations by their places, and what the first of them is.
use Rattle.std.proofs.Common.{◌≡◌, ℕ, suc, ◌+◌, ◌-◌, ◌<◌, Bool, true, false, cond, ltb, List, [], ◌∷◌, ◌++◌, length, get_or, Some, None, Option, sym, refl, ◌∙◌, subst, arith}
use Rattle.std.proofs.lemmas.List.MinMax.{IsStrictWeakOrder-flip, IsStrictWeakOrder-by_number}
use Rattle.std.specs.List.{filter_map}
use Rattle.std.proofs.lemmas.Bool.Decides.{nat_tests}
use Rattle.entries.specs.Entries.{first_entry}
use Rattle.entries.proofs.Listings.{listing, one_or, is_listing, IsFirstAmong, first_among}
use Rattle.runs.specs.declared.jitter.Track.{Track}
use Rattle.runs.specs.Calls.{State}
use Rattle.runs.specs.Jitter.{no_track}
use Rattle.executive.specs.declared.slot.Slot.{Slot}
use Rattle.executive.specs.Slots.{tracks_of}
use Rattle.executive.proofs.Places.{slot_at}
use Rattle.executive.specs.declared.questions.Deviating.{Deviating}
use Rattle.executive.specs.Questions.{deviating, largest_deviation, worse, worst_of, IsWorstOf, WorstAmong}

-- what the line at a place brings
abbrev deviating_at : List Track → ℕ → Option Deviating
deviating_at ks i = largest_deviation (i + 1) (get_or ks i no_track)

one_or_none : (some : Bool) (y : Deviating) (ds : List Deviating) → cond some (y ∷ ds) ds ≡ one_or (cond some (Some y) None) ++ ds
one_or_none true y ds = refl
one_or_none false y ds = refl

-- the slots say which lines deviate
pub deviating_slots : (n : ℕ) (xs : List Slot) → ((i : ℕ) → i < length xs → (slot_at xs i).task.number ≡ n + i) → filter_map (λ x. largest_deviation x.task.number x.track) xs ≡ deviating n (tracks_of xs)
deviating_slots n [] numbered = refl
deviating_slots n (x ∷ xs) numbered = grind (arith, nat_tests, numbered 0 (omega arith), deviating_slots (n + 1) xs (λ i p. numbered (suc i) (omega arith) ∙ omega arith))

by_places : (ks : List Track) → deviating 1 ks ≡ listing (deviating_at ks) (length ks)
by_places ks = is_listing deviating largest_deviation (λ _. refl) (λ m k js. one_or_none (ltb 0 k.number) (record { line = m; largest = k.largest }) (deviating (m + 1) js)) 1 ks no_track

module _ (s : State) where
  abbrev at : ℕ → Track
  at i = get_or s.tracks i no_track

  abbrev entry : ℕ → Deviating
  entry i = record { line = i + 1; largest = (at i).largest }

  is_worst : (r : Option Deviating) → IsFirstAmong worse (deviating_at s.tracks) (length s.tracks) r → IsWorstOf s r
  is_worst None h = λ i p. grind (arith, nat_tests, h i p)
  is_worst (Some x) h = record {
    line = grind (arith, nat_tests, h.here, h.within);
    deviates = grind (arith, nat_tests, h.here, h.within);
    is_largest = grind (arith, nat_tests, h.here, h.within);
    first = λ j p some. grind (arith, nat_tests, h.here, h.within, h.best j (entry j) p, h.lowest j (entry j));
  }

  pub worst_is_first : IsWorstOf s (worst_of s)
  worst_is_first = is_worst (worst_of s) (subst (λ l. IsFirstAmong worse (deviating_at s.tracks) (length s.tracks) (first_entry worse l)) (sym (by_places s.tracks)) (first_among (IsStrictWeakOrder-flip _ (IsStrictWeakOrder-by_number (λ y. y.largest))) (deviating_at s.tracks) (length s.tracks)))

-- the same by figures that are equal
pub worst_same : (m n : ℕ) (number largest number' largest' : ℕ → ℕ) → m ≡ n → ((i : ℕ) → i < n → number i ≡ number' i) → ((i : ℕ) → i < n → largest i ≡ largest' i)
    → (r : Option Deviating) → WorstAmong m number largest r → WorstAmong n number' largest' r
worst_same m n number largest number' largest' long numbers largests None w = λ i p. grind (arith, w i, numbers i)
worst_same m n number largest number' largest' long numbers largests (Some x) w = record {
  line = grind (arith, w.line);
  deviates = grind (arith, w.line, w.deviates, numbers (x.line - 1));
  is_largest = grind (arith, w.line, w.is_largest, largests (x.line - 1));
  first = λ i p some. grind (arith, w.first i, numbers i, largests i);
}
