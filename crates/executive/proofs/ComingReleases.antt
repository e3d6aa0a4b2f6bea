-- The coming release: the releases ahead as the slots have them, and what the first of them is.
use Rattle.std.proofs.Common.{◌≡◌, ℕ, suc, ◌+◌, ◌-◌, ◌<◌, Bool, true, false, cond, List, [], ◌∷◌, ◌++◌, length, get_or, Some, None, Option, sym, refl, subst, arith}
use Rattle.std.proofs.lemmas.List.MinMax.{IsStrictWeakOrder-by_number}
use Rattle.std.specs.List.{filter_map}
use Rattle.std.proofs.lemmas.Bool.Decides.{nat_tests}
use Rattle.entries.specs.Entries.{first_entry}
use Rattle.entries.proofs.Listings.{listing, one_or, is_listing, IsFirstAmong, first_among}
use Rattle.model.specs.declared.line.Line.{Line}
use Rattle.runs.specs.declared.task.Task.{Task}
use Rattle.runs.specs.Calls.{State}
use Rattle.runs.specs.Tasks.{blank_task}
use Rattle.executive.specs.declared.questions.Release.{Release}
use Rattle.executive.specs.declared.slot.Slot.{Slot}
use Rattle.executive.specs.Questions.{next_release, releases_ahead, sooner, coming_of, IsComingOf, ComingAmong}
use Rattle.executive.specs.Slots.{coming_at, tasks_of}
use Rattle.executive.proofs.Coming.{coming_is}
use Rattle.executive.proofs.Places.{slot_at}

one_or_none : (rests : Bool) (y : Release) (rs : List Release) → cond rests rs (y ∷ rs) ≡ one_or (cond rests None (Some y)) ++ rs
one_or_none true y rs = refl
one_or_none false y rs = refl

module _ (t : ℕ) where
  abbrev release : Task → Release
  release x = record { instant = coming_at x.line t; line = x.number }

  abbrev release_at : List Task → ℕ → Option Release
  release_at xs k = let x : Task = get_or xs k blank_task in cond x.resting None (Some (release x))

  by_places : (xs : List Task) → releases_ahead t xs ≡ listing (release_at xs) (length xs)
  by_places xs = is_listing (λ _ ys. releases_ahead t ys) (λ _ x. cond x.resting None (Some (release x))) (λ _. refl) (λ _ x ys. one_or_none x.resting (release x) (releases_ahead t ys)) 1 xs blank_task

-- the slots have those releases at hand
pub at_hand : (t : ℕ) (xs : List Slot) → ((i : ℕ) → i < length xs → (slot_at xs i).next ≡ coming_at (slot_at xs i).task.line t) → filter_map next_release xs ≡ releases_ahead t (tasks_of xs)
at_hand t [] next = refl
at_hand t (x ∷ xs) next = grind (arith, nat_tests, next 0 (omega arith), at_hand t xs (λ i p. next (suc i) (omega arith)))

module _ (s : State) (numbered : (i : ℕ) → i < length s.tasks → (get_or s.tasks i blank_task).number ≡ i + 1) (timed : (i : ℕ) → i < length s.tasks → 0 < (get_or s.tasks i blank_task).line.period) where
  abbrev at : ℕ → Task
  at i = get_or s.tasks i blank_task

  is_coming : (r : Option Release) → IsFirstAmong sooner (release_at s.clock s.tasks) (length s.tasks) r → IsComingOf s r
  is_coming None h = λ i p. grind (arith, nat_tests, h i p)
  is_coming (Some x) h = record {
    line = grind (arith, nat_tests, h.here, numbered h.place, h.within);
    awake = grind (arith, nat_tests, h.here, numbered h.place, h.within);
    released = grind (arith, nat_tests, h.here, numbered h.place, h.within, coming_is (at h.place).line (timed h.place h.within) s.clock);
    first = λ j u p awake from e. let y = release s.clock (at j) in grind (arith, nat_tests, h.here, numbered h.place, h.within, h.best j y p, h.lowest j y, coming_is (at j).line (timed j p) s.clock);
  }

  pub coming_is_first : IsComingOf s (coming_of s)
  coming_is_first = is_coming (coming_of s) (subst (λ l. IsFirstAmong sooner (release_at s.clock s.tasks) (length s.tasks) (first_entry sooner l)) (sym (by_places s.clock s.tasks)) (first_among (IsStrictWeakOrder-by_number (λ y. y.instant)) (release_at s.clock s.tasks) (length s.tasks)))

-- the same by a clock, lines and rests that are equal
pub coming_same : (m n t t' : ℕ) (at at' : ℕ → Line) (rests rests' : ℕ → Bool) → m ≡ n → t ≡ t' → ((i : ℕ) → i < n → at i ≡ at' i) → ((i : ℕ) → i < n → rests i ≡ rests' i)
    → (r : Option Release) → ComingAmong m t at rests r → ComingAmong n t' at' rests' r
coming_same m n t t' at at' rests rests' long clock lines resting None w = λ i p. grind (arith, w i, resting i)
coming_same m n t t' at at' rests rests' long clock lines resting (Some x) w = record {
  line = grind (arith, w.line);
  awake = grind (arith, w.line, w.awake, resting (x.line - 1));
  released = grind (arith, w.line, w.released, lines (x.line - 1));
  first = λ i u p awake from e. grind (arith, w.first i u, resting i, lines i);
}
