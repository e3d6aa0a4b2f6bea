-- Lists of which every two regular lines are apart: what they rule out, and how they grow.
use Rattle.std.proofs.Common.{◌≡◌, ℕ, ◌+◌, ◌<◌, ◌≤◌, true, List, [], ◌∷◌, ◌++◌, length, get_or, sym, subst, subst₂, ⊎_elim, arith}
use Rattle.std.proofs.lemmas.List.{length_push, get_or_push, get_or_append_left}
use Rattle.std.proofs.lemmas.Bool.{cases_lt}
use Rattle.model.specs.Ranges.{is_regular, blank}
use Rattle.model.specs.declared.line.Line.{Line}
use Rattle.windows.specs.Windows.{Meet, Periodic, apart_lines, Pair, AllApart}
use Rattle.windows.proofs.Rule.{apart_means, meet_sym}

-- the line at place i
abbrev line : List Line → ℕ → Line
line ls i = get_or ls i blank

pub all_apart_none : AllApart []
all_apart_none q = absurd (omega (arith, q.inside))

pub all_apart_push : (ls : List Line) (l : Line) → AllApart ls → ((k : ℕ) → k < length ls → is_regular (line ls k) ≡ true → is_regular l ≡ true → apart_lines (line ls k) l ≡ true) → AllApart (ls ++ l ∷ [])
all_apart_push ls l all clear q =
    let within : q.j < length ls + 1 = rw length_push at q.inside in
    let low : q.i < length ls = omega (arith, q.order) in
    let fore = get_or_append_left ls (l ∷ []) blank q.i low in
    let first = subst (λ x. is_regular x ≡ true) fore q.first in
    ⊎_elim
    (λ (below : q.j < length ls).
    let back = get_or_append_left ls (l ∷ []) blank q.j below in
    subst₂ (λ x y. apart_lines x y ≡ true) (sym fore) (sym back)
    (all (record { i = q.i; j = q.j; order = q.order; inside = below; first = first; second = subst (λ x. is_regular x ≡ true) back q.second })))
    (λ (above : length ls ≤ q.j).
    let back = get_or_push ls l blank q.j (omega (arith, within)) in
    subst₂ (λ x y. apart_lines x y ≡ true) (sym fore) (sym back) (clear q.i low first (subst (λ x. is_regular x ≡ true) back q.second)))
    (cases_lt q.j (length ls))

in_order : (ls : List Line) → AllApart ls → (q : Pair ls) → Periodic (line ls q.i) → Periodic (line ls q.j) → Meet (line ls q.i) (line ls q.j) → ⊥
in_order ls all q pi pj = (apart_means (line ls q.i) (line ls q.j) pi pj).0 (all q)

-- no two regular lines at different places ever meet
pub never_meet : (ls : List Line) → AllApart ls → ((k : ℕ) → k < length ls → Periodic (line ls k)) → (i j : ℕ) → (i ≡ j → ⊥) → i < length ls → j < length ls → is_regular (line ls i) ≡ true → is_regular (line ls j) ≡ true → Meet (line ls i) (line ls j) → ⊥
never_meet ls all periodic i j other hi hj ri rj m =
    ⊎_elim
    (λ (o : i < j). in_order ls all (record { i = i; j = j; order = o; inside = hj; first = ri; second = rj }) (periodic i hi) (periodic j hj) m)
    (λ (o : j ≤ i). in_order ls all (record { i = j; j = i; order = omega arith; inside = hi; first = rj; second = ri }) (periodic j hj) (periodic i hi) (meet_sym (line ls i) (line ls j) m))
    (cases_lt i j)
