-- The search and the placings: what it finds is the first placing, and where it finds nothing there
-- is none.
use Rattle.std.proofs.Common.{◌≡◌, ℕ, zero, suc, ◌-◌, ◌<◌, true, List, [], ◌∷◌, ◌++◌, length, get_or, take, Some, None, sym, refl, ap, ◌∙◌, subst, inl, inr, ⊎_elim, arith}
use Rattle.std.proofs.ByRecursion.{All-get_or}
use Rattle.std.proofs.lemmas.Bool.{both_ways}
use Rattle.std.proofs.lemmas.Grind.{common_steps}
use Rattle.std.specs.List.{AllByRecursion}
use Rattle.model.specs.Ranges.{is_regular, blank, Ranged}
use Rattle.model.specs.declared.line.Line.{Line}
use Rattle.windows.specs.Windows.{Meet, Periodic, apart_lines, at}
use Rattle.windows.proofs.Rule.{apart_means}
use Rattle.planning.proofs.Clear.{clear_push, clear_pushed}
use Rattle.planning.proofs.Search.{Fits, Good, Before, found, nothing}
use Rattle.planning.proofs.ShortPairs.{never_apart}
use Rattle.planning.specs.Offsets.{clear_of, place, short_pair, Placing, NotAfter, Least}

pub periodic : (l : Line) → Ranged l → Periodic l
periodic l r = (r.1, omega (arith, r.1, r.2, r.3))

-- the line of a placing has the figures of the sheet's
pub placed_periodic : (l m : Line) → Ranged l → m ≡ at l m.offset → Periodic m
placed_periodic l m r e = subst Periodic (sym e) (periodic l r)

pub tail : (l m : Line) (ls ms : List Line) → Placing (l ∷ ls) (m ∷ ms) → Placing ls ms
tail l m ls ms h = record {
  whole = let e = h.whole in omega arith;
  same = λ i in-. h.same (suc i) (omega arith);
  ordinary = λ i in-. h.ordinary (suc i) (omega arith);
  below = λ i in-. h.below (suc i) (omega arith);
  clear = λ i j order in-. h.clear (suc i) (suc j) (omega arith) (omega arith);
}

-- every regular line of r is clear of those placed
abbrev Clear : List Line → List Line → List Line → Type 0
Clear placed ls r = (j : ℕ) → j < length ls → is_regular (get_or ls j blank) ≡ true → clear_of placed (get_or r j blank) ≡ true

pub good_from_placing : (placed ls r : List Line) → AllByRecursion Ranged ls → Placing ls r → Clear placed ls r → Good placed ls r
good_from_placing placed [] [] a h c = tt
good_from_placing placed [] (m ∷ ms) a h c = let e = h.whole in omega arith
good_from_placing placed (l ∷ ls) [] a h c = let e = h.whole in omega arith
good_from_placing placed (l ∷ ls) (m ∷ ms) a h c =
    let head : m ≡ at l m.offset = h.same 0 (omega arith) in
    let w = tail l m ls ms h in (
      record { regular = λ reg. (h.below 0 (omega arith) reg, head, c 0 (omega arith) reg); ordinary = λ ord. h.ordinary 0 (omega arith) ord },
      good_from_placing (placed ++ m ∷ []) ls ms a.1 w (λ j lt reg.
          let x = get_or ms j blank in
          let px : Periodic x = placed_periodic (get_or ls j blank) x (All-get_or Ranged ls j blank lt a.1) (w.same j lt) in
          clear_push placed m x (c (suc j) (omega arith) reg) (λ rm. (apart_means m x (placed_periodic l m a.0 head) px).1 (h.clear 0 (suc j) (omega arith) (omega arith) (sym (ap is_regular head) ∙ rm) reg))),
    )

-- m in front of a placing that is clear of it
in_front : (placed : List Line) (l m : Line) (ls ms : List Line) → Ranged l → AllByRecursion Ranged ls → Fits placed l m → Placing ls ms → Clear (placed ++ m ∷ []) ls ms → Placing (l ∷ ls) (m ∷ ms) × Clear placed (l ∷ ls) (m ∷ ms)
in_front placed l m ls ms rl a f h c = (
  record {
    whole = let e = h.whole in omega arith;
    same = λ i lt. grind (arith, common_steps, h.same (i - 1));
    ordinary = λ i lt ord. grind (arith, common_steps, h.ordinary (i - 1), f.ordinary);
    below = λ i lt reg. grind (arith, common_steps, h.below (i - 1), f.regular);
    clear = apart;
  },
  λ i lt reg. grind (arith, common_steps, f.regular, clear_pushed placed m (get_or ms (i - 1) blank), c (i - 1)),
)
  where
    like : m ≡ at l m.offset
    like = grind (arith, common_steps, f.regular, f.ordinary)

    apart : (i j : ℕ) → i < j → j < length (l ∷ ls) → is_regular (get_or (l ∷ ls) i blank) ≡ true → is_regular (get_or (l ∷ ls) j blank) ≡ true → Meet (get_or (m ∷ ms) i blank) (get_or (m ∷ ms) j blank) → ⊥
    apart i zero order lt p q = absurd (omega arith)
    apart zero (suc j) order lt p q =
        let x = get_or ms j blank in
        let lt' : j < length ls = omega arith in
        let px : Periodic x = placed_periodic (get_or ls j blank) x (All-get_or Ranged ls j blank lt' a) (h.same j lt') in
        (apart_means m x (placed_periodic l m rl like) px).0 ((clear_pushed placed m x (c j lt' q)).1 (ap is_regular like ∙ p))
    apart (suc i) (suc j) order lt p q = h.clear i j (omega arith) (omega arith) p q

pub placing_from_good : (placed ls r : List Line) → AllByRecursion Ranged ls → Good placed ls r → Placing ls r × Clear placed ls r
placing_from_good placed [] [] a g = (
  record { whole = refl; same = λ i lt. absurd (omega arith); ordinary = λ i lt. absurd (omega arith); below = λ i lt. absurd (omega arith); clear = λ i j order lt. absurd (omega arith) },
  λ j lt. absurd (omega arith),
)
placing_from_good placed [] (m ∷ ms) a g = absurd g
placing_from_good placed (l ∷ ls) [] a g = absurd g
placing_from_good placed (l ∷ ls) (m ∷ ms) a g =
    let w = placing_from_good (placed ++ m ∷ []) ls ms a.1 g.1 in
    in_front placed l m ls ms a.0 a.1 g.0 w.0 w.1

not_after : (r s : List Line) → Before r s → NotAfter r s
not_after [] [] b = inl refl
not_after [] (y ∷ ys) b = absurd b
not_after (x ∷ xs) [] b = absurd b
not_after (x ∷ xs) (y ∷ ys) b =
    ⊎_elim
    (λ (low : x.offset < y.offset). inr (0, refl, low))
    (λ (same : (x ≡ y) × Before xs ys).
    ⊎_elim
    (λ (e : xs ≡ ys). inl (ap (λ z. z ∷ xs) same.0 ∙ ap (λ zs. y ∷ zs) e))
    (λ (w : (k : ℕ) × (take k xs ≡ take k ys) × ((get_or xs k blank).offset < (get_or ys k blank).offset)).
    inr (suc w.0, ap (λ z. z ∷ take w.0 xs) same.0 ∙ ap (λ zs. y ∷ zs) w.1, w.2))
    (not_after xs ys same.1))
    b

module _ (ls : List Line) (ranged : AllByRecursion Ranged ls) where
  pub found_is_least : (q : List Line) → place [] ls ≡ Some q → Least ls q
  found_is_least q e =
      let f = found [] ls q e in
      record {
        is = subst (Placing ls) (sym f.is) (placing_from_good [] ls f.r ranged f.good).0;
        first = λ s h. subst (λ x. NotAfter x s) (sym f.is) (not_after f.r s (f.first s (good_from_placing [] ls s ranged h (λ _ _ _. refl))));
      }

  pub nothing_to_find : place [] ls ≡ None → (q : List Line) → Placing ls q → ⊥
  nothing_to_find e q h = nothing [] ls e q (good_from_placing [] ls q ranged h (λ _ _ _. refl))

  -- nor is there a placing where a pair is too long for each other
  pub too_long_to_place : (pair : ℕ × ℕ) → short_pair 1 ls ≡ Some pair → (q : List Line) → Placing ls q → ⊥
  too_long_to_place pair e q h =
      let n = never_apart ls pair e in
      let i = pair.0 - 1 in
      let j = pair.1 - 1 in
      let order = n.order in
      let li : i < length ls = omega arith in
      let lj : j < length ls = omega arith in
      let a = get_or ls i blank in
      let b = get_or ls j blank in
      let x = get_or q i blank in
      let y = get_or q j blank in
      let px : Periodic x = placed_periodic a x (All-get_or Ranged ls i blank li ranged) (h.same i li) in
      let py : Periodic y = placed_periodic b y (All-get_or Ranged ls j blank lj ranged) (h.same j lj) in
      let clear = (apart_means x y px py).1 (h.clear i j (omega arith) lj n.regular.0 n.regular.1) in
      both_ways (apart_lines x y) (ap (λ z. apart_lines z y) (h.same i li) ∙ ap (apart_lines (at a x.offset)) (h.same j lj) ∙ n.never x.offset y.offset) clear
