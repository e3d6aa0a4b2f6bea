-- The lines that planning makes keep what every plan keeps.
use Rattle.std.proofs.Common.{◌≡◌, ℕ, ◌+◌, ◌<◌, ◌≤◌, true, false, cond, ltb, List, [], ◌∷◌, map, length, get_or, Some, None, Option, sym, refl, ap, ◌∙◌, subst, arith}
use Rattle.std.proofs.ByRecursion.{All-get_or}
use Rattle.std.proofs.lemmas.List.{get_or-map, length-map}
use Rattle.std.proofs.lemmas.Bool.{ltb-false}
use Rattle.std.proofs.lemmas.Grind.{common_steps}
use Rattle.std.specs.List.{AllByRecursion}
use Rattle.model.specs.Ranges.{is_regular, blank, Ranged, regulars}
use Rattle.model.specs.declared.line.Line.{Line}
use Rattle.model.specs.declared.policy.Policy.{Policy}
use Rattle.model.specs.declared.policy.Policy.TheVariants.{Dm, Ed}
use Rattle.windows.specs.Windows.{Periodic, apart_lines, at, AllApart}
use Rattle.windows.specs.Euclid.{lcm_of}
use Rattle.windows.proofs.Rule.{apart_means}
use Rattle.planning.proofs.Multiples.{hyper_from}
use Rattle.planning.proofs.Placings.{tail, placed_periodic}
use Rattle.planning.proofs.Positions.{none_passes}
use Rattle.planning.specs.Deadlines.{regular_deadline, changed, tight_at}
use Rattle.planning.specs.Offsets.{Placing}
use Rattle.planning.specs.Plans.{Planned, AllPlanned}

module _ (policy : Policy) (m : Option ℕ) where
  pub hyperperiod_kept : (h : ℕ) (ls q : List Line) → Placing ls q → hyper_from h (map (changed policy m) q) ≡ hyper_from h ls
  hyperperiod_kept h [] [] p = refl
  hyperperiod_kept h [] (x ∷ xs) p = absurd (omega (arith, p.whole))
  hyperperiod_kept h (l ∷ ls) [] p = absurd (omega (arith, p.whole))
  hyperperiod_kept h (l ∷ ls) (x ∷ xs) p =
      let same : x.period ≡ l.period = ap (λ y. y.period) (p.same 0 (omega arith)) in
      ap (λ n. hyper_from (lcm_of h n) (map (changed policy m) xs)) same ∙ hyperperiod_kept (lcm_of h l.period) ls xs (tail l x ls xs p)

  pub regulars_kept : (ls q : List Line) → Placing ls q → regulars (map (changed policy m) q) ≡ regulars ls
  regulars_kept [] [] p = refl
  regulars_kept [] (x ∷ xs) p = absurd (omega (arith, p.whole))
  regulars_kept (l ∷ ls) [] p = absurd (omega (arith, p.whole))
  regulars_kept (l ∷ ls) (x ∷ xs) p =
      let same : is_regular x ≡ is_regular l = ap is_regular (p.same 0 (omega arith)) in
      ap (λ b. cond b 1 0 + regulars (map (changed policy m) xs)) same ∙ ap (λ n. cond (is_regular l) 1 0 + n) (regulars_kept ls xs (tail l x ls xs p))

within_period : (policy : Policy) (m : Option ℕ) (l : Line) → l.length ≤ l.period → l.deadline ≤ l.period → regular_deadline policy m l ≤ l.period
within_period Ed m l c d = c
within_period Dm None l c d = d
within_period Dm (Some n) l c d = omega arith

-- x stands for the sheet's line l
changed_planned : (policy : Policy) (m : Option ℕ) (l x : Line) → Ranged l → x ≡ at l x.offset → (is_regular l ≡ false → x ≡ l) → (is_regular l ≡ true → x.offset < l.period) → x.length ≤ (changed policy m x).deadline → Planned (changed policy m x)
changed_planned policy m l x r same ordinary below loose =
    let e = λ (f : Line → ℕ). ap f same in
    let w = within_period policy m x in
    grind (arith, common_steps, e (λ y. y.length), e (λ y. y.deadline), e (λ y. y.period), ap is_regular same, r, w)

module _ (policy : Policy) (m : Option ℕ) (ls q : List Line) (ranged : AllByRecursion Ranged ls) (p : Placing ls q) where
  -- what stands at place i
  read : (i : ℕ) → i < length ls → get_or (map (changed policy m) q) i blank ≡ changed policy m (get_or q i blank)
  read i h = get_or-map (changed policy m) q i blank blank (let e = p.whole in omega arith)

  pub all_planned : tight_at 1 (map (changed policy m) q) ≡ None → AllPlanned (map (changed policy m) q)
  all_planned loose i h =
      let long = length-map q (changed policy m) in
      let whole = p.whole in
      let h' : i < length ls = omega arith in
      let e = read i h' in
      subst Planned (sym e) (changed_planned policy m (get_or ls i blank) (get_or q i blank) (All-get_or Ranged ls i blank h' ranged) (p.same i h') (p.ordinary i h') (p.below i h')
      (subst (λ y. y.length ≤ y.deadline) e (ltb-false _ _ (none_passes (λ y. ltb y.deadline y.length) 1 (map (changed policy m) q) blank loose i h))))

  pub all_apart : AllApart (map (changed policy m) q)
  all_apart w =
      let long = length-map q (changed policy m) in
      let whole = p.whole in
      let order = w.order in
      let inside = w.inside in
      let i = w.i in
      let j = w.j in
      let hi : i < length ls = omega arith in
      let hj : j < length ls = omega arith in
      let a = get_or q i blank in
      let b = get_or q j blank in
      let ri : is_regular (get_or ls i blank) ≡ true = sym (ap is_regular (p.same i hi)) ∙ sym (ap is_regular (read i hi)) ∙ w.first in
      let rj : is_regular (get_or ls j blank) ≡ true = sym (ap is_regular (p.same j hj)) ∙ sym (ap is_regular (read j hj)) ∙ w.second in
      let pa : Periodic a = placed_periodic (get_or ls i blank) a (All-get_or Ranged ls i blank hi ranged) (p.same i hi) in
      let pb : Periodic b = placed_periodic (get_or ls j blank) b (All-get_or Ranged ls j blank hj ranged) (p.same j hj) in
      ap (λ x. apart_lines x (get_or (map (changed policy m) q) j blank)) (read i hi) ∙ ap (apart_lines (changed policy m a)) (read j hj) ∙ (apart_means a b pa pb).1 (p.clear i j order hj ri rj)
