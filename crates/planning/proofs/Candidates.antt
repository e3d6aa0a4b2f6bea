-- The candidates for a line: what each leads to, and the first of several that leads to something.
use Rattle.std.proofs.Common.{◌≡◌, ℕ, zero, suc, ◌+◌, ◌-◌, ◌<◌, ◌≤◌, true, false, cond, List, [], ◌∷◌, ◌++◌, Some, None, Option, sym, refl, arith}
use Rattle.std.proofs.lemmas.Bool.{cond_both}
use Rattle.std.proofs.lemmas.Grind.{common_steps}
use Rattle.std.specs.Option.{option_or}
use Rattle.model.specs.Ranges.{is_regular}
use Rattle.model.specs.declared.line.Line.{Line}
use Rattle.windows.specs.Windows.{at}
use Rattle.planning.specs.Offsets.{clear_of, place, try_from}

module _ {X : Type 0} where
  pub try_more : (t o : ℕ) (f : ℕ → Option X) → o < t → try_from (t - o) o f ≡ option_or (f o) (try_from (t - (o + 1)) (o + 1) f)
  try_more t o f h = let e : t - o ≡ suc (t - (o + 1)) = omega arith in rw e

  -- where the candidate at o leads to nothing, those behind it lead where the search leads
  pub try_next : (t o : ℕ) (f : ℕ → Option X) (r : Option X) → o < t → f o ≡ None → try_from (t - o) o f ≡ r → try_from (t - (o + 1)) (o + 1) f ≡ r
  try_next t o f r h none e = let m = try_more t o f h in grind (arith, common_steps)

  -- candidate k is the first, from o on, that leads to x
  pub record Tried (n o : ℕ) (f : ℕ → Option X) (x : X) : Type 0 where
    pub k : ℕ
    pub from : o ≤ k
    pub to : k < o + n
    pub here : f k ≡ Some x
    pub before : (j : ℕ) → o ≤ j → j < k → f j ≡ None

  pub try_none : (n o : ℕ) (f : ℕ → Option X) → try_from n o f ≡ None → (k : ℕ) → o ≤ k → k < o + n → f k ≡ None
  try_none zero o f e k l m = absurd (omega arith)
  try_none (suc n) o f e k l m = grind (arith, common_steps, try_none n (o + 1) f)

  pub try_some : (n o : ℕ) (f : ℕ → Option X) (x : X) → try_from n o f ≡ Some x → Tried n o f x
  try_some zero o f x e = cc
  try_some (suc n) o f x e = go (try_some n (o + 1) f x) (f o) refl
    where
      go : (try_from n (o + 1) f ≡ Some x → Tried n (o + 1) f x) → (r : Option X) → f o ≡ r → Tried (suc n) o f x
      go next (Some y) h = record { k = o; from = omega arith; to = omega arith; here = grind (arith, common_steps); before = λ j l m. absurd (omega arith) }
      go next None h =
          let w = next (grind (arith, common_steps)) in
          record { k = w.k; from = omega (arith, w.from); to = omega (arith, w.to); here = w.here; before = λ j l m. grind (arith, common_steps, w.before j) }

-- what the search makes of offset o for line l, beside those placed and before those left
abbrev pub candidate : List Line → Line → List Line → ℕ → Option (List Line)
candidate placed l ls o = cond (clear_of placed (at l o)) (place (placed ++ at l o ∷ []) ls) None

pub place_regular : (placed : List Line) (l : Line) (ls : List Line) → is_regular l ≡ true → place placed (l ∷ ls) ≡ try_from l.period 0 (candidate placed l ls)
place_regular placed l ls e = simp e

pub place_ordinary : (placed : List Line) (l : Line) (ls : List Line) → is_regular l ≡ false → place placed (l ∷ ls) ≡ place (placed ++ l ∷ []) ls
place_ordinary placed l ls e = simp e

-- an offset leads to nothing where the line there is not clear of those placed, or the lines left find nothing behind it
module _ (placed xs : List Line) (l : Line) (ls : List Line) (o : ℕ) (same : xs ≡ placed) where
  pub not_clear : false ≡ clear_of xs (at l o) → candidate placed l ls o ≡ None
  not_clear e = let c : clear_of placed (at l o) ≡ false = sym (rw same at e) in simp c

  pub none_left : place (xs ++ at l o ∷ []) ls ≡ None → candidate placed l ls o ≡ None
  none_left e = cond_both (clear_of placed (at l o)) (place (placed ++ at l o ∷ []) ls) None (λ r. r ≡ None) (λ _. rw same at e) (λ _. refl)
