-- Entries listed from numbered places, of which some bring none; and what the first entry of such a list is
-- among the places.
use Rattle.std.proofs.Common.{◌≡◌, ℕ, zero, suc, ◌+◌, ◌<◌, ◌≤◌, Bool, true, false, cond, List, [], ◌∷◌, ◌++◌, length, get_or, take, set, Some, None, Option, sym, refl, ap, ◌∙◌, subst, add-one, zero-add, arith}
use Rattle.std.specs.Cmp.{IsStrictWeakOrder}
use Rattle.std.specs.List.{best_of}
use Rattle.std.proofs.lemmas.List.{append_assoc, append-nil, length-take-le, take_all, take_more, take_more_set}
use Rattle.std.proofs.lemmas.Bool.{cond_both}
use Rattle.std.proofs.lemmas.List.Sums.{fold_push}
use Rattle.entries.specs.Entries.{first_entry}

abbrev pub one_or : {Y : Type 0} → Option Y → List Y
one_or None = []
one_or (Some y) = y ∷ []

-- what the first n places bring, in their order
abbrev pub listing : {Y : Type 0} → (ℕ → Option Y) → ℕ → List Y
listing g zero = []
listing g (suc n) = listing g n ++ one_or (g n)

listing_more : {Y : Type 0} (g : ℕ → Option Y) (n : ℕ) (o : Option Y) → g n ≡ o → listing g (n + 1) ≡ listing g n ++ one_or o
listing_more g n o e = rw (add-one, e) refl

pub same_listings : {Y : Type 0} (g h : ℕ → Option Y) (n : ℕ) → ((k : ℕ) → k < n → g k ≡ h k) → listing g n ≡ listing h n
same_listings g h zero same = refl
same_listings g h (suc n) same = rw (same_listings g h n (λ k p. same k (omega arith)), same n (omega arith)) refl

-- the first n of es are what the first i places bring
abbrev pub Listed : {Y : Type 0} → (ℕ → Option Y) → ℕ → List Y → ℕ → Type 0
Listed g i es n = (n ≤ i) × (take n es ≡ listing g i)

-- a loop that lists them looks at place i
module _ {Y : Type 0} (g : ℕ → Option Y) (i : ℕ) (es : List Y) (n : ℕ) (so_far : Listed g i es n) (es' : List Y) (n' : ℕ) where
  pub lists : (y : Y) → n < length es → Some y ≡ g i → es' ≡ set es n y → n' ≡ n + 1 → Listed g (i + 1) es' n'
  lists y inside e stored counted = rw (stored, counted) (omega (arith, so_far.0), rw (take_more_set es n y inside, so_far.1, listing_more g i (Some y) (sym e)) refl)

  pub passes : None ≡ g i → es' ≡ es → n' ≡ n → Listed g (i + 1) es' n'
  passes e stored counted = rw (stored, counted) (omega (arith, so_far.0), rw (so_far.1, listing_more g i None (sym e), append-nil) refl)

-- a list of what each element brings, by its number, is a listing by places; the first number is m
module _ {X Y : Type 0} (F : ℕ → List X → List Y) (f : ℕ → X → Option Y) (none : (m : ℕ) → F m [] ≡ []) (more : (m : ℕ) (x : X) (xs : List X) → F m (x ∷ xs) ≡ one_or (f m x) ++ F (m + 1) xs) where
  push : (m : ℕ) (xs : List X) (x : X) → F m (xs ++ x ∷ []) ≡ F m xs ++ one_or (f (length xs + m) x)
  push m [] x = rw (more m x [], none (m + 1), none m, append-nil, zero-add) refl
  push m (y ∷ xs) x =
      let same : length xs + (m + 1) ≡ length (y ∷ xs) + m = omega arith in
      rw (more m y (xs ++ x ∷ []), push (m + 1) xs x, same, more m y xs, append_assoc) refl

  module _ (m : ℕ) (xs : List X) (d : X) where
    abbrev at : ℕ → Option Y
    at k = f (k + m) (get_or xs k d)

    up_to : (i : ℕ) → i ≤ length xs → F m (take i xs) ≡ listing at i
    up_to zero p = none m
    up_to (suc i) p =
        let one : F m (take (i + 1) xs) ≡ F m (take i xs) ++ one_or (f (length (take i xs) + m) (get_or xs i d)) = rw (take_more xs i d (omega arith)) (push m (take i xs) (get_or xs i d)) in
        let long : length (take i xs) ≡ i = length-take-le i xs (omega arith) in
        rw (← add-one, one, long, up_to i (omega arith)) refl

    pub is_listing : F m xs ≡ listing at (length xs)
    is_listing = ap (F m) (sym (take_all (length xs) xs (omega arith))) ∙ up_to (length xs) (omega arith)

-- y is what a place brings; nothing that a place brings goes before it, and it goes before all that lower
-- places bring
pub record FirstAmong {Y : Type 0} (before : Y → Y → Bool) (g : ℕ → Option Y) (n : ℕ) (y : Y) : Type 0 where
  pub place : ℕ
  pub within : place < n
  pub here : g place ≡ Some y
  pub best : (j : ℕ) (z : Y) → j < n → g j ≡ Some z → before z y ≡ false
  pub lowest : (j : ℕ) (z : Y) → j < place → g j ≡ Some z → before y z ≡ true

abbrev pub IsFirstAmong : {Y : Type 0} → (Y → Y → Bool) → (ℕ → Option Y) → ℕ → Option Y → Type 0
IsFirstAmong before g n None = (j : ℕ) → j < n → g j ≡ None
IsFirstAmong before g n (Some y) = FirstAmong before g n y

pub none_not_some : {Y : Type 0} (y : Y) → None ≡ Some y → ⊥
none_not_some y e = let z : ◌≡◌ {A = ℕ} 0 1 = cc in absurd (omega arith)

module _ {Y : Type 0} {before : Y → Y → Bool} (o : IsStrictWeakOrder before) (g : ℕ → Option Y) where
  skips : (n : ℕ) (r : Option Y) → IsFirstAmong before g n r → g n ≡ None → IsFirstAmong before g (suc n) r
  skips n None h e = λ j p. grind (arith, h j)
  skips n (Some y) h e = record { place = h.place; within = omega (arith, h.within); here = h.here; best = λ j z p q. grind (arith, h.best j z); lowest = h.lowest }

  -- what place n brings is z
  module _ (n : ℕ) (z : Y) (e : g n ≡ Some z) where
    not_itself : before z z ≡ false
    not_itself = grind (arith, o.one_way z z)

    alone : IsFirstAmong before g n None → FirstAmong before g (suc n) z
    alone h = record { place = n; within = omega arith; here = e; best = λ j w p q. grind (arith, h j, not_itself); lowest = λ j w p q. grind (arith, h j) }

    module _ (y : Y) (h : FirstAmong before g n y) where
      gives_way : before z y ≡ true → FirstAmong before g (suc n) z
      gives_way t = record {
        place = n;
        within = omega arith;
        here = e;
        best = λ j w p q. grind (arith, h.best j w, o.chain w y z, o.one_way z y, not_itself);
        lowest = λ j w p q. grind (arith, h.best j w, o.chain z w y);
      }

      stays : before z y ≡ false → FirstAmong before g (suc n) y
      stays t = record { place = h.place; within = omega (arith, h.within); here = h.here; best = λ j w p q. grind (arith, h.best j w); lowest = h.lowest }

  more : (n : ℕ) (l : List Y) (p : Option Y) → g n ≡ p → IsFirstAmong before g n (first_entry before l) → IsFirstAmong before g (suc n) (first_entry before (l ++ one_or p))
  more n l None e h = rw append-nil (skips n (first_entry before l) h e)
  more n [] (Some z) e h = alone n z e h
  more n (a ∷ l) (Some z) e h =
      let y = best_of before a l in
      subst (FirstAmong before g (suc n)) (sym (fold_push (λ b x. cond (before x b) x b) a l z))
      (cond_both (before z y) z y (FirstAmong before g (suc n)) (gives_way n z e y h) (stays n z e y h))

  pub first_among : (n : ℕ) → IsFirstAmong before g n (first_entry before (listing g n))
  first_among zero = λ j p. absurd (omega arith)
  first_among (suc n) = more n (listing g n) (g n) refl (first_among n)
