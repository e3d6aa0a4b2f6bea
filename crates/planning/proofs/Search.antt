-- The search, over lists: what it finds is good and comes first, and where it finds nothing there is
-- nothing good.
use Rattle.std.proofs.Common.{◌≡◌, ℕ, ◌<◌, ◌≤◌, Bool, true, false, cond, ◌⊎◌, List, [], ◌∷◌, ◌++◌, Some, None, Option, sym, refl, ap, ◌∙◌, subst, inl, inr, ⊎_elim, append_assoc, append-nil, arith}
use Rattle.std.proofs.lemmas.Bool.{cases_Bool, cases_order, both_ways}
use Rattle.std.proofs.lemmas.Option.{same_Some}
use Rattle.model.specs.Ranges.{is_regular}
use Rattle.model.specs.declared.line.Line.{Line}
use Rattle.windows.specs.Windows.{at}
use Rattle.planning.proofs.Candidates.{try_some, try_none, candidate, place_regular, place_ordinary}
use Rattle.planning.specs.Offsets.{clear_of, place}

-- m is l with an offset that can stand beside those placed
pub record Fits (placed : List Line) (l m : Line) : Type 0 where
  pub regular : is_regular l ≡ true → (m.offset < l.period) × (m ≡ at l m.offset) × (clear_of placed m ≡ true)
  pub ordinary : is_regular l ≡ false → m ≡ l

-- the lines of r fit, one after the other
abbrev pub Good : List Line → List Line → List Line → Type 0
Good placed [] [] = Unit {0}
Good placed [] (m ∷ ms) = ⊥
Good placed (l ∷ ls) [] = ⊥
Good placed (l ∷ ls) (m ∷ ms) = Fits placed l m × Good (placed ++ m ∷ []) ls ms

-- dictionary order, line by line
abbrev pub Before : List Line → List Line → Type 0
Before [] [] = Unit {0}
Before [] (y ∷ ys) = ⊥
Before (x ∷ xs) [] = ⊥
Before (x ∷ xs) (y ∷ ys) = (x.offset < y.offset) ⊎ ((x ≡ y) × Before xs ys)

-- beside m at the offset that it has, as beside m
module _ (placed : List Line) (l : Line) (ls : List Line) (regular : is_regular l ≡ true) (m : Line) (ms : List Line) (fits : Fits placed l m) where
  good_at : (o : ℕ) → m.offset ≡ o → Good (placed ++ m ∷ []) ls ms → Good (placed ++ at l o ∷ []) ls ms
  good_at o e g = subst (λ x. Good (placed ++ x ∷ []) ls ms) ((fits.regular regular).1 ∙ ap (at l) e) g

  leads : candidate placed l ls m.offset ≡ None → place (placed ++ at l m.offset ∷ []) ls ≡ None
  leads e =
      let f = fits.regular regular in
      let clear : clear_of placed (at l m.offset) ≡ true = rw f.1 at f.2 in
      simp clear at e

-- what a candidate that leads to something is known by
guard : {X : Type 0} (b : Bool) (o : Option X) (x : X) → cond b o None ≡ Some x → (b ≡ true) × (o ≡ Some x)
guard true o x e = (refl, e)
guard false o x e = cc

pub nothing : (placed ls : List Line) → place placed ls ≡ None → (s : List Line) → Good placed ls s → ⊥
nothing placed [] e s g = cc
nothing placed (l ∷ ls) e [] g = g
nothing placed (l ∷ ls) e (m ∷ ms) g =
    ⊎_elim
    (λ (yes : is_regular l ≡ true).
    let none = try_none l.period 0 (candidate placed l ls) (sym (place_regular placed l ls yes) ∙ e) m.offset (omega arith) (omega (arith, (g.0.regular yes).0)) in
    nothing (placed ++ at l m.offset ∷ []) ls (leads placed l ls yes m ms g.0 none) ms (good_at placed l ls yes m ms g.0 m.offset refl g.1))
    (λ (no : is_regular l ≡ false).
    nothing (placed ++ l ∷ []) ls (sym (place_ordinary placed l ls no) ∙ e) ms (subst (λ x. Good (placed ++ x ∷ []) ls ms) (g.0.ordinary no) g.1))
    (cases_Bool (is_regular l))

-- q is what was placed and then r, which is good and comes first
pub record Found (placed ls q : List Line) : Type 0 where
  pub r : List Line
  pub is : q ≡ placed ++ r
  pub good : Good placed ls r
  pub first : (s : List Line) → Good placed ls s → Before r s

none_left : (placed s : List Line) → Good placed [] s → Before [] s
none_left placed [] g = tt
none_left placed (m ∷ ms) g = g

-- candidate k leads to r, and those before it lead to nothing
first_regular : (placed : List Line) (l : Line) (ls r : List Line) (k : ℕ) → is_regular l ≡ true → ((j : ℕ) → 0 ≤ j → j < k → candidate placed l ls j ≡ None) → ((s : List Line) → Good (placed ++ at l k ∷ []) ls s → Before r s) → (s : List Line) → Good placed (l ∷ ls) s → Before (at l k ∷ r) s
first_regular placed l ls r k regular before first [] g = g
first_regular placed l ls r k regular before first (m ∷ ms) g =
    ⊎_elim
    (λ (e : m.offset ≡ k). inr (sym ((g.0.regular regular).1 ∙ ap (at l) e), first ms (good_at placed l ls regular m ms g.0 k e g.1)))
    (λ ne.
    ⊎_elim
    (λ (low : m.offset < k).
    absurd (nothing (placed ++ at l m.offset ∷ []) ls (leads placed l ls regular m ms g.0 (before m.offset (omega arith) low)) ms (good_at placed l ls regular m ms g.0 m.offset refl g.1)))
    (λ (high : k < m.offset). inl high)
    ne)
    (cases_order m.offset k)

first_ordinary : (placed : List Line) (l : Line) (ls r : List Line) → is_regular l ≡ false → ((s : List Line) → Good (placed ++ l ∷ []) ls s → Before r s) → (s : List Line) → Good placed (l ∷ ls) s → Before (l ∷ r) s
first_ordinary placed l ls r ordinary first [] g = g
first_ordinary placed l ls r ordinary first (m ∷ ms) g = inr (sym (g.0.ordinary ordinary), first ms (subst (λ x. Good (placed ++ x ∷ []) ls ms) (g.0.ordinary ordinary) g.1))

pub found : (placed ls q : List Line) → place placed ls ≡ Some q → Found placed ls q
found placed [] q e = record { r = []; is = sym (same_Some placed q e) ∙ sym (append-nil placed); good = tt; first = none_left placed }
found placed (l ∷ ls) q e =
    ⊎_elim
    (λ (yes : is_regular l ≡ true).
    let w = try_some l.period 0 (candidate placed l ls) q (sym (place_regular placed l ls yes) ∙ e) in
    let m = at l w.k in
    let here = guard (clear_of placed m) (place (placed ++ m ∷ []) ls) q w.here in
    let f = found (placed ++ m ∷ []) ls q here.1 in
    record {
      r = m ∷ f.r;
      is = f.is ∙ append_assoc placed (m ∷ []) f.r;
      good = (record { regular = λ _. (omega (arith, w.to), refl, here.0); ordinary = λ no. absurd (both_ways (is_regular l) no yes) }, f.good);
      first = first_regular placed l ls f.r w.k yes w.before f.first;
    })
    (λ (no : is_regular l ≡ false).
    let f = found (placed ++ l ∷ []) ls q (sym (place_ordinary placed l ls no) ∙ e) in
    record {
      r = l ∷ f.r;
      is = f.is ∙ append_assoc placed (l ∷ []) f.r;
      good = (record { regular = λ yes. absurd (both_ways (is_regular l) no yes); ordinary = λ _. refl }, f.good);
      first = first_ordinary placed l ls f.r no f.first;
    })
    (cases_Bool (is_regular l))
