-- The search over the regular lines alone, and the lines put back among the ordinary ones: that is the
-- search over all lines.
use Rattle.std.proofs.Common.{◌≡◌, ℕ, zero, suc, ◌+◌, Bool, true, false, cond, List, [], ◌∷◌, ◌++◌, drop, length, Some, None, Option, sym, refl, ap, ◌∙◌, ⊎_elim, append_assoc, append-nil, arith}
use Rattle.std.proofs.Math.Seq.{drop-append_seam}
use Rattle.std.proofs.lemmas.Bool.{cases_Bool}
use Rattle.std.proofs.lemmas.Grind.{common_steps}
use Rattle.std.proofs.lemmas.List.Elements.{filter-append}
use Rattle.std.specs.List.{filter}
use Rattle.std.specs.Option.{option_map}
use Rattle.model.specs.Ranges.{is_regular}
use Rattle.model.specs.declared.line.Line.{Line}
use Rattle.windows.specs.Windows.{at}
use Rattle.planning.proofs.Candidates.{candidate, place_regular, place_ordinary}
use Rattle.planning.proofs.Search.{found}
use Rattle.planning.specs.Offsets.{clear_of, place, put_back, try_from}

-- candidates that lead to the same but for g
try_map : {X Y : Type 0} (g : X → Y) (n o : ℕ) (f : ℕ → Option X) (h : ℕ → Option Y) → ((k : ℕ) → h k ≡ option_map g (f k)) → try_from n o h ≡ option_map g (try_from n o f)
try_map g zero o f h e = refl
try_map g (suc n) o f h e = grind (arith, common_steps, e o, try_map g n (o + 1) f h e)

-- a candidate behind the same test
under : {X Y : Type 0} (g : X → Y) (a b : Bool) (o : Option Y) (p : Option X) → a ≡ b → o ≡ option_map g p → cond a o None ≡ option_map g (cond b p None)
under g a true o p s e = rw s e
under g a false o p s e = rw s refl

-- ordinary lines are in nobody's way
clear_of_regular : (placed : List Line) (x : Line) → clear_of placed x ≡ clear_of (filter is_regular placed) x
clear_of_regular [] x = refl
clear_of_regular (a ∷ placed) x = grind (arith, common_steps, clear_of_regular placed x)

back_ordinary : (l : Line) (ls q : List Line) → is_regular l ≡ false → put_back (l ∷ ls) q ≡ l ∷ put_back ls q
back_ordinary l ls [] e = refl
back_ordinary l ls (m ∷ ms) e = simp e

back_regular : (l m : Line) (ls ms : List Line) → is_regular l ≡ true → put_back (l ∷ ls) (m ∷ ms) ≡ m ∷ put_back ls ms
back_regular l m ls ms e = simp e

-- what the search over the regular lines finds, and then the lines in their places
abbrev pub woven : List Line → List Line → List Line → List Line → List Line
woven full regs ls q = full ++ put_back ls (drop (length regs) q)

module _ (full regs : List Line) (l : Line) (ls : List Line) where
  -- an ordinary line goes in front of those behind it
  passed : is_regular l ≡ false → (o : Option (List Line)) → option_map (woven (full ++ l ∷ []) regs ls) o ≡ option_map (woven full regs (l ∷ ls)) o
  passed e None = refl
  passed e (Some q) = ap Some (append_assoc full (l ∷ []) (put_back ls (drop (length regs) q)) ∙ ap (λ xs. full ++ xs) (sym (back_ordinary l ls (drop (length regs) q) e)))

  -- so does a regular line where it was placed
  moved : (m : Line) (rest : List Line) → is_regular l ≡ true → (o : Option (List Line)) → place (regs ++ m ∷ []) rest ≡ o → option_map (woven (full ++ m ∷ []) (regs ++ m ∷ []) ls) o ≡ option_map (woven full regs (l ∷ ls)) o
  moved m rest e None is = refl
  moved m rest e (Some q) is =
      let f = found (regs ++ m ∷ []) rest q is in
      let first : drop (length (regs ++ m ∷ [])) q ≡ f.r = ap (drop (length (regs ++ m ∷ []))) f.is ∙ drop-append_seam (regs ++ m ∷ []) f.r in
      let second : drop (length regs) q ≡ m ∷ f.r = ap (drop (length regs)) (f.is ∙ append_assoc regs (m ∷ []) f.r) ∙ drop-append_seam regs (m ∷ f.r) in
      ap Some (
      ap (λ xs. (full ++ m ∷ []) ++ put_back ls xs) first ∙ append_assoc full (m ∷ []) (put_back ls f.r) ∙ ap (λ xs. full ++ xs) (sym (back_regular l m ls f.r e)) ∙ ap (λ xs. full ++ put_back (l ∷ ls) xs) (sym second))

pub among : (full regs ls : List Line) → filter is_regular full ≡ regs → place full ls ≡ option_map (woven full regs ls) (place regs (filter is_regular ls))
among full regs [] e = ap Some (sym (append-nil full))
among full regs (l ∷ ls) e =
    ⊎_elim
    (λ (yes : is_regular l ≡ true).
    let rest = filter is_regular ls in
    let kept : filter is_regular (l ∷ ls) ≡ l ∷ rest = simp yes in
    let step = λ (o : ℕ).
    let m = at l o in
    let pushed : filter is_regular (full ++ m ∷ []) ≡ regs ++ m ∷ [] = filter-append is_regular full (m ∷ []) ∙ ap (λ xs. xs ++ filter is_regular (m ∷ [])) e ∙ ap (λ xs. regs ++ xs) (simp yes) in
    let next = among (full ++ m ∷ []) (regs ++ m ∷ []) ls pushed ∙ moved full regs l ls m rest yes (place (regs ++ m ∷ []) rest) refl in
    let clear : clear_of full m ≡ clear_of regs m = clear_of_regular full m ∙ ap (λ xs. clear_of xs m) e in
    under (woven full regs (l ∷ ls)) (clear_of full m) (clear_of regs m) (place (full ++ m ∷ []) ls) (place (regs ++ m ∷ []) rest) clear next in
    place_regular full l ls yes
    ∙ try_map (woven full regs (l ∷ ls)) l.period 0 (candidate regs l rest) (candidate full l ls) step
    ∙ ap (option_map (woven full regs (l ∷ ls))) (sym (place_regular regs l rest yes) ∙ ap (place regs) (sym kept)))
    (λ (no : is_regular l ≡ false).
    let out : filter is_regular (l ∷ ls) ≡ filter is_regular ls = simp no in
    let same : filter is_regular (full ++ l ∷ []) ≡ regs = filter-append is_regular full (l ∷ []) ∙ ap (λ xs. filter is_regular full ++ xs) (simp no) ∙ append-nil (filter is_regular full) ∙ e in
    place_ordinary full l ls no ∙ among (full ++ l ∷ []) regs ls same ∙ passed full regs l ls no (place regs (filter is_regular ls)) ∙ ap (λ xs. option_map (woven full regs (l ∷ ls)) (place regs xs)) (sym out))
    (cases_Bool (is_regular l))
