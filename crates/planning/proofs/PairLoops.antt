-- The loops that look for a pair of lines that are too long for each other.
use Rattle.std.proofs.Common.{◌≡◌, ℕ, ◌+◌, ◌-◌, ◌<◌, ◌≤◌, Bool, true, false, cond, not, List, length, get_or, drop, Some, None, Option, Iter, sym, ap, ◌∙◌, arith, length-drop}
use Rattle.std.proofs.iter.Yields.{fronts}
use Rattle.std.proofs.lemmas.Bool.{cond-true, cond-false, and_from}
use Rattle.std.proofs.lemmas.Iterator.{YieldsList, YieldsList-from_slice}
use Rattle.std.proofs.lemmas.Iterator.Adapters.{YieldsList-from_skip}
use Rattle.std.proofs.lemmas.Iterator.Consumers.{YieldsList-at, YieldsList-from_enumerate, YieldsList-turn, YieldsList-end}
use Rattle.std.proofs.lemmas.List.{at_drop_more, at_drop_all, get_or-drop}
use Rattle.std.proofs.lemmas.List.FromFn.{length-enumerate_from, get_or-enumerate_from}
use Rattle.std.specs.Iterator.{Yields}
use Rattle.std.specs.Iterator.Adapters.{enumerate_source, enumerate_count, enumerate_steps, skip_source, skip_count, skip_steps}
use Rattle.std.specs.List.{enumerate_from, position_from}
use Rattle.std.specs.Option.{option_or, option_map}
use Rattle.std.specs.Slice.Iter.{iter_rest}
use Rattle.std.specs.declared.iter.Enumerate.{Enumerate}
use Rattle.std.specs.declared.iter.Skip.{Skip}
use Rattle.model.specs.Ranges.{is_regular}
use Rattle.model.specs.declared.line.Line.{Line}
use Rattle.windows.specs.Windows.{roomy_lines}
use Rattle.planning.proofs.ShortPairs.{long}
use Rattle.planning.specs.Offsets.{short_with, short_pair}

-- what the search has left at line i, which is a: the lines from place j on beside it, and then the lines behind it
abbrev pub left : List Line → Line → ℕ → ℕ → Option (ℕ × ℕ)
left ls a i j = option_or (short_with a i (j + 1) (drop j ls)) (short_pair (i + 1) (drop i ls))

-- one more line, of the lower lines and of the higher
pub lower_more : (ls : List Line) (i : ℕ) (d : Line) → i < length ls → (b : Bool) → b ≡ is_regular (get_or ls i d) → option_or (cond b (short_with (get_or ls i d) (i + 1) (i + 1 + 1) (drop (i + 1) ls)) None) (short_pair (i + 1 + 1) (drop (i + 1) ls)) ≡ short_pair (i + 1) (drop i ls)
lower_more ls i d inside b e =
    ap (λ t. option_or (cond t (short_with (get_or ls i d) (i + 1) (i + 1 + 1) (drop (i + 1) ls)) None) (short_pair (i + 1 + 1) (drop (i + 1) ls))) e
    ∙ sym (at_drop_more (short_pair (i + 1)) ls i d inside)

-- behind the last line nothing is left beside a
pub none_left : (a : Line) (ls : List Line) (i j : ℕ) → length ls ≤ j → left ls a i j ≡ short_pair (i + 1) (drop i ls)
none_left a ls i j h = ap (λ o. option_or o (short_pair (i + 1) (drop i ls))) (at_drop_all (short_with a i (j + 1)) ls j h)

module _ (a : Line) (ls : List Line) (i j : ℕ) (b : Line) (inside : j < length ls) (is : b ≡ get_or ls j b) where
  higher_more : position_from (long a) (j + 1) (drop j ls) ≡ cond (long a b) (Some (j + 1)) (position_from (long a) (j + 1 + 1) (drop (j + 1) ls))
  higher_more = at_drop_more (position_from (long a) (j + 1)) ls j b inside ∙ ap (λ x. cond (long a x) (Some (j + 1)) (position_from (long a) (j + 1 + 1) (drop (j + 1) ls))) (sym is)

  with_place : Option ℕ → Option (ℕ × ℕ)
  with_place o = option_or (option_map (λ k. (i, k)) o) (short_pair (i + 1) (drop i ls))

  pub passed_over : (n : ℕ) → n ≡ j + 1 → long a b ≡ false → left ls a i n ≡ left ls a i j
  unfolding with_place
  passed_over n next e = ap (left ls a i) next ∙ ap with_place (sym (higher_more ∙ cond-false (long a b) _ _ e))

  pub hit : (n : ℕ) → n ≡ j → is_regular b ≡ true → roomy_lines a b ≡ false → left ls a i j ≡ Some (i, n + 1)
  unfolding with_place
  hit n here r e = ap with_place (higher_more ∙ cond-true (long a b) _ _ (and_from (is_regular b) (not (roomy_lines a b)) r (ap not e))) ∙ ap (λ m. Some (i, m + 1)) (sym here)

-- the lines from place n on, with their places
abbrev pub placed_from : ℕ → List Line → List (ℕ × Line)
placed_from n ls = drop n (enumerate_from 0 ls)

length_placed_from : (n : ℕ) (ls : List Line) → length (placed_from n ls) ≡ length ls - n
length_placed_from n ls = simp (length-drop, length-enumerate_from)

at_place : (ls : List Line) (n k : ℕ) (p : ℕ × Line) → k < length (placed_from n ls) → p ≡ get_or (placed_from n ls) k p → (n + k < length ls) × (p.0 ≡ n + k) × (p.1 ≡ get_or ls (n + k) p.1)
at_place ls n k p h e =
    let inside : n + k < length ls = omega (arith, length_placed_from n ls) in
    let is : p ≡ (0 + (n + k), get_or ls (n + k) p.1) = e ∙ get_or-drop n (enumerate_from 0 ls) k p ∙ get_or-enumerate_from 0 ls (n + k) p inside in
    let first : p.0 ≡ 0 + (n + k) = ap (λ q. q.0) is in
    (inside, omega arith, ap (λ q. q.1) is)

-- what `lines.iter().enumerate().skip(n)` gives
pub numbered : (ls : List Line) (n : ℕ) (t : Iter Line) (e : Enumerate (Iter Line)) (s : Skip (Enumerate (Iter Line))) → iter_rest t ≡ ls → enumerate_source e ≡ t → enumerate_count e ≡ 0 → skip_source s ≡ e → skip_count s ≡ n → YieldsList (skip_steps (enumerate_steps fronts)) (λ p. (p.0, p.1.now)) s (placed_from n ls)
numbered ls n t e s rest source count skipped by = YieldsList-from_skip n (YieldsList-at skipped (YieldsList-from_enumerate (YieldsList-at source (YieldsList-from_slice ls rest)) count)) by

-- in a `for` over it that has yielded xs: the line of this turn, and that none is left at the end
module _ {S A : Type 0} {steps : S → Option A → S → Type 0} {v : A → ℕ × Line} {s : S} (ls : List Line) (n : ℕ) (road : YieldsList steps v s (placed_from n ls)) (xs : List A) (t : S) (y : Yields steps s xs t) (r : Option A) (u : S) where
  pub this_line : (x : A) → r ≡ Some x → steps t r u → (n + length xs < length ls) × ((v x).0 ≡ n + length xs) × ((v x).1 ≡ get_or ls (n + length xs) (v x).1)
  this_line x is step = let turn = YieldsList-turn road xs t y r u x is step in at_place ls n (length xs) (v x) turn.0 turn.1

  pub at_end : r ≡ None → steps t r u → length ls ≤ n + length xs
  at_end is step = let all = (YieldsList-end road xs t y r u is step).1 in omega (arith, length_placed_from n ls)
