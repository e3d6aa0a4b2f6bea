-- Offsets for the regular lines of a sheet.
--   short_pair, short_with   the first pair of regular lines that no offsets keep apart
--   FirstNeverApart          a pair is the first that no offsets keep apart
--   clear_of                 a line is apart from every regular line of a list
--   try_from, place          backtracking: line by line, smallest offset first, back where a line has none left
--   put_back                 lines in their places, the regular ones replaced in turn
--   Placing                  a list of lines with lawful offsets
--   NotAfter                 one such list comes no later than another, in dictionary order
--   Least                    the first such list
use Rattle.std.specs.Prelude.{◌≡◌, ℕ, zero, suc, ◌+◌, ◌-◌, ◌<◌, ◌≤◌, Bool, true, false, cond, not, ◌&&◌, ◌||◌, ◌⊎◌, List, [], ◌∷◌, ◌++◌, length, get_or, take, Some, None, Option, slice_index_or}
use Rattle.std.specs.Option.{option_or, option_map}
use Rattle.std.specs.List.{list_all, position_from}
use Rattle.model.specs.Ranges.{is_regular, blank}
use Rattle.model.specs.declared.line.Line.{Line}
use Rattle.windows.specs.Windows.{Meet, apart_lines, roomy_lines, at, Crowded}

-- Line i, which is a, against the lines behind it, of which the next is line j.
abbrev pub short_with : Line → ℕ → ℕ → List Line → Option (ℕ × ℕ)
short_with a i j bs = option_map (λ k. (i, k)) (position_from (λ b. is_regular b && not (roomy_lines a b)) j bs)

-- Pairs go by their lower line, then by their higher; lines are counted from i.
abbrev pub short_pair : ℕ → List Line → Option (ℕ × ℕ)
short_pair i [] = None
short_pair i (a ∷ bs) = option_or (cond (is_regular a) (short_with a i (i + 1) bs) None) (short_pair (i + 1) bs)

-- Two regular lines, counted from 1, the lower first, that no offsets keep apart; every two regular
-- lines before them, by the lower line and then by the higher, are short enough for each other.
pub record FirstNeverApart (ls : List Line) (pair : ℕ × ℕ) : Type 0 where
  pub order : (0 < pair.0) × (pair.0 < pair.1) × (pair.1 ≤ length ls)
  pub regular : (is_regular (slice_index_or ls (pair.0 - 1) blank) ≡ true) × (is_regular (slice_index_or ls (pair.1 - 1) blank) ≡ true)
  pub never : Crowded (slice_index_or ls (pair.0 - 1) blank) (slice_index_or ls (pair.1 - 1) blank)
  pub before : (i j : ℕ) → i < j → j < length ls → is_regular (slice_index_or ls i blank) ≡ true → is_regular (slice_index_or ls j blank) ≡ true → (i + 1 < pair.0) ⊎ ((i + 1 ≡ pair.0) × (j + 1 < pair.1)) → roomy_lines (slice_index_or ls i blank) (slice_index_or ls j blank) ≡ true

-- No regular line of the list meets l, by the pair test.
abbrev pub clear_of : List Line → Line → Bool
clear_of placed l = list_all (λ a. not (is_regular a) || apart_lines a l) placed

-- The first of n candidates, from o on, that leads to something.
abbrev pub try_from : {X : Type 0} → ℕ → ℕ → (ℕ → Option X) → Option X
try_from zero o f = None
try_from (suc n) o f = option_or (f o) (try_from n (o + 1) f)

-- `placed` have their offsets, and the lines behind them get theirs; an ordinary line keeps its own.
abbrev pub place : List Line → List Line → Option (List Line)
place placed [] = Some placed
place placed (l ∷ ls) =
    cond (is_regular l)
    (try_from l.period 0 (λ o. cond (clear_of placed (at l o)) (place (placed ++ at l o ∷ []) ls) None))
    (place (placed ++ l ∷ []) ls)

-- The lines in their places: the regular ones are those of the second list, in turn, while it lasts.
abbrev pub put_back : List Line → List Line → List Line
put_back [] q = []
put_back (l ∷ ls) [] = l ∷ put_back ls []
put_back (l ∷ ls) (m ∷ ms) = cond (is_regular l) (m ∷ put_back ls ms) (l ∷ put_back ls (m ∷ ms))

-- q is ls with offsets for its regular lines, each below its line's period, and no two of them meet.
pub record Placing (ls q : List Line) : Type 0 where
  pub whole : length q ≡ length ls
  pub same : (i : ℕ) → i < length ls → slice_index_or q i blank ≡ at (slice_index_or ls i blank) (get_or q i blank).offset
  pub ordinary : (i : ℕ) → i < length ls → is_regular (slice_index_or ls i blank) ≡ false → slice_index_or q i blank ≡ slice_index_or ls i blank
  pub below : (i : ℕ) → i < length ls → is_regular (slice_index_or ls i blank) ≡ true → (get_or q i blank).offset < (get_or ls i blank).period
  pub clear : (i j : ℕ) → i < j → j < length ls → is_regular (slice_index_or ls i blank) ≡ true → is_regular (slice_index_or ls j blank) ≡ true → Meet (slice_index_or q i blank) (slice_index_or q j blank) → ⊥

-- They are the same, or at the first place where they differ q has the smaller offset.
abbrev pub NotAfter : List Line → List Line → Type 0
NotAfter q s = (q ≡ s) ⊎ ((k : ℕ) × (take k q ≡ take k s) × ((get_or q k blank).offset < (get_or s k blank).offset))

-- q is a placing of ls, and no other comes before it.
pub record Least (ls q : List Line) : Type 0 where
  pub is : Placing ls q
  pub first : (s : List Line) → Placing ls s → NotAfter q s
