-- A pair that is found is one that no offsets keep apart.
use Rattle.std.proofs.Common.{◌≡◌, ℕ, suc, ◌+◌, ◌-◌, ◌<◌, Bool, true, false, not, ◌&&◌, ◌⊎◌, List, [], ◌∷◌, length, get_or, Some, None, Option, refl, subst, arith}
use Rattle.std.proofs.lemmas.Bool.{and_parts, not-true, not-false, leb-false}
use Rattle.std.specs.List.{position_from}
use Rattle.std.proofs.lemmas.Grind.{common_steps}
use Rattle.model.specs.Ranges.{is_regular, blank}
use Rattle.model.specs.declared.line.Line.{Line}
use Rattle.windows.specs.Windows.{roomy_lines}
use Rattle.windows.specs.Euclid.{gcd_of}
use Rattle.windows.proofs.Room.{too_long}
use Rattle.planning.proofs.Positions.{FirstAt, first_at, none_passes}
use Rattle.planning.specs.Offsets.{short_pair, FirstNeverApart}

-- b is regular, and too long beside a
abbrev pub long : Line → Line → Bool
long a b = is_regular b && not (roomy_lines a b)

-- the lines at places x and y of ls, where regular, are not too long for each other
abbrev Fine : List Line → ℕ → ℕ → Type 0
Fine ls x y = x < y → y < length ls → is_regular (get_or ls x blank) ≡ true → long (get_or ls x blank) (get_or ls y blank) ≡ false

-- places m and k of ls, where lines are counted from i, hold the first two regular lines that are too long for each other
record Short (i : ℕ) (ls : List Line) (pair : ℕ × ℕ) : Type 0 where
  m : ℕ
  k : ℕ
  order : m < k
  inside : k < length ls
  first : pair.0 ≡ i + m
  second : pair.1 ≡ i + k
  low : is_regular (get_or ls m blank) ≡ true
  high : long (get_or ls m blank) (get_or ls k blank) ≡ true
  before : (x y : ℕ) → (x < m) ⊎ ((x ≡ m) × (y < k)) → Fine ls x y

module _ (i : ℕ) (a : Line) (bs : List Line) where
  beside : (k : ℕ) → is_regular a ≡ true → FirstAt (long a) (i + 1) bs blank k → Short i (a ∷ bs) (i, k)
  beside k reg w = record {
    m = 0;
    k = suc w.m;
    order = omega arith;
    inside = omega (arith, w.inside);
    first = omega arith;
    second = omega (arith, w.is);
    low = reg;
    high = w.here;
    before = λ x y h o n r. grind (arith, common_steps, w.before (y - 1));
  }

  behind : (pair : ℕ × ℕ) → ((y : ℕ) → y < length bs → is_regular a ≡ true → long a (get_or bs y blank) ≡ false) → Short (i + 1) bs pair → Short i (a ∷ bs) pair
  behind pair none w = record {
    m = suc w.m;
    k = suc w.k;
    order = omega (arith, w.order);
    inside = omega (arith, w.inside);
    first = omega (arith, w.first);
    second = omega (arith, w.second);
    low = w.low;
    high = w.high;
    before = λ x y h o n r. grind (arith, common_steps, none (y - 1), w.before (x - 1) (y - 1));
  }

short : (i : ℕ) (ls : List Line) (pair : ℕ × ℕ) → short_pair i ls ≡ Some pair → Short i ls pair
short i [] pair e = cc
short i (a ∷ bs) pair e = go (short (i + 1) bs pair) (is_regular a) (position_from (long a) (i + 1) bs) refl refl
  where
    go : (short_pair (i + 1) bs ≡ Some pair → Short (i + 1) bs pair) → (r : Bool) (o : Option ℕ) → is_regular a ≡ r → position_from (long a) (i + 1) bs ≡ o → Short i (a ∷ bs) pair
    go next true (Some k) reg f = let p : (i, k) ≡ pair = (let q = simp (reg, f) at e in cc) in subst (Short i (a ∷ bs)) p (beside i a bs k reg (first_at (long a) (i + 1) bs blank k f))
    go next true None reg f = behind i a bs pair (λ y h _. none_passes (long a) (i + 1) bs blank f y h) (next (simp (reg, f) at e))
    go next false o reg f = behind i a bs pair (λ y h r. cc) (next (simp reg at e))

-- a line that is not too long is roomy, if it is regular
fits : (b t : Bool) → (b && not t) ≡ false → b ≡ true → t ≡ true
fits true t e h = not-false t e
fits false t e h = cc

pub never_apart : (ls : List Line) (pair : ℕ × ℕ) → short_pair 1 ls ≡ Some pair → FirstNeverApart ls pair
never_apart ls pair e =
    let w = short 1 ls pair e in
    let m : pair.0 - 1 ≡ w.m = omega (arith, w.first) in
    let k : pair.1 - 1 ≡ w.k = omega (arith, w.second) in
    let a = get_or ls w.m blank in
    let b = get_or ls w.k blank in
    let high = and_parts (is_regular b) (not (roomy_lines a b)) w.high in
    record {
      order = (omega (arith, w.first), omega (arith, w.first, w.second, w.order), omega (arith, w.second, w.inside));
      regular = (rw m w.low, rw k high.0);
      never = rw (m, k) (too_long a b (leb-false (a.length + b.length) (gcd_of a.period b.period) (not-true (roomy_lines a b) high.1)));
      before = λ x y o n rx ry early. fits (is_regular (get_or ls y blank)) (roomy_lines (get_or ls x blank) (get_or ls y blank)) (w.before x y (grind (arith, w.first, w.second, early)) o n rx) ry;
    }
