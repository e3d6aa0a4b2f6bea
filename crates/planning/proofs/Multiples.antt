-- The hyperperiod is what its name says, and passes the limit exactly if some front of the list does.
use Rattle.std.proofs.Common.{◌≡◌, ℕ, suc, ◌+◌, ◌-◌, ◌<◌, ◌≤◌, true, false, cond, ltb, Bool, List, [], ◌∷◌, length, get_or, take, drop, Some, None, sym, refl, ap, ◌∙◌, subst, arith}
use Prim.Native.Nat.{◌∣◌}
use native.Mathlib.Nat.{dvd_refl, dvd_trans, one-dvd, le_of_dvd}
use Rattle.std.proofs.lemmas.List.{at_drop_more}
use Rattle.std.proofs.lemmas.Bool.{cond-true, cond-false, lt-ltb, le-ltb, ltb-true, ltb-false}
use Rattle.std.proofs.lemmas.Grind.{common_steps}
use Rattle.std.specs.List.{fold, AllByRecursion}
use Rattle.model.specs.declared.line.Line.{Line}
use Rattle.windows.specs.Euclid.{lcm_of}
use Rattle.windows.proofs.Lcm.{lcm_is, lcm_positive}
use Rattle.planning.specs.Hyperperiods.{hyperperiod, passes_at, limit, PassesFirst, IsHyperperiod}

-- the least common multiple of h and all periods
abbrev pub hyper_from : ℕ → List Line → ℕ
hyper_from h ls = fold (λ m l. lcm_of m l.period) h ls

-- every period divides n
abbrev Common : ℕ → List Line → Type 0
Common n ls = AllByRecursion (λ l. l.period ∣ n) ls

goes_in : (h : ℕ) (ls : List Line) → h ∣ hyper_from h ls
goes_in h [] = dvd_refl h
goes_in h (l ∷ ls) = dvd_trans h (lcm_is h l.period).left (goes_in (lcm_of h l.period) ls)

common : (h : ℕ) (ls : List Line) → Common (hyper_from h ls) ls
common h [] = tt
common h (l ∷ ls) = (dvd_trans l.period (lcm_is h l.period).right (goes_in (lcm_of h l.period) ls), common (lcm_of h l.period) ls)

least : (h : ℕ) (ls : List Line) (n : ℕ) → h ∣ n → Common n ls → hyper_from h ls ∣ n
least h [] n d c = d
least h (l ∷ ls) n d c = least (lcm_of h l.period) ls n ((lcm_is h l.period).least n d c.0) c.1

pub is_hyperperiod : (ls : List Line) → IsHyperperiod ls (hyperperiod ls)
is_hyperperiod ls = record { common = common 1 ls; least = λ n c. least 1 ls n (one-dvd n) c }

abbrev Positive : List Line → Type 0
Positive ls = AllByRecursion (λ l. 0 < l.period) ls

pub positive : (h : ℕ) (ls : List Line) → 0 < h → Positive ls → 0 < hyper_from h ls
positive h [] p a = p
positive h (l ∷ ls) p a = positive (lcm_of h l.period) ls (lcm_positive h l.period p a.0) a.1

pub none_within : (n h : ℕ) (ls : List Line) → h ≤ limit → passes_at n h ls ≡ None → hyper_from h ls ≤ limit
none_within n h [] b e = b
none_within n h (l ∷ ls) b e = let m = lcm_of h l.period in grind (arith, common_steps, ltb-false limit m, none_within (n + 1) m ls)

pub within_none : (n h : ℕ) (ls : List Line) → 0 < h → Positive ls → hyper_from h ls ≤ limit → passes_at n h ls ≡ None
within_none n h [] p a b = refl
within_none n h (l ∷ ls) p a b =
    let m = lcm_of h l.period in
    let pm : 0 < m = lcm_positive h l.period p a.0 in
    let up : m ≤ hyper_from m ls = le_of_dvd (positive m ls pm a.1) (goes_in m ls) in
    let short : ltb limit m ≡ false = le-ltb limit m (omega arith) in
    simp short (within_none (n + 1) m ls pm a.1 b)

-- place i holds the first line with which the multiple, h before ls, passes the limit
record Passing (n h : ℕ) (ls : List Line) (k : ℕ) : Type 0 where
  i : ℕ
  inside : i < length ls
  is : k ≡ n + i
  before : hyper_from h (take i ls) ≤ limit
  past : limit < hyper_from h (take (suc i) ls)

passing : (n h : ℕ) (ls : List Line) (k : ℕ) → h ≤ limit → passes_at n h ls ≡ Some k → Passing n h ls k
passing n h [] k b e = cc
passing n h (l ∷ ls) k b e = go (passing (n + 1) (lcm_of h l.period) ls k) (ltb limit (lcm_of h l.period)) refl
  where
    go : (lcm_of h l.period ≤ limit → passes_at (n + 1) (lcm_of h l.period) ls ≡ Some k → Passing (n + 1) (lcm_of h l.period) ls k) → (r : Bool) → ltb limit (lcm_of h l.period) ≡ r → Passing n h (l ∷ ls) k
    go next true t = record { i = 0; inside = omega arith; is = grind (arith, common_steps); before = b; past = ltb-true limit (lcm_of h l.period) t }
    go next false t =
        let w = next (ltb-false limit (lcm_of h l.period) t) (simp t at e) in
        record { i = suc w.i; inside = omega (arith, w.inside); is = omega (arith, w.is); before = w.before; past = w.past }

pub passes_first : (ls : List Line) (k : ℕ) → passes_at 1 1 ls ≡ Some k → PassesFirst ls k
passes_first ls k e =
    let r = passing 1 1 ls k (omega arith) e in
    let before : r.i ≡ k - 1 = omega (arith, r.is) in
    let past : suc r.i ≡ k = omega (arith, r.is) in
    record {
      place = (omega (arith, r.is), omega (arith, r.is, r.inside));
      before = subst (λ i. hyperperiod (take i ls) ≤ limit) before r.before;
      past = subst (λ i. limit < hyperperiod (take i ls)) past r.past;
    }

-- one more line of a list, where m is its multiple with h
module _ (ls : List Line) (i h m : ℕ) (d : Line) (inside : i < length ls) (is : m ≡ lcm_of h (get_or ls i d).period) where
  passes_more : passes_at (i + 1) h (drop i ls) ≡ cond (ltb limit m) (Some (i + 1)) (passes_at (i + 1 + 1) m (drop (i + 1) ls))
  passes_more = at_drop_more (passes_at (i + 1) h) ls i d inside ∙ ap (λ n. cond (ltb limit n) (Some (i + 1)) (passes_at (i + 1 + 1) n (drop (i + 1) ls))) (sym is)

  pub goes_past : limit < m → passes_at (i + 1) h (drop i ls) ≡ Some (i + 1)
  goes_past l = passes_more ∙ cond-true (ltb limit m) _ _ (lt-ltb limit m l)

  pub stays_within : m ≤ limit → (passes_at (i + 1 + 1) m (drop (i + 1) ls) ≡ passes_at (i + 1) h (drop i ls)) × (hyper_from m (drop (i + 1) ls) ≡ hyper_from h (drop i ls))
  stays_within l = (
    sym (passes_more ∙ cond-false (ltb limit m) _ _ (le-ltb limit m l)),
    ap (λ n. hyper_from n (drop (i + 1) ls)) is ∙ sym (at_drop_more (hyper_from h) ls i d inside),
  )
