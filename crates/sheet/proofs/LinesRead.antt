-- The fields that are read as a line are the words of a task.
use Rattle.std.proofs.Common.{◌≡◌, ℕ, ◌≤◌, Bool, true, false, ◌&&◌, List, [], ◌∷◌, drop, Some, Ok, decimal, refl, arith}
use Rattle.std.proofs.lemmas.Bool.Decides.{nat_tests}
use Rattle.std.proofs.lemmas.List.{drop-drop}
use Rattle.model.specs.declared.kind.Kind.{Kind}
use Rattle.model.specs.declared.line.Line.{Line}
use Rattle.model.specs.Ranges.{regular_kind, is_regular, Ranged}
use Rattle.model.proofs.Results.{and_then_ok}
use Rattle.sheet.specs.Grammar.{letter, task_words, Sound}
use Rattle.sheet.specs.Reading.{kind_of, is_name, read_kind, read_name, read_number, read_end, read_figures, read_fields}
use Rattle.sheet.proofs.Numbers.{number_is}

kind_is : (p : List ℕ) (k : Kind) → kind_of p ≡ Some k → p ≡ letter k ∷ []
kind_is [] k e = cc
kind_is (b ∷ []) k e = grind (arith, nat_tests)
kind_is (b ∷ c ∷ bs) k e = cc

read_kind_lem : (n : ℕ) (full : Bool) (ps : List (List ℕ)) (k : Kind) → read_kind n full ps ≡ Ok k → (ps ≡ (letter k ∷ []) ∷ drop 1 ps) × ((full && regular_kind k) ≡ false)
read_kind_lem n full [] k e = cc
read_kind_lem n full (p ∷ ps) k e = grind (arith, nat_tests, kind_is)

read_name_lem : (n : ℕ) (ps : List (List ℕ)) (u : Unit {0}) → read_name n ps ≡ Ok u → (name : List ℕ) × (ps ≡ name ∷ drop 1 ps) × (is_name name ≡ true)
read_name_lem n [] u e = cc
read_name_lem n (p ∷ ps) u e = (p, refl, grind (arith, nat_tests))

read_number_lem : (n f low : ℕ) (ps : List (List ℕ)) (v : ℕ) → read_number n f low ps ≡ Ok v → (ps ≡ decimal v ∷ drop 1 ps) × (low ≤ v) × (v ≤ 60000)
read_number_lem n f low [] v e = cc
read_number_lem n f low (p ∷ ps) v e = grind (arith, nat_tests, number_is)

read_end_lem : (n : ℕ) (ps : List (List ℕ)) (u : Unit {0}) → read_end n ps ≡ Ok u → ps ≡ []
read_end_lem n [] u e = refl
read_end_lem n (p ∷ ps) u e = cc

read_figures_lem : (n : ℕ) (k : Kind) (ps : List (List ℕ)) (l : Line) → read_figures n k ps ≡ Ok l → (ps ≡ decimal l.offset ∷ decimal l.length ∷ decimal l.deadline ∷ decimal l.period ∷ []) × Ranged l × (l.kind ≡ k)
read_figures_lem n k ps l e =
    let r = and_then_ok (read_number n 3 0 ps) _ l e in
    let c = and_then_ok (read_number n 4 1 (drop 1 ps)) _ l r.2 in
    let d = and_then_ok (read_number n 5 c.0 (drop 2 ps)) _ l c.2 in
    let t = and_then_ok (read_number n 6 d.0 (drop 3 ps)) _ l d.2 in
    let u = and_then_ok (read_end n (drop 4 ps)) _ l t.2 in
    let r' = read_number_lem n 3 0 ps r.0 r.1 in
    let c' = read_number_lem n 4 1 (drop 1 ps) c.0 c.1 in
    let d' = read_number_lem n 5 c.0 (drop 2 ps) d.0 d.1 in
    let t' = read_number_lem n 6 d.0 (drop 3 ps) t.0 t.1 in
    let end = read_end_lem n (drop 4 ps) u.0 u.1 in
    let words : ps ≡ decimal r.0 ∷ decimal c.0 ∷ decimal d.0 ∷ decimal t.0 ∷ [] = cc (drop-drop 1 1 ps, drop-drop 1 2 ps, drop-drop 1 3 ps) in
    let line : record { kind = k; offset = r.0; length = c.0; deadline = d.0; period = t.0 } ≡ l = cc in
    rw (← line) (words, (r'.2, c'.1, d'.1, t'.1, t'.2), refl)

-- the fields are the words of a sound task, which is regular only where one more may be
abbrev pub ReadAs : Bool → List (List ℕ) → Line → Type 0
ReadAs full ps l = (name : List ℕ) × (ps ≡ task_words (record { name = name; line = l })) × Sound (record { name = name; line = l }) × ((full && is_regular l) ≡ false)

pub read_fields_lem : (n : ℕ) (full : Bool) (ps : List (List ℕ)) (l : Line) → read_fields n full ps ≡ Ok l → ReadAs full ps l
read_fields_lem n full ps l e =
    let k = and_then_ok (read_kind n full ps) _ l e in
    let m = and_then_ok (read_name n (drop 1 ps)) _ l k.2 in
    let k' = read_kind_lem n full ps k.0 k.1 in
    let m' = read_name_lem n (drop 1 ps) m.0 m.1 in
    let f = read_figures_lem n k.0 (drop 2 ps) l m.2 in
    (m'.0, cc (drop-drop 1 1 ps), (m'.2, f.1), rw f.2 k'.1)
