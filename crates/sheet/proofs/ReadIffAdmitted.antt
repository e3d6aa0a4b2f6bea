-- A text is read if and only if the grammar admits it, and then as what it says; what is read keeps the limits.
use Rattle.std.proofs.Common.{◌≡◌, ℕ, ◌≤◌, true, false, List, length, All, Ok, Err, Decides, refl, subst, arith}
use Rattle.std.proofs.lemmas.List.Elements.{All-get_or, All-map, All-weaker}
use Rattle.std.proofs.lemmas.List.{length-map}
use Rattle.model.specs.declared.fault.Fault.{Fault}
use Rattle.model.specs.declared.policy.Policy.{Policy}
use Rattle.model.specs.Ranges.{Ranged, AllRanged, regulars, blank}
use Rattle.model.specs.TaskSets.{TaskSet}
use Rattle.sheet.specs.Grammar.{NamedTask, Sound, Admits, Admitted, Says, lines_of_tasks}
use Rattle.sheet.specs.Reading.{read_sheet}
use Rattle.sheet.proofs.Complete.{every}
use Rattle.sheet.proofs.Only.{only}

pub read_admitted : (text : List ℕ) (s : TaskSet) → read_sheet text ≡ Ok s → Decides true (Admitted text) × Says text s
read_admitted text s e =
    let o = only text s e in
    ((λ _. (s.policy, (o.0, o.1)), λ _. refl), λ p ts a. let g = every text p ts a in cc)

pub refused_not_admitted : (text : List ℕ) (d : Fault) (s : TaskSet) → read_sheet text ≡ Err d → Decides false (Admitted text) × Says text s
refused_not_admitted text d s e =
    ((λ z. let k : ◌≡◌ {A = ℕ} 0 1 = cc in absurd (omega arith), λ a. absurd (never a.0 a.1.0 a.1.1)), λ p ts a. absurd (never p ts a))
  where
    never : (p : Policy) (ts : List NamedTask) → Admits text p ts → ⊥
    never p ts a = let g = every text p ts a in let k : ◌≡◌ {A = ℕ} 0 1 = cc in omega arith

pub limits : (text : List ℕ) (s : TaskSet) → read_sheet text ≡ Ok s → AllRanged s.lines × (regulars s.lines ≤ 8) × (length s.lines ≤ 24)
limits text s e =
    let o = only text s e in
    let ts = o.0 in
    let ranged : All Ranged (lines_of_tasks ts) = All-map Ranged (λ t. t.line) ts (All-weaker Sound (λ t. Ranged t.line) (λ t s. s.1) ts o.1.sound) in
    subst (λ xs. AllRanged xs × (regulars xs ≤ 8) × (length xs ≤ 24)) o.2
    (λ i h. All-get_or Ranged (lines_of_tasks ts) i blank h ranged, o.1.limited, omega (arith, length-map ts (λ t. t.line), o.1.few))
