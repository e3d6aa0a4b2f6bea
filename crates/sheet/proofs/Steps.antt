-- The field reader at the third field of a line and behind it, and what it reads there.
use Rattle.std.proofs.Common.{◌≡◌, ℕ, ◌+◌, ◌≤◌, List, drop, Result, sym, refl, ap, ◌∙◌, arith}
use Rattle.std.proofs.lemmas.List.{drop-drop}
use Rattle.model.specs.declared.fault.Fault.{Fault}
use Rattle.sheet.specs.declared.field.Fields.{Fields}
use Rattle.sheet.specs.FieldReader.{left, Moved}

-- a reader of the line at its field n, with these fields to come
pub record At (line n : ℕ) (fields : List (List ℕ)) (s : Fields) : Type 0 where
  pub line_is : s.place.line ≡ line
  pub field_is : s.place.field ≡ n
  pub rest : left s ≡ fields

step : (s t : Fields) (line n : ℕ) (fields next : List (List ℕ)) → At line n fields s → n ≤ 6 → drop 1 fields ≡ next → Moved s t → At line (n + 1) next t
step s t line n fields next at few e m = record {
  line_is = ap (λ p. p.line) m.1 ∙ at.line_is;
  field_is = ap (λ p. p.field) m.1 ∙ omega (arith, at.field_is);
  rest = m.0 ∙ ap (drop 1) at.rest ∙ e;
}

pub reads : {line n : ℕ} {fields : List (List ℕ)} {s : Fields} → At line n fields s → {X : Type 0} (read : ℕ → ℕ → List (List ℕ) → Result X Fault) (r : Result X Fault) → r ≡ read s.place.line s.place.field (left s) → read line n fields ≡ r
reads at read r e = rw (← at.line_is, ← at.field_is, ← at.rest) (sym e)

module _ (s : Fields) (is_third : s.place.field ≡ 3) where
  pub third : At s.place.line 3 (left s) s
  third = record { line_is = refl; field_is = is_third; rest = refl }

  pub fourth : (t : Fields) → Moved s t → At s.place.line 4 (drop 1 (left s)) t
  fourth t m = step s t s.place.line 3 (left s) (drop 1 (left s)) third (omega arith) refl m

  pub fifth : (t u : Fields) → Moved s t → Moved t u → At s.place.line 5 (drop 2 (left s)) u
  fifth t u m n = step t u s.place.line 4 (drop 1 (left s)) (drop 2 (left s)) (fourth t m) (omega arith) (drop-drop 1 1 (left s)) n

  pub sixth : (t u v : Fields) → Moved s t → Moved t u → Moved u v → At s.place.line 6 (drop 3 (left s)) v
  sixth t u v m n o = step u v s.place.line 5 (drop 2 (left s)) (drop 3 (left s)) (fifth t u m n) (omega arith) (drop-drop 1 2 (left s)) o
