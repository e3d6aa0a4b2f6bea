-- What is read is a text that the grammar admits.
use Rattle.std.proofs.Common.{◌≡◌, ℕ, ◌+◌, ◌<◌, ◌≤◌, Bool, true, false, cond, ◌&&◌, leb, List, [], ◌∷◌, ◌++◌, length, drop, map, All, Some, Ok, sym, refl, ap, ◌∙◌, append_assoc, append-nil, arith, length-append}
use Rattle.std.proofs.lemmas.List.Elements.{All-nil, All-cons}
use Rattle.std.proofs.lemmas.List.Splits.{join_with_byte-slice_split}
use Rattle.std.proofs.lemmas.List.{length-map}
use Rattle.std.proofs.lemmas.Bool.Decides.{nat_tests}
use Rattle.model.specs.declared.line.Line.{Line}
use Rattle.model.specs.declared.policy.Policy.{Policy}
use Rattle.model.specs.Ranges.{is_regular, regulars}
use Rattle.model.specs.TaskSets.{TaskSet, task_set}
use Rattle.sheet.specs.Cutting.{lines_of, fields_of}
use Rattle.sheet.specs.Grammar.{NamedTask, spaced, policy_word, lines_of_tasks, Sound, Admits}
use Rattle.sheet.specs.Reading.{read_line, read_tasks, policy_of, read_policy, read_lines, is_ended, read_sheet}
use Rattle.sheet.proofs.Joins.{ended, ended_lines, line_text, sheet_ended}
use Rattle.sheet.proofs.Regulars.{regulars_push}
use Rattle.sheet.proofs.LinesRead.{ReadAs, read_fields_lem}
use Rattle.model.specs.Results.{and_then}
use Rattle.model.proofs.Results.{and_then_ok}

-- one line more leaves at most eight regular ones
limit_kept : (n : ℕ) (regular : Bool) → n ≤ 8 → (leb 8 n && regular) ≡ false → n + cond regular 1 0 ≤ 8
limit_kept n regular few e = grind (arith, nat_tests)

-- the lines read behind `done` are the texts of sound tasks, and the limits are kept
pub record Tasks (done : List Line) (texts : List (List ℕ)) (ls : List Line) : Type 0 where
  pub tasks : List NamedTask
  pub text : texts ≡ map line_text tasks
  pub lines : done ++ lines_of_tasks tasks ≡ ls
  pub sound : All Sound tasks
  pub few : length ls ≤ 24
  pub limited : regulars ls ≤ 8

-- one line more in front
more_tasks : (done : List Line) (full : Bool) (t : List ℕ) (texts : List (List ℕ)) (l : Line) (ls : List Line) → ReadAs full (fields_of t) l → Tasks (done ++ l ∷ []) texts ls → Tasks done (t ∷ texts) ls
more_tasks done full t texts l ls f rest =
    let task : NamedTask = record { name = f.0; line = l } in
    record {
      tasks = task ∷ rest.tasks;
      text = let line : t ≡ line_text task = sym (join_with_byte-slice_split 32 t) ∙ ap spaced f.1 in rw (line, rest.text);
      lines = sym (append_assoc done (l ∷ []) (lines_of_tasks rest.tasks)) ∙ rest.lines;
      sound = All-cons Sound task rest.tasks f.2 rest.sound;
      few = rest.few;
      limited = rest.limited;
    }

read_tasks_lem : (done : List Line) (texts : List (List ℕ)) (ls : List Line) → length done ≤ 24 → regulars done ≤ 8 → read_tasks done texts ≡ Ok ls → Tasks done texts ls
read_tasks_lem done [] ls few limited e =
    let same : done ≡ ls = cc in
    rw (← same) (record { tasks = []; text = refl; lines = append-nil done; sound = All-nil Sound; few = few; limited = limited })
read_tasks_lem done (t ∷ texts) ls few limited e =
    let full = leb 8 (regulars done) in
    let below : length done < 24 = grind (arith, nat_tests) in
    let read : and_then (read_line (length done + 1) full t) (λ l. read_tasks (done ++ l ∷ []) texts) ≡ Ok ls = grind (arith, nat_tests) in
    let o = and_then_ok (read_line (length done + 1) full t) _ ls read in
    let l = o.0 in
    let f = read_fields_lem (length done + 1) full (fields_of t) l o.1 in
    let more : length (done ++ l ∷ []) ≤ 24 = simp length-append (omega arith) in
    let still : regulars (done ++ l ∷ []) ≤ 8 = rw regulars_push (limit_kept (regulars done) (is_regular l) limited f.3) in
    more_tasks done full t texts l ls f (read_tasks_lem (done ++ l ∷ []) texts ls more still o.2)

policy_is : (t : List ℕ) (p : Policy) → policy_of t ≡ Some p → t ≡ policy_word p
policy_is [] p e = cc
policy_is (b ∷ []) p e = cc
policy_is (b ∷ c ∷ []) p e = grind (arith, nat_tests)
policy_is (b ∷ c ∷ d ∷ bs) p e = cc

read_policy_lem : (ls : List (List ℕ)) (p : Policy) → read_policy ls ≡ Ok p → ls ≡ policy_word p ∷ drop 1 ls
read_policy_lem [] p e = cc
read_policy_lem (t ∷ ts) p e = grind (arith, policy_is)

-- what is read of a text is what the grammar says of it
pub only : (text : List ℕ) (s : TaskSet) → read_sheet text ≡ Ok s → (ts : List NamedTask) × Admits text s.policy ts × (lines_of_tasks ts ≡ s.lines)
only text s e =
    let ls = lines_of text in
    let short : length text ≤ 4096 = grind (arith, nat_tests) in
    let end : is_ended text ≡ true = grind (arith, nat_tests) in
    let read : read_lines ls ≡ Ok s = grind (arith, nat_tests) in
    let p = and_then_ok (read_policy ls) _ s read in
    let t = and_then_ok (read_tasks [] (drop 1 ls)) _ s p.2 in
    let r = read_tasks_lem [] (drop 1 ls) t.0 (omega arith) (omega arith) t.1 in
    let said = sym (ended_lines text end) ∙ ap ended (read_policy_lem ls p.0 p.1) ∙ ap (λ x. ended (policy_word p.0 ∷ x)) r.text ∙ sym (sheet_ended p.0 r.tasks) in
    let same : task_set p.0 t.0 ≡ s = cc in
    rw (← same) (
      r.tasks,
      record {
        said = said;
        short = short;
        few = omega (arith, ap length r.lines, length-map r.tasks (λ t. t.line), r.few);
        limited = rw r.lines r.limited;
        sound = r.sound;
      },
      r.lines,
    )
