-- Cutting undoes joining, and joining undoes cutting: lines by the byte 10, fields by a space.
use Rattle.std.proofs.Common.{◌≡◌, ℕ, ◌-◌, ◌<◌, true, false, cond, eqb, List, [], ◌∷◌, ◌++◌, length, get_or, take, All, map, sym, refl, ap, ◌∙◌, append_assoc, arith, length-append, drop-cons}
use Rattle.std.specs.List.{onto_first, slice_split, join_with_byte}
use Rattle.std.proofs.lemmas.Bool.{eq-eqb, eqb-true}
use Rattle.std.proofs.lemmas.Grind.{common_steps}
use Rattle.std.proofs.lemmas.List.{take-append-drop}
use Rattle.std.proofs.lemmas.List.Elements.{All-head, All-tail}
use Rattle.std.proofs.lemmas.List.Splits.{slice_split_none, slice_split_at, join_with_byte-slice_split, length-slice_split}
use Rattle.std.proofs.Math.Seq.{get_or-append_seam}
use Rattle.sheet.specs.Cutting.{lines_of}
use Rattle.sheet.specs.Grammar.{NamedTask, spaced, task_words, tasks_text, policy_word, sheet_text}
use Rattle.sheet.specs.Reading.{is_ended}
use Rattle.model.specs.declared.policy.Policy.{Policy}

-- no byte of a part is the separator
abbrev pub Uncut : ℕ → List ℕ → Type 0
Uncut c = All (λ b. eqb b c ≡ false)

pub split_joined : (c : ℕ) (w : List ℕ) (ws : List (List ℕ)) → All (Uncut c) (w ∷ ws) → slice_split (λ b. eqb b c) (join_with_byte c (w ∷ ws)) ≡ w ∷ ws
split_joined c w [] h = slice_split_none _ w (All-head (Uncut c) w [] h)
split_joined c w (v ∷ ws) h =
    slice_split_at (λ b. eqb b c) w c (join_with_byte c (v ∷ ws)) (All-head (Uncut c) w (v ∷ ws) h) (eq-eqb c c refl)
    ∙ ap (λ ps. w ∷ ps) (split_joined c v ws (All-tail (Uncut c) w (v ∷ ws) h))

-- each line with the byte that ends it
abbrev pub ended : List (List ℕ) → List ℕ
ended [] = []
ended (l ∷ ls) = l ++ 10 ∷ ended ls

ended_joined : (ls : List (List ℕ)) → 0 < length ls → ended ls ≡ join_with_byte 10 ls ++ 10 ∷ []
ended_joined [] some = absurd (omega arith)
ended_joined (l ∷ []) some = refl
ended_joined (l ∷ k ∷ ls) some = ap (λ t. l ++ 10 ∷ t) (ended_joined (k ∷ ls) (omega arith)) ∙ sym (append_assoc l (10 ∷ join_with_byte 10 (k ∷ ls)) (10 ∷ []))

lines_split : (bs : List ℕ) → lines_of (bs ++ 10 ∷ []) ≡ slice_split (λ b. eqb b 10) bs
lines_split [] = refl
lines_split (b ∷ bs) = ap (λ ps. cond (eqb b 10) ([] ∷ ps) (onto_first b ps)) (lines_split bs)

pub lines_ended : (l : List ℕ) (ls : List (List ℕ)) → All (Uncut 10) (l ∷ ls) → (lines_of (ended (l ∷ ls)) ≡ l ∷ ls) × (is_ended (ended (l ∷ ls)) ≡ true)
lines_ended l ls h =
    let text = join_with_byte 10 (l ∷ ls) in
    let e = ended_joined (l ∷ ls) (omega arith) in
    let last : length (text ++ 10 ∷ []) - 1 ≡ length text = simp length-append (omega arith) in
    (ap lines_of e ∙ lines_split text ∙ split_joined 10 l ls h, ap is_ended e ∙ ap (λ i. eqb (get_or (text ++ 10 ∷ []) i 0) 10) last ∙ ap (λ b. eqb b 10) (get_or-append_seam text 10 [] 0))

-- a text that is ended is what stands before its last byte, and that byte
body : (text : List ℕ) → is_ended text ≡ true → text ≡ take (length text - 1) text ++ 10 ∷ []
body [] e = absurd (omega (arith, eqb-true 0 10 e))
body (b ∷ bs) e =
    let text = b ∷ bs in
    let n = length text - 1 in
    let last : get_or text n 0 ≡ 10 = eqb-true _ 10 e in
    grind (arith, common_steps, take-append-drop n text, drop-cons text n 0 (omega arith), last)

pub ended_lines : (text : List ℕ) → is_ended text ≡ true → ended (lines_of text) ≡ text
ended_lines text e =
    let front = take (length text - 1) text in
    let b = body text e in
    let lines = slice_split (λ c. eqb c 10) front in
    ap (λ t. ended (lines_of t)) b ∙ ap ended (lines_split front) ∙ ended_joined lines (omega (arith, length-slice_split (λ c. eqb c 10) front))
    ∙ ap (λ t. t ++ 10 ∷ []) (join_with_byte-slice_split 10 front) ∙ sym b

-- a task's line without the byte that ends it
abbrev pub line_text : NamedTask → List ℕ
line_text t = spaced (task_words t)

tasks_ended : (ts : List NamedTask) → tasks_text ts ≡ ended (map line_text ts)
tasks_ended [] = refl
tasks_ended (t ∷ ts) = append_assoc (line_text t) (10 ∷ []) (tasks_text ts) ∙ ap (λ x. line_text t ++ 10 ∷ x) (tasks_ended ts)

pub sheet_ended : (p : Policy) (ts : List NamedTask) → sheet_text p ts ≡ ended (policy_word p ∷ map line_text ts)
sheet_ended p ts = ap (λ x. policy_word p ++ 10 ∷ x) (tasks_ended ts)
