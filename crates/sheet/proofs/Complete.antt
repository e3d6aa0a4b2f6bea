-- A text that the grammar admits is read as what it says.
use Rattle.std.proofs.Common.{◌≡◌, ℕ, ◌+◌, ◌<◌, ◌≤◌, Bool, true, false, cond, ◌&&◌, eqb, ltb, leb, List, [], ◌∷◌, ◌++◌, length, drop, map, All, Some, Ok, decimal, sym, refl, ap, ◌∙◌, append_assoc, append-nil, arith, length-append}
use Rattle.std.specs.Char.{is_ascii_alphanumeric, is_ascii_digit}
use Rattle.std.proofs.lemmas.Fmt.{digits_decimal}
use Rattle.std.specs.List.{list_all}
use Rattle.std.proofs.lemmas.List.Elements.{All-nil, All-cons, All-head, All-tail, All-append, All-map, All-weaker}
use Rattle.std.proofs.lemmas.List.Sums.{AllPass-from_list_all}
use Rattle.std.proofs.lemmas.Bool.{ne_eqb, le-leb}
use Rattle.std.proofs.lemmas.Bool.Decides.{nat_tests}
use Rattle.model.specs.declared.kind.Kind.{Kind}
use Rattle.model.specs.declared.kind.Kind.TheVariants.{Ordinary, Regular}
use Rattle.model.specs.declared.line.Line.{Line}
use Rattle.model.specs.declared.policy.Policy.{Policy}
use Rattle.model.specs.declared.policy.Policy.TheVariants.{Dm, Ed}
use Rattle.model.specs.Ranges.{regular_kind, is_regular, regulars}
use Rattle.model.specs.TaskSets.{task_set}
use Rattle.sheet.specs.Cutting.{lines_of}
use Rattle.sheet.specs.Grammar.{NamedTask, letter, spaced, task_words, policy_word, lines_of_tasks, Sound, Admits}
use Rattle.sheet.specs.Reading.{kind_of, all_name_bytes, read_kind, read_number, read_fields, read_line, read_tasks, read_policy, is_ended, read_sheet}
use Rattle.sheet.proofs.Joins.{Uncut, split_joined, lines_ended, line_text, sheet_ended}
use Rattle.sheet.proofs.Numbers.{own, number_decimal}
use Rattle.sheet.proofs.Regulars.{regulars_push}

-- bytes that neither end a line nor cut it
abbrev Bare : List ℕ → Type 0
Bare = All (λ b. 32 < b)

bare_passing : (test : ℕ → Bool) → ((b : ℕ) → test b ≡ true → 32 < b) → (bs : List ℕ) → list_all test bs ≡ true → Bare bs
bare_passing test above bs e = All-weaker (λ b. test b ≡ true) (λ b. 32 < b) above bs (AllPass-from_list_all test bs e)

bare_name : (bs : List ℕ) → all_name_bytes bs ≡ true → Bare bs
bare_name = bare_passing is_ascii_alphanumeric (λ b t. grind (arith, nat_tests))

bare_letter : (k : Kind) → Bare (letter k ∷ [])
bare_letter Ordinary = bare_name (letter Ordinary ∷ []) refl
bare_letter Regular = bare_name (letter Regular ∷ []) refl

bare_policy : (p : Policy) → Bare (policy_word p)
bare_policy Dm = bare_name (policy_word Dm) refl
bare_policy Ed = bare_name (policy_word Ed) refl

bare_decimal : (n : ℕ) → n ≤ 60000 → Bare (decimal n)
bare_decimal n few = bare_passing is_ascii_digit (λ b t. grind (arith, nat_tests)) (decimal n) (digits_decimal own n (omega arith))

bare_words : (t : NamedTask) → Sound t → All Bare (task_words t)
bare_words t s =
    let r = s.1 in
    let name : all_name_bytes t.name ≡ true = grind (arith, nat_tests) in
    let word = λ (w : List ℕ) (ws : List (List ℕ)) (b : Bare w) (bs : All Bare ws). All-cons Bare w ws b bs in
    word _ (drop 1 (task_words t)) (bare_letter t.line.kind) (word _ (drop 2 (task_words t)) (bare_name t.name name)
    (word _ (drop 3 (task_words t)) (bare_decimal t.line.offset r.0) (word _ (drop 4 (task_words t)) (bare_decimal t.line.length (omega arith))
    (word _ (drop 5 (task_words t)) (bare_decimal t.line.deadline (omega arith)) (word _ [] (bare_decimal t.line.period r.4) (All-nil Bare))))))

uncut : (c : ℕ) → c ≤ 32 → (w : List ℕ) → Bare w → Uncut c w
uncut c low w h = All-weaker (λ b. 32 < b) (λ b. eqb b c ≡ false) (λ b l. ne_eqb b c (λ e. omega arith)) w h

unended : (ws : List (List ℕ)) → All Bare ws → Uncut 10 (spaced ws)
unended [] h = All-nil (λ b. eqb b 10 ≡ false)
unended (w ∷ []) h = uncut 10 (omega arith) w (All-head Bare w [] h)
unended (w ∷ v ∷ ws) h =
    All-append (λ b. eqb b 10 ≡ false) w (32 ∷ spaced (v ∷ ws)) (uncut 10 (omega arith) w (All-head Bare w (v ∷ ws) h))
    (All-cons (λ b. eqb b 10 ≡ false) 32 (spaced (v ∷ ws)) refl (unended (v ∷ ws) (All-tail Bare w (v ∷ ws) h)))

-- each word is read back
kind_letter : (k : Kind) → kind_of (letter k ∷ []) ≡ Some k
kind_letter Ordinary = refl
kind_letter Regular = refl

kind_read : (n : ℕ) (full : Bool) (k : Kind) (ps : List (List ℕ)) → (full && regular_kind k) ≡ false → read_kind n full ((letter k ∷ []) ∷ ps) ≡ Ok k
kind_read n full k ps e = rw (kind_letter k, e)

number_read : (n f low v : ℕ) (ps : List (List ℕ)) → low ≤ v → v ≤ 60000 → read_number n f low (decimal v ∷ ps) ≡ Ok v
number_read n f low v ps a b = rw (number_decimal v b, le-leb low v a, le-leb v 60000 b)

words_read : (n : ℕ) (full : Bool) (t : NamedTask) → Sound t → (full && is_regular t.line) ≡ false → read_fields n full (task_words t) ≡ Ok t.line
words_read n full t s e =
    let l = t.line in
    let r = s.1 in
    rw (
      kind_read n full l.kind (drop 1 (task_words t)) e,
      s.0,
      number_read n 3 0 l.offset (drop 3 (task_words t)) (omega arith) r.0,
      number_read n 4 1 l.length (drop 4 (task_words t)) r.1 (omega arith),
      number_read n 5 l.length l.deadline (drop 5 (task_words t)) r.2 (omega arith),
      number_read n 6 l.deadline l.period [] r.3 r.4,
    )

line_read : (n : ℕ) (full : Bool) (t : NamedTask) → Sound t → (full && is_regular t.line) ≡ false → read_line n full (line_text t) ≡ Ok t.line
line_read n full t s e =
    ap (read_fields n full) (split_joined 32 (letter t.line.kind ∷ []) (drop 1 (task_words t)) (All-weaker Bare (Uncut 32) (uncut 32 (omega arith)) (task_words t) (bare_words t s))) ∙ words_read n full t s e

-- where one more regular line fits, the next is not one too many
not_full : (n m : ℕ) (regular : Bool) → n + (cond regular 1 0 + m) ≤ 8 → (leb 8 n && regular) ≡ false
not_full n m regular h = grind (arith, nat_tests)

tasks_read : (done : List Line) (ts : List NamedTask) → All Sound ts → length done + length ts ≤ 24 → regulars done + regulars (lines_of_tasks ts) ≤ 8 → read_tasks done (map line_text ts) ≡ Ok (done ++ lines_of_tasks ts)
tasks_read done [] s few limited = ap Ok (sym (append-nil done))
tasks_read done (t ∷ ts) s few limited =
    let l = t.line in
    let one = line_read (length done + 1) (leb 8 (regulars done)) t (All-head Sound t ts s) (not_full (regulars done) (regulars (lines_of_tasks ts)) (is_regular l) limited) in
    let more : length (done ++ l ∷ []) + length ts ≤ 24 = simp length-append (omega arith) in
    let still : regulars (done ++ l ∷ []) + regulars (lines_of_tasks ts) ≤ 8 = omega (arith, regulars_push done l) in
    let below : ltb (length done) 24 ≡ true = grind (arith, nat_tests) in
    rw (below, one, tasks_read (done ++ l ∷ []) ts (All-tail Sound t ts s) more still, append_assoc) refl

policy_read : (p : Policy) (ls : List (List ℕ)) → read_policy (policy_word p ∷ ls) ≡ Ok p
policy_read Dm ls = refl
policy_read Ed ls = refl

pub every : (text : List ℕ) (p : Policy) (ts : List NamedTask) → Admits text p ts → read_sheet text ≡ Ok (task_set p (lines_of_tasks ts))
every text p ts a =
    let tasks = map line_text ts in
    let said = a.said ∙ sheet_ended p ts in
    let unended_tasks = All-map (Uncut 10) line_text ts (All-weaker Sound (λ t. Uncut 10 (line_text t)) (λ t s. unended (task_words t) (bare_words t s)) ts a.sound) in
    let cut = lines_ended (policy_word p) tasks (All-cons (Uncut 10) (policy_word p) tasks (uncut 10 (omega arith) (policy_word p) (bare_policy p)) unended_tasks) in
    let long : ltb 4096 (length text) ≡ false = grind (arith, nat_tests) in
    let end : is_ended text ≡ true = ap is_ended said ∙ cut.1 in
    let lines : lines_of text ≡ policy_word p ∷ tasks = ap lines_of said ∙ cut.0 in
    rw (long, end, lines, policy_read p tasks, tasks_read [] ts a.sound (omega (arith, a.few)) (omega (arith, a.limited))) refl
