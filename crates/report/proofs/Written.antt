-- A buffer after no byte, after one, and after bytes behind bytes.
use Rattle.std.proofs.Common.{◌≡◌, ℕ, ◌+◌, ◌<◌, ◌≤◌, List, [], ◌∷◌, ◌++◌, length, take, drop, set, sym, ap, ◌∙◌, append_assoc, add-zero, add-one, arith, length-append}
use Rattle.std.proofs.lemmas.List.{append-nil, take-append-drop, take_at, drop_at, drop-drop, set_split, length-take-le}
use Rattle.report.specs.Pages.{written}

-- nothing is written
pub written_none : (b : List ℕ) (at : ℕ) → b ≡ written b at []
written_none b at =
    sym (ap (λ xs. xs ++ drop (at + 0) b) (append-nil (take at b)) ∙ ap (λ k. take at b ++ drop k b) (add-zero at) ∙ take-append-drop at b)

-- one byte is a store
pub written_one : (b : List ℕ) (at byte : ℕ) → at < length b → set b at byte ≡ written b at (byte ∷ [])
written_one b at byte h =
    set_split b at byte h ∙ sym (append_assoc (take at b) (byte ∷ []) (drop (at + 1) b) ∙ ap (λ k. take at b ++ byte ∷ drop k b) (add-one at))

-- bytes behind bytes
pub written_more : (b : List ℕ) (at : ℕ) (xs ys : List ℕ) → at + length xs ≤ length b → written (written b at xs) (at + length xs) ys ≡ written b at (xs ++ ys)
written_more b at xs ys h =
    let front = take at b ++ xs in
    let end = at + length xs in
    let rest = drop end b in
    let long : length front ≡ end = length-append (take at b) xs ∙ omega (arith, length-take-le at b (omega arith)) in
    ap (λ zs. (zs ++ ys) ++ drop (end + length ys) (front ++ rest)) (take_at front rest end long)
    ∙ ap (λ zs. (front ++ ys) ++ zs) (sym (drop-drop (length ys) end (front ++ rest)) ∙ ap (drop (length ys)) (drop_at front rest end long) ∙ drop-drop (length ys) end b)
    ∙ ap (λ k. (front ++ ys) ++ drop k b) (omega (arith, length-append xs ys))
    ∙ ap (λ zs. zs ++ drop (at + length (xs ++ ys)) b) (append_assoc (take at b) xs ys)
