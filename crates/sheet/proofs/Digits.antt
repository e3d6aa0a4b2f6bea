-- A loop over digits, one at a time.
use Rattle.std.proofs.Common.{◌≡◌, ℕ, ◌+◌, ◌*◌, ◌^◌, ◌<◌, ◌≤◌, true, ◌&&◌, List, get_or, drop, length, add-one, sym, ◌∙◌, arith}
use native.Mathlib.Nat.{pow-succ', pow-le-pow_right}
use Rattle.std.specs.Char.{is_ascii_digit}
use Rattle.std.specs.List.{list_all}
use Rattle.std.proofs.lemmas.List.{at_drop_more}
use Rattle.std.proofs.lemmas.Bool.Decides.{nat_tests}

pub digit_at : (xs : List ℕ) (i : ℕ) → i < length xs → list_all is_ascii_digit (drop i xs) ≡ true → (48 ≤ get_or xs i 0) × (get_or xs i 0 ≤ 57) × (list_all is_ascii_digit (drop (i + 1) xs) ≡ true)
digit_at xs i h e =
    let p : (is_ascii_digit (get_or xs i 0) && list_all is_ascii_digit (drop (i + 1) xs)) ≡ true = sym (at_drop_more (list_all is_ascii_digit) xs i 0 h) ∙ e in
    (grind (arith, nat_tests), grind (arith, nat_tests), grind (arith, nat_tests))

-- one digit more
pub value_grows : (n d i : ℕ) → n < 10 ^ i → d < 10 → 10 * n + d < 10 ^ (i + 1)
value_grows n d i h k = rw (add-one, pow-succ') (omega arith)

pub seven_fit : (n i : ℕ) → i < 7 → n < 10 ^ i → n < 1000000
seven_fit n i h k =
    let few : i ≤ 6 = omega arith in
    let m : 10 ^ i ≤ 10 ^ 6 = pow-le-pow_right (omega arith) few in
    omega arith
