-- A number is read back from what `decimal` writes of it, and nothing else is read as that number.
use Rattle.std.proofs.Common.{◌≡◌, ℕ, ◌^◌, ◌<◌, ◌≤◌, true, false, List, length, get_or, refl, Some, decimal, sym, ap, ◌∙◌, ⊎_elim, arith, rules}
use Rattle.std.specs.Char.{is_ascii_digit}
use Rattle.std.specs.List.{list_all}
use Rattle.std.proofs.lemmas.Fmt.{digits_decimal, digits_value-decimal, decimal_nonempty, length-decimal-le, first_decimal, decimal-digits_value, decimal_digit}
use Rattle.std.proofs.lemmas.Str.Parse.{IsNumeralModel, numerals_by_fold, digits_value_short}
use Rattle.std.proofs.lemmas.Bool.{cases_eq}
use Rattle.std.proofs.lemmas.Bool.Decides.{nat_tests}
use Rattle.sheet.specs.Reading.{is_number, leading_zero, value_from, number_of}

pub own : IsNumeralModel (λ ds. list_all is_ascii_digit ds ≡ true) (value_from 0)
own = numerals_by_fold _ (search rules) value_from (search rules)

no_leading_zero : (n : ℕ) → n ≤ 60000 → leading_zero (decimal n) ≡ false
no_leading_zero n few =
    ⊎_elim
    (λ (e : n ≡ 0). rw (e, decimal_digit 0 (omega arith)) refl)
    (λ (ne : n ≡ 0 → ⊥). let first = first_decimal n (omega arith) (omega arith) in grind (arith, nat_tests))
    (cases_eq n 0)

pub number_decimal : (n : ℕ) → n ≤ 60000 → number_of (decimal n) ≡ Some n
number_decimal n few =
    let small : n < 2 ^ 64 = omega arith in
    let long = decimal_nonempty n small in
    let short : length (decimal n) ≤ 5 = length-decimal-le 5 n (omega arith) (omega arith) small in
    let lead = no_leading_zero n few in
    let digits = digits_decimal own n small in
    let value = digits_value-decimal own n small in
    grind (arith, nat_tests)

-- what the bytes of a number are
record Form (bs : List ℕ) : Type 0 where
  some : 1 ≤ length bs
  short : length bs ≤ 7
  lead : leading_zero bs ≡ false
  digits : list_all is_ascii_digit bs ≡ true

form_of : (bs : List ℕ) → is_number bs ≡ true → Form bs
form_of bs e = record { some = grind (arith, nat_tests); short = grind (arith, nat_tests); lead = grind (arith, nat_tests); digits = grind (arith, nat_tests) }

alone : (bs : List ℕ) → get_or bs 0 0 ≡ 48 → leading_zero bs ≡ false → 1 ≤ length bs → length bs ≡ 1
alone bs z lead some = grind (arith, nat_tests)

pub number_is : (bs : List ℕ) (n : ℕ) → number_of bs ≡ Some n → bs ≡ decimal n
number_is bs n e =
    let form : is_number bs ≡ true = grind (arith, nat_tests) in
    let value : value_from 0 bs ≡ n = grind (arith, nat_tests) in
    let f = form_of bs form in
    let bound = digits_value_short own bs 7 f.digits f.short in
    sym (decimal-digits_value own bs f.digits f.some (λ z. alone bs z f.lead f.some) (omega arith)) ∙ ap decimal value
