-- Numbers in decimal, as `parse` reads them.
use Rattle.std.proofs.Common.{◌≡◌, ◌≢◌, ◌<◌, ◌≤◌, ◌^◌, ◌==◌, ◌&&◌, ℕ, zero, suc, true, false, List, length, get_or, nat_lt, MatchOption, Result, Ok, Err, decimal, sym, ap, subst, ◌∙◌, arith, ⊎_elim}
use Rattle.std.proofs.lemmas.Bool.{eqb-true, eqb-false, eq-eqb, ltb-true, ltb-false, and_parts, or_parts, or_cases}
use Rattle.std.specs.Str.Parse.{AllDigits, IsNumeral, digits_value, ParsesUnsigned}
use Rattle.std.specs.Result.{OkIff, result_ok}
use Rattle.std.proofs.lemmas.Str.Parse.{IsNumeralModel, numerals_by_value, tells_digits, parse_plain}
use Rattle.std.proofs.lemmas.Fmt.{decimal_is_IsNumeral, decimal_digit, first_decimal, decimal-digits_value}
use Rattle.ir_trace.specs.Spelled.{IsNoNumber, has_needless_front}

own : IsNumeralModel (AllDigits 10) (digits_value 10)
own = numerals_by_value (AllDigits 10) tells_digits

no_number_plus : (word : List ℕ) → get_or word 0 0 ≡ 43 → IsNoNumber word
no_number_plus word h zero small e = omega (arith, ap (λ w. get_or w 0 0) (sym (decimal_digit 0 (omega arith))), ap (λ w. get_or w 0 0) e)
no_number_plus word h (suc n) small e = omega (arith, first_decimal (suc n) (omega arith) (omega arith), ap (λ w. get_or w 0 0) e)

no_number_zero : (word : List ℕ) → get_or word 0 0 ≡ 48 → 1 < length word → IsNoNumber word
no_number_zero word h long zero small e = omega (arith, ap length (sym (decimal_digit 0 (omega arith))), ap length e)
no_number_zero word h long (suc n) small e = omega (arith, first_decimal (suc n) (omega arith) (omega arith), ap (λ w. get_or w 0 0) e)

pub no_number_needless : (word : List ℕ) → has_needless_front word ≡ true → IsNoNumber word
no_number_needless word h =
    ⊎_elim (λ (plus : (get_or word 0 0 == 43) ≡ true). no_number_plus word (eqb-true (get_or word 0 0) 43 plus))
    (λ (zero_first : (get_or word 0 0 == 48 && nat_lt 1 (length word)) ≡ true).
    let both = and_parts (get_or word 0 0 == 48) (nat_lt 1 (length word)) zero_first in no_number_zero word (eqb-true (get_or word 0 0) 48 both.0) (ltb-true 1 (length word) both.1))
    (or_cases (get_or word 0 0 == 43) (get_or word 0 0 == 48 && nat_lt 1 (length word)) h)

pub read_number : {E : Type 0} (word : List ℕ) (r : Result ℕ E) → ParsesUnsigned 32 10 word r → has_needless_front word ≡ false → MatchOption (result_ok r) (IsNoNumber word) (λ n. decimal n ≡ word)
read_number {E} word r h bare = by r (parse_plain own 32 word r h plain)
  where
    tests : ((get_or word 0 0 == 43) ≡ false) × ((get_or word 0 0 == 48 && nat_lt 1 (length word)) ≡ false)
    tests = or_parts (get_or word 0 0 == 43) (get_or word 0 0 == 48 && nat_lt 1 (length word)) bare

    plain : get_or word 0 0 ≢ 43
    plain e = eqb-false (get_or word 0 0) 43 tests.0 e

    short : get_or word 0 0 ≡ 48 → length word ≤ 1
    short e = ltb-false 1 (length word) (ap (λ t. t && nat_lt 1 (length word)) (sym (eq-eqb (get_or word 0 0) 48 e)) ∙ tests.1)

    by : (r : Result ℕ E) → OkIff r (AllDigits 10 word × (0 < length word) × (digits_value 10 word < 2 ^ 32)) (digits_value 10 word) → MatchOption (result_ok r) (IsNoNumber word) (λ n. decimal n ≡ word)
    by (Ok x) k = subst (λ n. decimal n ≡ word) (sym k.1) (decimal-digits_value own word k.0.0 k.0.1 (λ z. omega (arith, short z, k.0.1)) (omega (arith, k.0.2)))
    by (Err e) k = λ n small same.
        let is : IsNumeral 10 word × (digits_value 10 word ≡ n) = subst (λ w. IsNumeral 10 w × (digits_value 10 w ≡ n)) same (decimal_is_IsNumeral n (omega arith)) in
        k (is.0.1, is.0.0, omega (arith, is.1))
