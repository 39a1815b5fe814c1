-- Strings are read again.
use Rattle.std.proofs.Common.{◌≡◌, ◌≢◌, ℕ, ◌+◌, ◌*◌, ◌/◌, ◌%◌, ◌<◌, Bool, true, false, List, [], ◌∷◌, ◌++◌, Some, nat_lt, nat_le, ◌&&◌, refl, ap, ◌∙◌, ⊎_elim, append_assoc, arith}
use Rattle.std.specs.List.{list_all}
use Rattle.std.proofs.lemmas.Bool.{cases_eq, ne_eqb}
use Rattle.ir_json.specs.Words.{hex_digit, json_byte, json_escaped}
use Rattle.ir_json.specs.Strings.{Between, hex_value, onto, read_from, read_string}

hex_back : (n : ℕ) → n < 16 → hex_value (hex_digit n) ≡ n
hex_back n lt = grind arith

number_back : (b : ℕ) → b < 256 → (0 * 16 + hex_value (hex_digit (b / 16))) * 16 + hex_value (hex_digit (b % 16)) ≡ b
number_back b lt =
    let high : b / 16 < 16 = omega arith in
    let low : b % 16 < 16 = omega arith in
    let one : hex_value (hex_digit (b / 16)) ≡ b / 16 = hex_back (b / 16) high in
    let other : hex_value (hex_digit (b % 16)) ≡ b % 16 = hex_back (b % 16) low in
    rw (one, other) (omega arith)

read_other : (b : ℕ) (rest : List ℕ) (is_printable : Bool) → (nat_le 32 b && nat_le b 126) ≡ is_printable → b < 256 → b ≢ 34 → b ≢ 92 → read_from Between (json_byte b ++ rest) ≡ onto b (read_from Between rest)
read_other b rest true is lt quote slash = rw (ne_eqb b 34 quote, ne_eqb b 92 slash, is) (rw (ne_eqb b 34 quote, ne_eqb b 92 slash) refl)
read_other b rest false is lt quote slash = rw (ne_eqb b 34 quote, ne_eqb b 92 slash, is) (ap (λ n. onto n (read_from Between rest)) (number_back b lt))

read_byte : (b : ℕ) (rest : List ℕ) → b < 256 → read_from Between (json_byte b ++ rest) ≡ onto b (read_from Between rest)
read_byte b rest lt =
    ⊎_elim (λ quote. rw quote refl)
    (λ plain. ⊎_elim (λ slash. rw slash refl) (λ other. read_other b rest (nat_le 32 b && nat_le b 126) refl lt plain other) (cases_eq b 92)) (cases_eq b 34)

pub read_again : (word rest : List ℕ) → list_all (λ b. nat_lt b 256) word ≡ true → read_string (json_escaped word ++ 34 ∷ rest) ≡ Some (word, rest)
read_again [] rest all = refl
read_again (b ∷ word) rest all =
    let first : b < 256 = grind arith in
    let others : list_all (λ c. nat_lt c 256) word ≡ true = grind arith in
    ap read_string (append_assoc (json_byte b) (json_escaped word) (34 ∷ rest)) ∙ read_byte b (json_escaped word ++ 34 ∷ rest) first ∙ ap (onto b) (read_again word rest others)
