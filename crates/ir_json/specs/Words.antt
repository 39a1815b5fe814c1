-- Words as values of JSON.
use Rattle.std.specs.Prelude.{ℕ, ◌+◌, ◌/◌, ◌%◌, ◌==◌, Bool, ◌&&◌, ◌||◌, if◌then◌else◌, List, [], ◌∷◌, ◌++◌, length, take, drop, flat_map, nat_lt, nat_le, bytes_eq, codes}
use Rattle.std.specs.List.{list_all, prefix_len}

-- a digit of base 16
abbrev pub hex_digit : ℕ → ℕ
hex_digit n = if nat_lt n 10 then 48 + n else 87 + n

-- a quote and a backslash have a backslash before them, and a byte that is not printable is by its number
abbrev pub json_byte : ℕ → List ℕ
json_byte b =
    if b == 34 || b == 92 then 92 ∷ b ∷ []
    else if nat_le 32 b && nat_le b 126 then b ∷ []
    else codes "\\u00" ++ hex_digit (b / 16) ∷ hex_digit (b % 16) ∷ []

abbrev pub json_escaped : List ℕ → List ℕ
json_escaped word = flat_map json_byte word

-- a word as a string
abbrev pub json_string : List ℕ → List ℕ
json_string word = (34 ∷ [] ++ json_escaped word) ++ 34 ∷ []

abbrev pub is_digit_byte : ℕ → Bool
is_digit_byte b = nat_le 48 b && nat_le b 57

abbrev pub is_whole_number : List ℕ → Bool
is_whole_number word = nat_le 1 (length word) && list_all is_digit_byte word

-- a word as a number; what is none is null
abbrev pub json_number : List ℕ → List ℕ
json_number word = if is_whole_number word then word else codes "null"

-- a word as a string; the `#` of a neighbour that there is not is null
abbrev pub goal : List ℕ → List ℕ
goal word = if bytes_eq word (codes "#") then codes "null" else json_string word

-- the digits at the front of a word such as `3/2` or `0-4`, and what follows the mark that follows them
abbrev pub before_mark : List ℕ → List ℕ
before_mark word = take (prefix_len is_digit_byte word) word

abbrev pub behind_mark : List ℕ → List ℕ
behind_mark word = drop (prefix_len is_digit_byte word + 1) word
