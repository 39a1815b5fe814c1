-- What a string of JSON says.
use Rattle.std.specs.Prelude.{ℕ, ◌+◌, ◌-◌, ◌*◌, ◌==◌, if◌then◌else◌, List, [], ◌∷◌, Option, Some, None, option_map, nat_lt}

-- where a reader of a string is: between characters, after a backslash, or before the last digits of a character's number
pub data Reading : Type 0 where
  Between : Reading
  Behind : Reading
  Before : (digits : ℕ) → (so_far : ℕ) → Reading

-- the value of a digit of base 16
abbrev pub hex_value : ℕ → ℕ
hex_value b = if nat_lt b 58 then b - 48 else if nat_lt b 71 then b - 55 else b - 87

-- a character before what is read
abbrev pub onto : ℕ → Option (List ℕ × List ℕ) → Option (List ℕ × List ℕ)
onto c found = option_map (λ (f : List ℕ × List ℕ). (c ∷ f.0, f.1)) found

-- the character of an escape of one letter: b, f, n, r and t are controls
abbrev pub short_escape : ℕ → ℕ
short_escape b =
    if b == 98 then 8 else if b == 102 then 12 else if b == 110 then 10 else if b == 114 then 13 else if b == 116 then 9 else b

-- The characters up to the quote that ends a string, and what follows it. `\u` and four digits are the character of that
-- number, and a backslash before another byte is a short escape.
abbrev pub read_from : Reading → List ℕ → Option (List ℕ × List ℕ)
read_from at [] = None
read_from Between (b ∷ rest) = if b == 34 then Some ([], rest) else if b == 92 then read_from Behind rest else onto b (read_from Between rest)
read_from Behind (b ∷ rest) = if b == 117 then read_from (Before 4 0) rest else onto (short_escape b) (read_from Between rest)
read_from (Before digits so_far) (b ∷ rest) =
    if digits == 1 then onto (so_far * 16 + hex_value b) (read_from Between rest) else read_from (Before (digits - 1) (so_far * 16 + hex_value b)) rest

-- the same, after the quote that begins a string
abbrev pub read_string : List ℕ → Option (List ℕ × List ℕ)
read_string text = read_from Between text
