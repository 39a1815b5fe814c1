-- Text between quotes, as Graphviz reads it.
use Rattle.std.specs.Prelude.{ℕ, Bool, true, false, ◌==◌, ◌||◌, if◌then◌else◌, Option, None, Some, option_map, List, [], ◌∷◌, ◌++◌, flat_map}

-- a quote and a backslash have a backslash before them
abbrev pub escaped_byte : ℕ → List ℕ
escaped_byte b = if b == 34 || b == 92 then 92 ∷ b ∷ [] else b ∷ []

abbrev pub escaped : List ℕ → List ℕ
escaped text = flat_map escaped_byte text

abbrev pub quoted : List ℕ → List ℕ
quoted text = 34 ∷ escaped text ++ 34 ∷ []

-- What is up to the first quote that has no backslash before it, without the backslashes that are before a byte, and
-- what follows; whether a backslash came before.
abbrev pub read_on : Bool → List ℕ → Option (List ℕ × List ℕ)
read_on after [] = None
read_on true (b ∷ rest) = option_map (λ found. (b ∷ found.0, found.1)) (read_on false rest)
read_on false (b ∷ rest) =
    if b == 34 then Some ([], rest) else if b == 92 then read_on true rest else option_map (λ found. (b ∷ found.0, found.1)) (read_on false rest)

abbrev pub read_quoted : List ℕ → Option (List ℕ × List ℕ)
read_quoted rest = read_on false rest
