-- The lines of a table as text and as bytes.
use Rattle.std.specs.Prelude.{ℕ, ◌+◌, ◌/◌, ◌%◌, ◌==◌, nat_lt, if◌then◌else◌, List, [], ◌∷◌, ◌++◌, flat_map}
use Rattle.ir_lines.specs.Looks.{byte_of}

-- a digit of base 16: 0 to 9, a to f
abbrev pub hex_code : ℕ → ℕ
hex_code digit = if nat_lt digit 10 then 48 + digit else 87 + digit

-- half a word as four digits
abbrev pub half_text : ℕ → List ℕ
half_text half =
    hex_code (half / 4096 % 16) ∷ hex_code (half / 256 % 16) ∷ hex_code (half / 16 % 16) ∷ hex_code (half % 16) ∷ []

-- a word as eight digits: those of its start, and those of its port
abbrev pub word_text : ℕ → List ℕ
word_text word = half_text (word / 65536) ++ half_text (word % 65536)

-- after the word at a place: a line feed after the last one of a line, and else a space
abbrev pub word_end : ℕ → List ℕ
word_end place = if place % 32 == 31 then 10 ∷ [] else 32 ∷ []

-- the text of these words, the first of them at a place
abbrev pub text_from : ℕ → List ℕ → List ℕ
text_from place [] = []
text_from place (word ∷ rest) = word_text word ++ word_end place ++ text_from (place + 1) rest

-- the text of all words
abbrev pub table_text : List ℕ → List ℕ
table_text words = text_from 0 words

-- the bytes of a word, the lowest first
abbrev pub word_bytes : ℕ → List ℕ
word_bytes word = byte_of word 0 ∷ byte_of word 1 ∷ byte_of word 2 ∷ byte_of word 3 ∷ []

-- the bytes of all words
abbrev pub table_bytes : List ℕ → List ℕ
table_bytes words = flat_map word_bytes words
