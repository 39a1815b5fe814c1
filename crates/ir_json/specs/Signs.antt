-- Templates: the JSON of a line, with signs in place of its words.
use Rattle.std.specs.Prelude.{ℕ, ◌==◌, if◌then◌else◌, List, [], ◌∷◌, ◌++◌, drop, slice_index_or, Option, Some, None}
use Rattle.ir_model.specs.Graph.{Name}
use Rattle.ir_json.specs.declared.fill.Sign.{Sign}
use Rattle.ir_json.specs.declared.fill.Sign.TheVariants.{Text, Count, Goal, Front, Behind, Skipped}
use Rattle.ir_json.specs.Words.{json_string, json_number, goal, before_mark, behind_mark}

-- `$`, `#`, `?`, `<`, `>` and `~`; each other byte stands for itself
abbrev pub sign_of : ℕ → Option Sign
sign_of b =
    if b == 36 then Some Text
    else if b == 35 then Some Count
    else if b == 63 then Some Goal
    else if b == 60 then Some Front
    else if b == 62 then Some Behind
    else if b == 126 then Some Skipped
    else None

-- what is in place of a sign: a string, a number, a string or null, the number before a mark or after it, or nothing
abbrev pub sign_text : Sign → Name → List ℕ
sign_text Text word = json_string word
sign_text Count word = json_number word
sign_text Goal word = goal word
sign_text Front word = json_number (before_mark word)
sign_text Behind word = json_number (behind_mark word)
sign_text Skipped word = []

-- the words after a sign's: `<` leaves its word to the next sign
abbrev pub words_after : Sign → List Name → List Name
words_after Front words = words
words_after sign words = drop 1 words

-- the first word, none being empty
abbrev pub first_word : List Name → Name
first_word words = slice_index_or words 0 []

-- what a byte of a template comes to, and the words after it
abbrev pub part_text : ℕ → Option Sign → List Name → List ℕ
part_text b None words = b ∷ []
part_text b (Some sign) words = sign_text sign (first_word words)

abbrev pub part_left : Option Sign → List Name → List Name
part_left None words = words
part_left (Some sign) words = words_after sign words

-- a template with the words in place of its signs, one after the other
abbrev pub filled : List ℕ → List Name → List ℕ
filled [] words = []
filled (b ∷ template) words = part_text b (sign_of b) words ++ filled template (part_left (sign_of b) words)

-- the words that are left after those of its signs
abbrev pub left : List ℕ → List Name → List Name
left [] words = words
left (b ∷ template) words = left template (part_left (sign_of b) words)
