-- The JSON of a text: each line of the text is a line of it.
use Rattle.std.specs.Prelude.{ℕ, ◌+◌, ◌==◌, ◌&&◌, Bool, true, false, if◌then◌else◌, List, [], ◌∷◌, ◌++◌, nat_lt, codes}
use Rattle.ir_model.specs.Graph.{Name}
use Rattle.ir_model.specs.Text.{words_of}
use Rattle.ir_json.specs.declared.shape.Shape.{Shape}
use Rattle.ir_json.specs.declared.shape.Shape.TheVariants.{Order, Stats, Compare, Check}
use Rattle.ir_json.specs.Signs.{filled, left}
use Rattle.ir_json.specs.Forms.{LineForm, is_word_at, form_of}
use Rattle.ir_json.specs.Lists.{items_text}

-- a line in its form
abbrev pub form_text : LineForm → List Name → List ℕ
form_text form words = filled form.front words ++ items_text form.further (left form.front words)

-- the place of the first line that is a row, or a member of one object
abbrev pub first_row : Shape → ℕ
first_row Order = 0
first_row Stats = 0
first_row Compare = 2
first_row shape = 1

-- the line has the sizes of full tables, which follow the list of plans
abbrev pub is_tables : Shape → ℕ → List Name → Bool
is_tables Compare place words = nat_lt 1 place && is_word_at words 0 (codes "tables")
is_tables shape place words = false

-- what is before the line at a place: rows have commas between them
abbrev pub lead : Shape → ℕ → List Name → List ℕ
lead shape place words =
    if is_tables shape place words then codes "\n],\n"
    else if nat_lt (first_row shape) place then codes ",\n"
    else if first_row shape == place then codes "\n"
    else []

abbrev pub json_line : Shape → ℕ → List Name → List ℕ
json_line shape place words = lead shape place words ++ form_text (form_of shape place words) words

abbrev pub has_no_word : List Name → Bool
has_no_word [] = true
has_no_word (word ∷ words) = false

-- the lines from this place on; one without a word is passed over
abbrev pub lines_text : Shape → ℕ → List (List ℕ) → List ℕ
lines_text shape place [] = []
lines_text shape place (line ∷ lines) =
    if has_no_word (words_of line) then lines_text shape place lines else json_line shape place (words_of line) ++ lines_text shape (place + 1) lines

-- what is before all lines, and after them
abbrev pub opening : Shape → List ℕ
opening Order = codes "{\"order\":["
opening Stats = codes "{"
opening shape = []

abbrev pub closing : Shape → List ℕ
closing Stats = codes "\n}\n"
closing Compare = codes "\n}\n"
closing Check = codes "\n"
closing shape = codes "\n]}\n"

abbrev pub json_text : Shape → List (List ℕ) → List ℕ
json_text shape lines = (opening shape ++ lines_text shape 0 lines) ++ closing shape
