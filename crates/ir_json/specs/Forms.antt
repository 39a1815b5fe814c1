-- The forms of lines: the template of a line's front, and what its further words are.
use Rattle.std.specs.Prelude.{◌≡◌, ℕ, ◌==◌, Bool, true, ◌||◌, if◌then◌else◌, List, [], slice_index_or, bytes_eq, codes, nat_lt}
use Rattle.std.specs.List.{list_all}
use Rattle.ir_model.specs.Graph.{Name}
use Rattle.ir_model.specs.Text.{is_empty}
use Rattle.ir_json.specs.declared.shape.Shape.{Shape}
use Rattle.ir_json.specs.declared.shape.Shape.TheVariants as shapes
use Rattle.ir_json.specs.declared.form.Form.{Form}
use Rattle.ir_json.specs.declared.form.Items.{Items}
use Rattle.ir_json.specs.declared.form.Items.TheVariants as items

-- what the words after a line's front are: none, names, pairs in a template, segments, or what a node changes
pub data Further : Type 0 where
  NoMore : Further
  Names : Further
  Pairs : List ℕ → Further
  Segments : Further
  Changes : Further

-- the template of a line's front, and what the words are that it has no sign for
pub record LineForm : Type 0 where
  pub front : List ℕ
  pub further : Further

-- the form of a line that ends with a list
abbrev pub listed : List ℕ → Further → LineForm
listed front further = record { front = front; further = further }

-- the form of a line that is its front
abbrev pub plain : List ℕ → LineForm
plain front = listed front NoMore

-- what a value of the program says of the words after a front
abbrev pub further_held : Items → Further
further_held items.NoItems = NoMore
further_held items.Names = Names
further_held (items.Pairs template) = Pairs template.now
further_held items.Segments = Segments
further_held items.Changes = Changes

-- the form that a value of the program is
abbrev pub form_held : Form → LineForm
form_held form = listed form.front.now (further_held form.items)

-- the bytes of a template are of ASCII
abbrev pub is_ascii : List ℕ → Bool
is_ascii template = list_all (λ b. nat_lt b 128) template

-- those of the template of a list's pairs are, if there is one
abbrev pub is_ascii_further : Further → Bool
is_ascii_further NoMore = true
is_ascii_further Names = true
is_ascii_further (Pairs template) = is_ascii template
is_ascii_further Segments = true
is_ascii_further Changes = true

-- The value of the program is this form, and its templates are of ASCII.
pub record IsForm (wanted : LineForm) (form : Form) : Type 0 where
  pub held : form_held form ≡ wanted
  pub front : is_ascii (form_held form).front ≡ true
  pub further : is_ascii_further (form_held form).further ≡ true

-- the word at a place of a line, none being empty
abbrev pub word_at : List Name → ℕ → Name
word_at words place = slice_index_or words place []

abbrev pub is_word_at : List Name → ℕ → List ℕ → Bool
is_word_at words place word = bytes_eq (word_at words place) word

-- the fate at a place of a line has the names of a link after it
abbrev pub has_link : List Name → ℕ → Bool
has_link words place = is_word_at words place (codes "down") || is_word_at words place (codes "full")

-- the form of a figure, by its first word
abbrev pub figure_form : List Name → LineForm
figure_form words =
    if is_word_at words 0 (codes "stats") then plain (codes "$:$,\"nodes\":#")
    else if is_word_at words 0 (codes "greatest-row") then plain (codes "$:{\"node\":$,\"intervals\":#}")
    else if is_word_at words 0 (codes "worst") then plain (codes "$:{\"from\":$,\"to\":$,\"walk\":#,\"distance\":#}")
    else if is_word_at words 0 (codes "compactness") then plain (codes "$:{\"node\":$,\"neighbour\":$,\"intervals\":#}")
    else if is_word_at words 0 (codes "bits") then plain (codes "$:{\"rows\":#,\"tables\":#}")
    else if is_word_at words 0 (codes "landmarks") then listed (codes "$:{\"nodes\":[") Names
    else if is_word_at words 1 (codes "acyclic") then plain (codes "$:$")
    else if is_word_at words 1 (codes "cycle") then listed (codes "$:{$:[") Names
    else plain (codes "$:#")

-- the form of an Act, by what became of its packet
abbrev pub act_form : List Name → LineForm
act_form words =
    if is_word_at words 5 (codes "sent") then plain (codes "{\"line\":#,\"event\":$,\"node\":$,\"packet\":#,\"epoch\":#,~\"next\":$}")
    else if has_link words 5 then plain (codes "{\"line\":#,\"event\":$,\"node\":$,\"packet\":#,\"epoch\":#,\"fate\":$,\"link\":[$,$]}")
    else plain (codes "{\"line\":#,\"event\":$,\"node\":$,\"packet\":#,\"epoch\":#,\"fate\":$}")

-- the form of a line of a run's steps, by what stands after its number
abbrev pub step_form : List Name → LineForm
step_form words =
    if is_word_at words 1 (codes "refused") then listed (codes "{\"line\":#,~\"refused\":$,\"event\":[") Names
    else if is_word_at words 1 (codes "inject") then plain (codes "{\"line\":#,\"event\":$,\"from\":$,\"to\":$,\"packet\":#,\"epoch\":#}")
    else if is_word_at words 1 (codes "take") then (if is_word_at words 3 (codes "from") then plain (codes "{\"line\":#,\"event\":$,\"node\":$,~\"from\":$,\"packet\":#}") else plain (codes "{\"line\":#,\"event\":$,\"node\":$,~\"packet\":#}"))
    else if is_word_at words 1 (codes "read") then plain (codes "{\"line\":#,\"event\":$,\"node\":$,\"version\":#}")
    else if is_word_at words 1 (codes "act") then act_form words
    else if is_word_at words 1 (codes "install") || is_word_at words 1 (codes "renumber") then plain (codes "{\"line\":#,\"event\":$,\"kind\":$,\"root\":$,\"epoch\":#}")
    else if is_word_at words 1 (codes "learn") || is_word_at words 1 (codes "retire") then plain (codes "{\"line\":#,\"event\":$,\"epoch\":#}")
    else plain (codes "{\"line\":#,\"event\":$,\"link\":[$,$]}")

-- the form of the first line of a text
abbrev pub head_form : Shape → List Name → LineForm
head_form shapes.Plan words = plain (codes "{$:$,\"nodes\":#,\"intervals\":#,\"rows\":[")
head_form shapes.Nodes words = plain (codes "{$:$,\"nodes\":#,\"intervals\":#,\"first\":#,\"last\":#,\"rows\":[")
head_form shapes.Order words = plain (codes "$")
head_form shapes.Walk words = plain (codes "{$:$,\"from\":$,\"to\":$,\"address\":#,\"weight\":#,\"hops\":[")
head_form shapes.Stats words = figure_form words
head_form shapes.Compare words = plain (codes "{$:{\"nodes\":#,\"links\":#},\"plans\":[")
head_form shapes.Failures words = if is_empty (word_at words 11) then plain (codes "{$:$,\"kind\":$,\"nodes\":#,\"links\":#,\"intervals\":#,\"greatest-row\":#,\"bits\":#,\"mean-stretch\":{\"walks\":<,\"distances\":>},\"worst-stretch\":{\"walk\":<,\"distance\":>},\"dependencies\":$,\"failures\":[") else plain (codes "{$:$,\"kind\":$,\"nodes\":#,\"links\":#,\"intervals\":#,\"greatest-row\":#,\"bits\":#,\"mean-stretch\":{\"walks\":<,\"distances\":>},\"worst-stretch\":{\"walk\":<,\"distance\":>},\"dependencies\":$,\"together\":$,\"failures\":[")
head_form shapes.Losses words = if is_empty (word_at words 11) then plain (codes "{$:$,\"kind\":$,\"nodes\":#,\"links\":#,\"intervals\":#,\"greatest-row\":#,\"bits\":#,\"mean-stretch\":{\"walks\":<,\"distances\":>},\"worst-stretch\":{\"walk\":<,\"distance\":>},\"dependencies\":$,\"failures\":[") else plain (codes "{$:$,\"kind\":$,\"nodes\":#,\"links\":#,\"intervals\":#,\"greatest-row\":#,\"bits\":#,\"mean-stretch\":{\"walks\":<,\"distances\":>},\"worst-stretch\":{\"walk\":<,\"distance\":>},\"dependencies\":$,\"together\":$,\"failures\":[")
head_form shapes.Diff words = plain (codes "{$:[$,$],\"nodes\":#,\"changed\":#,\"relabelled\":#,\"removed\":#,\"put\":#,\"rows\":[")
head_form shapes.Prefixes words = plain (codes "{$:$,\"nodes\":#,\"bits\":#,\"entries\":#,\"rows\":[")
head_form shapes.Ranges words = plain (codes "{$:$,\"nodes\":#,\"count\":#,\"rows\":[")
head_form shapes.Trace words = plain (codes "{$:#,\"packets\":[")
head_form shapes.Restamps words = plain (codes "{$:#,\"packets\":[")
head_form shapes.Steps words = plain (codes "{$:#,\"events\":[")
head_form shapes.Check words = if is_word_at words 0 (codes "ok") then plain (codes "{$:#}") else plain (codes "{~\"line\":#,\"finding\":$}")

-- the form of a further line, by its place, counted from 0
abbrev pub row_form : Shape → ℕ → List Name → LineForm
row_form shapes.Plan place words = listed (codes "{\"node\":$,\"label\":#,\"intervals\":[") (Pairs (codes "{\"start\":#,\"next\":$}"))
row_form shapes.Nodes place words = listed (codes "{\"node\":$,\"label\":#,\"intervals\":[") (Pairs (codes "{\"start\":#,\"next\":$}"))
row_form shapes.Order place words = plain (codes "$")
row_form shapes.Walk place words = if is_empty (word_at words 2) then plain (codes "{\"node\":$,\"label\":#}") else plain (codes "{\"node\":$,\"label\":#,\"start\":#,\"end\":#,\"next\":$,\"weight\":#}")
row_form shapes.Stats place words = figure_form words
row_form shapes.Compare place words = if place == 1 then plain [] else if is_word_at words 0 (codes "tables") then plain (codes "$:{~~~\"bits\":#}") else plain (codes "{\"kind\":$,\"numbering\":$,\"intervals\":#,\"greatest-row\":#,\"bits\":#,\"mean-stretch\":{\"walks\":<,\"distances\":>},\"worst-stretch\":{\"walk\":<,\"distance\":>},\"dependencies\":$}")
row_form shapes.Failures place words =
    if is_word_at words 2 (codes "disconnected") then plain (codes "{\"link\":[$,$],\"disconnected\":true~}")
    else if is_empty (word_at words 8) then plain (codes "{\"link\":[$,$],\"intervals\":#,\"greatest-row\":#,\"bits\":#,\"mean-stretch\":{\"walks\":<,\"distances\":>},\"worst-stretch\":{\"walk\":<,\"distance\":>},\"dependencies\":$}")
    else plain (codes "{\"link\":[$,$],\"intervals\":#,\"greatest-row\":#,\"bits\":#,\"mean-stretch\":{\"walks\":<,\"distances\":>},\"worst-stretch\":{\"walk\":<,\"distance\":>},\"dependencies\":$,\"together\":$}")
row_form shapes.Losses place words =
    if is_word_at words 1 (codes "disconnected") then plain (codes "{\"node\":$,\"disconnected\":true~}")
    else if is_word_at words 1 (codes "empty") then plain (codes "{\"node\":$,\"empty\":true~}")
    else if is_empty (word_at words 7) then plain (codes "{\"node\":$,\"intervals\":#,\"greatest-row\":#,\"bits\":#,\"mean-stretch\":{\"walks\":<,\"distances\":>},\"worst-stretch\":{\"walk\":<,\"distance\":>},\"dependencies\":$}")
    else plain (codes "{\"node\":$,\"intervals\":#,\"greatest-row\":#,\"bits\":#,\"mean-stretch\":{\"walks\":<,\"distances\":>},\"worst-stretch\":{\"walk\":<,\"distance\":>},\"dependencies\":$,\"together\":$}")
row_form shapes.Diff place words = listed (codes "{\"node\":$,\"was\":#,\"label\":#,\"remove\":[") Changes
row_form shapes.Prefixes place words = listed (codes "{\"node\":$,\"label\":#,\"entries\":[") (Pairs (codes "{\"value\":<,\"length\":>,\"next\":?}"))
row_form shapes.Ranges place words = listed (codes "{\"node\":$,\"label\":#,\"ranges\":[") (Pairs (codes "{\"from\":<,\"to\":>,\"next\":$}"))
row_form shapes.Trace place words = if has_link words 5 then listed (codes "{\"id\":#,\"epoch\":#,\"from\":$,\"to\":$,\"weight\":#,\"fate\":$,\"link\":[$,$],\"hops\":[") Names else listed (codes "{\"id\":#,\"epoch\":#,\"from\":$,\"to\":$,\"weight\":#,\"fate\":$,\"hops\":[") Names
row_form shapes.Restamps place words = if has_link words 4 then listed (codes "{\"id\":#,\"from\":$,\"to\":$,\"weight\":#,\"fate\":$,\"link\":[$,$],\"segments\":[") Segments else listed (codes "{\"id\":#,\"from\":$,\"to\":$,\"weight\":#,\"fate\":$,\"segments\":[") Segments
row_form shapes.Steps place words = step_form words
row_form shapes.Check place words = plain (codes "{~\"line\":#,\"finding\":$}")

-- the form of a line, by the shape of its text, by its place, counted from 0, and by its words
abbrev pub form_of : Shape → ℕ → List Name → LineForm
form_of shape place words = if place == 0 then head_form shape words else row_form shape place words
