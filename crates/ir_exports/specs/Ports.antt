-- The ports of a node: their colours, and the intervals of each.
use Rattle.std.specs.Prelude.{ℕ, ◌-◌, ◌%◌, ◌==◌, if◌then◌else◌, nat_lt, List, [], ◌∷◌, ◌++◌, length, take, filter, flat_map, slice_index_or, decimal, codes}
use Rattle.ir_model.specs.Interval.{PortInterval}
use Rattle.ir_model.specs.Row.{intervals_of}
use Rattle.ir_model.specs.Plan.{Plan, row_in}
use Rattle.ir_trace.specs.Rows.{spaced}
use Rattle.ir_show.specs.Drawing.{interval_text}

-- the colour of a node's own label, and of what is written on white
abbrev pub ink : List ℕ
ink = codes "#1d2733"

-- the colour of a port: after twelve ports they come again
abbrev pub palette : List (List ℕ)
palette =
    codes "#2b6fd6" ∷ codes "#c75d00" ∷ codes "#1b8049" ∷ codes "#8f4bc9" ∷ codes "#c7305f" ∷ codes "#0b8290" ∷
    codes "#96602f" ∷ codes "#6c7200" ∷ codes "#4a5a9e" ∷ codes "#b3458c" ∷ codes "#3d7a76" ∷ codes "#a34b2a" ∷ []

abbrev pub colour : ℕ → List ℕ
colour port = slice_index_or palette (port % 12) []

-- `[START,END)`, or `all labels` where an interval goes once round
abbrev pub said : PortInterval → List ℕ
said m = if m.start == m.end then codes "all labels" else interval_text m

-- the intervals of u's row that have a port
abbrev pub intervals_by : Plan → ℕ → ℕ → List PortInterval
intervals_by plan u port = filter (λ m. m.port == port) (intervals_of (row_in plan u))

-- how many there are, where they are none, or more than six
abbrev pub count_text : ℕ → List ℕ
count_text count = if count == 0 then codes " no label" else (if nat_lt 6 count then codes " and " ++ decimal (count - 6) ++ codes " more" else [])

-- the first six of some intervals, and how many more there are
abbrev pub first_intervals : List PortInterval → List ℕ
first_intervals ms = flat_map (λ m. spaced (said m)) (take 6 ms) ++ count_text (length ms)

-- as many ports as there is room for
abbrev pub shown_ports : ℕ → ℕ
shown_ports count = if nat_lt 30 count then 30 else count
