-- What is written round the circle of n labels, by half cells clockwise from its top: label d has the two after 2 d.
use Rattle.std.specs.Prelude.{ℕ, ◌+◌, ◌-◌, ◌*◌, ◌/◌, ◌%◌, Bool, ◌==◌, if◌then◌else◌, nat_le, List, [], ◌++◌, length, flat_map, decimal, codes, false, true}
use Rattle.std.specs.List.{range_with_len}
use Rattle.ir_model.specs.Graph.{Name}
use Rattle.ir_model.specs.Interval.{PortInterval}
use Rattle.ir_model.specs.Topology.{node_count}
use Rattle.ir_model.specs.Row.{intervals_of}
use Rattle.ir_model.specs.Plan.{Plan, label_in, node_in, row_in}
use Rattle.ir_trace.specs.Written.{name_at}
use Rattle.ir_exports.specs.Names.{short_name}

-- thousandths of a degree as a decimal
abbrev pub degrees : ℕ → List ℕ
degrees t = decimal (t / 1000) ++ codes "." ++ decimal (t / 100 % 10) ++ decimal (t / 10 % 10) ++ decimal (t % 10)

-- the angle of h half cells, of which n are 180 degrees
abbrev pub angle : ℕ → ℕ → List ℕ
angle n h = degrees (180000 * h / n)

-- A text at h half cells, up to the number of its place on the line from the middle. On the left half it is turned by 180
-- degrees less, and its place has a minus, so that no text is upside down.
abbrev pub spoke : ℕ → ℕ → List ℕ
spoke n h =
    if nat_le h n then codes "<text transform=\"rotate(" ++ angle n h ++ codes ")\" y=\"4\" x=\""
    else codes "<text transform=\"rotate(" ++ angle n (h - n) ++ codes ")\" y=\"4\" x=\"-"

abbrev pub anchor : ℕ → ℕ → List ℕ
anchor n h = if nat_le h n then codes "start" else codes "end"

abbrev pub bold_text : Bool → List ℕ
bold_text is_bold = if is_bold then codes " font-weight=\"bold\"" else []

-- a text outside the circle
abbrev pub outside_start : ℕ → ℕ → Bool → List ℕ
outside_start n h is_bold = spoke n h ++ codes "248\" text-anchor=\"" ++ anchor n h ++ codes "\"" ++ bold_text is_bold ++ codes ">"

abbrev pub outside : ℕ → ℕ → Bool → List ℕ → List ℕ
outside n h is_bold text = outside_start n h is_bold ++ text ++ codes "</text>\n"

-- a label in its cell
abbrev pub label_text : ℕ → ℕ → List ℕ
label_text n d = spoke n (2 * d + 1) ++ codes "226\" text-anchor=\"middle\" fill=\"#ffffff\">" ++ decimal d ++ codes "</text>\n"

-- a label, and outside the name of its node; that of u is bold
abbrev pub cell : List Name → Plan → ℕ → ℕ → List ℕ
cell nodes plan u d =
    label_text (node_count plan.topology) d
    ++ outside (node_count plan.topology) (2 * d + 1) (d == label_in plan u) (short_name (name_at nodes (node_in plan d)))

-- where an interval begins
abbrev pub bound : ℕ → PortInterval → List ℕ
bound n m = outside n (2 * m.start) false (decimal m.start)

-- the bounds of u's intervals, where there is room for them
abbrev pub starts : Plan → ℕ → List ℕ
starts plan u = if nat_le (length (row_in plan u)) 64 then flat_map (bound (node_count plan.topology)) (intervals_of (row_in plan u)) else []

-- and the name of u at its label
abbrev pub bounds : List Name → Plan → ℕ → List ℕ
bounds nodes plan u =
    starts plan u
    ++ outside (node_count plan.topology) (2 * label_in plan u + 1) true (short_name (name_at nodes u))

-- each label with its node's name, where there is room for them, or else the bounds
abbrev pub around : List Name → Plan → ℕ → List ℕ
around nodes plan u =
    if nat_le (node_count plan.topology) 64 then flat_map (cell nodes plan u) (range_with_len 0 (node_count plan.topology)) else bounds nodes plan u
