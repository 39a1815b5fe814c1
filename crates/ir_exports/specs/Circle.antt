-- The circle of labels with the intervals of a node u, coloured by port, as SVG. The circle is drawn with a radius of 113 for
-- each of the n labels, so that a label is 710 long: 710 / 113 is 2 pi but for a ten-millionth.
use Rattle.std.specs.Prelude.{ℕ, ◌+◌, ◌-◌, ◌*◌, ◌/◌, if◌then◌else◌, nat_le, nat_lt, List, [], ◌++◌, length, flat_map, decimal, codes}
use Rattle.std.specs.List.{range_with_len}
use Rattle.ir_model.specs.Graph.{Name}
use Rattle.ir_model.specs.Interval.{PortInterval}
use Rattle.ir_model.specs.Topology.{node_count, ports_of}
use Rattle.ir_model.specs.Row.{intervals_of}
use Rattle.ir_model.specs.Plan.{Plan, label_in, row_in}
use Rattle.ir_trace.specs.Written.{name_at}
use Rattle.ir_show.specs.PlanText.{node_by}
use Rattle.ir_exports.specs.Ports.{ink, colour, said, intervals_by, first_intervals, shown_ports}
use Rattle.ir_exports.specs.Names.{xml, short_name}
use Rattle.ir_exports.specs.Around.{around}

-- how many of n labels an interval has
abbrev pub label_count : ℕ → PortInterval → ℕ
label_count n m = if nat_lt m.start m.end then m.end - m.start else (n - m.start) + m.end

-- ---- the ring

-- an arc over so many labels from one on, in a colour, up to what it says of itself
abbrev pub arc_start : ℕ → List ℕ → ℕ → ℕ → List ℕ
arc_start n paint start count =
    codes "<circle r=\"" ++ decimal (113 * n) ++ codes "\" stroke=\"" ++ paint ++ codes "\" stroke-dasharray=\"" ++ decimal (710 * count) ++ codes " " ++ decimal (710 * (n - count))
    ++ codes "\" stroke-dashoffset=\"" ++ decimal (710 * (n - start)) ++ codes "\"><title>"

abbrev pub arc_end : List ℕ
arc_end = codes "</title></circle>\n"

-- the arc of an interval: `[START,END) to NEIGHBOUR`
abbrev pub arc : List Name → Plan → ℕ → PortInterval → List ℕ
arc nodes plan u m =
    arc_start (node_count plan.topology) (colour m.port) m.start (label_count (node_count plan.topology) m) ++ said m ++ codes " to "
    ++ xml (name_at nodes (node_by plan.topology u m.port)) ++ arc_end

-- the arc of u's own label, over the interval that has it, if one does
abbrev pub own_arc : List Name → Plan → ℕ → List ℕ
own_arc nodes plan u = arc_start (node_count plan.topology) ink (label_in plan u) 1 ++ xml (name_at nodes u) ++ codes " itself" ++ arc_end

-- a white mark between each two labels, where there is room for them
abbrev pub label_marks : ℕ → List ℕ
label_marks n =
    if nat_le n 64
    then codes "<circle r=\"" ++ decimal (113 * n) ++ codes "\" stroke=\"#ffffff\" stroke-dasharray=\"" ++ decimal n ++ codes " " ++ decimal (710 - n) ++ codes "\" stroke-dashoffset=\"" ++ decimal (n / 2) ++ codes "\"/>\n"
    else []

-- the arcs begin at the top, and go clockwise
abbrev pub ring_start : ℕ → List ℕ
ring_start n =
    codes "<svg x=\"-370\" y=\"-370\" width=\"740\" height=\"740\" viewBox=\"-" ++ decimal (185 * n) ++ codes " -" ++ decimal (185 * n) ++ codes " " ++ decimal (370 * n) ++ codes " " ++ decimal (370 * n)
    ++ codes "\">\n<g transform=\"rotate(-90)\" fill=\"none\" stroke-width=\"" ++ decimal (14 * n) ++ codes "\">\n"

abbrev pub ring : List Name → Plan → ℕ → List ℕ
ring nodes plan u =
    ring_start (node_count plan.topology) ++ flat_map (arc nodes plan u) (intervals_of (row_in plan u)) ++ own_arc nodes plan u ++ label_marks (node_count plan.topology) ++ codes "</g>\n</svg>\n"

-- ---- the key beside it

-- a line of the key, with its colour, up to its words
abbrev pub key_start : ℕ → List ℕ → List ℕ
key_start line paint =
    codes "<rect y=\"" ++ decimal (20 * line) ++ codes "\" width=\"14\" height=\"14\" fill=\"" ++ paint ++ codes "\"/>\n<text x=\"24\" y=\"" ++ decimal (20 * line + 12) ++ codes "\">"

-- a port: `NEIGHBOUR: INTERVALS`
abbrev pub port_key : List Name → Plan → ℕ → ℕ → List ℕ
port_key nodes plan u port =
    key_start (port + 1) (colour port) ++ xml (name_at nodes (node_by plan.topology u port)) ++ codes ":" ++ first_intervals (intervals_by plan u port) ++ codes "</text>\n"

abbrev pub own_key : List Name → Plan → ℕ → List ℕ
own_key nodes plan u = key_start 0 ink ++ xml (name_at nodes u) ++ codes " itself: label " ++ decimal (label_in plan u) ++ codes "</text>\n"

abbrev pub more_ports : ℕ → List ℕ
more_ports count = if nat_lt 30 count then codes "<text x=\"24\" y=\"632\">and " ++ decimal (count - 30) ++ codes " more ports</text>\n" else []

abbrev pub key_head : List ℕ
key_head =
    codes "<g transform=\"translate(390 -290)\">\n<text y=\"-40\" font-weight=\"bold\">Intervals of labels by port</text>\n"
    ++ codes "<text y=\"-18\">[a,b): the labels from a up to, and without, b, clockwise</text>\n"

abbrev pub key : List Name → Plan → ℕ → List ℕ
key nodes plan u =
    key_head ++ own_key nodes plan u ++ flat_map (port_key nodes plan u) (range_with_len 0 (shown_ports (length (ports_of plan.topology u))))
    ++ more_ports (length (ports_of plan.topology u)) ++ codes "</g>\n"

-- ---- the document

abbrev pub head : List Name → ℕ → List ℕ
head nodes u =
    codes "<svg xmlns=\"http://www.w3.org/2000/svg\" width=\"1280\" height=\"740\" viewBox=\"-370 -370 1280 740\" font-family=\"sans-serif\" font-size=\"13\" fill=\"#1d2733\">\n<title>"
    ++ xml (name_at nodes u) ++ codes "</title>\n<rect x=\"-370\" y=\"-370\" width=\"1280\" height=\"740\" fill=\"#ffffff\"/>\n"

-- in the middle the name of u, and its label
abbrev pub middle : List Name → Plan → ℕ → List ℕ
middle nodes plan u =
    codes "<text font-size=\"24\" text-anchor=\"middle\">" ++ short_name (name_at nodes u) ++ codes "</text>\n<text y=\"24\" text-anchor=\"middle\">label " ++ decimal (label_in plan u) ++ codes "</text>\n"

abbrev pub circle_svg : List Name → Plan → ℕ → List ℕ
circle_svg nodes plan u =
    head nodes u ++ ring nodes plan u ++ codes "<g transform=\"rotate(-90)\">\n" ++ around nodes plan u ++ codes "</g>\n" ++ middle nodes plan u ++ key nodes plan u ++ codes "</svg>\n"
