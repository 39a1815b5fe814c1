-- What contracts see of the types of this crate.
use Rattle.ir_lanes.specs.Outward.{OutwardLanes}
use Rattle.ir_lanes.specs.Marks.{PortMarks, word_lists}
use Rattle.ir_lanes.specs.declared.marks.PortMarks.TheInside.{Inside as MarksInside}
use Rattle.ir_lanes.specs.declared.outward.OutwardLanes.TheInside.{Inside as OutwardInside}

-- the lanes of ways from sixteen nodes
abbrev pub outward_lanes_of : OutwardInside → OutwardLanes
outward_lanes_of w = record { sources = w.sources.items; bits = w.bits; keys = w.keys.items }

-- the marks of ports
abbrev pub port_marks_of : MarksInside → PortMarks
port_marks_of m = record { begins = m.begins.items; batches = word_lists m.batches.items }
