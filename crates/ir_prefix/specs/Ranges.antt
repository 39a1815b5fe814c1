-- Ranges of labels with one port, and which lists of them give the port to each label.
use Rattle.std.specs.Prelude.{◌≡◌, ◌≢◌, ◌==◌, ◌&&◌, ℕ, ◌+◌, ◌<◌, ◌≤◌, List, [], ◌∷◌, length, All, Any, Option, Some, None, if◌then◌else◌}
use Rattle.std.specs.List.{AllPairs}
use Rattle.ir_model.specs.Compiled.{port_to}
use Rattle.ir_prefix.specs.declared.ranges.LabelRange.{LabelRange}

-- the range from one label to another
abbrev pub range : ℕ → ℕ → ℕ → LabelRange
range from to port = record { from = from; to = to; port = port }

-- The ranges of a label with a port and of those after it. A range that begins with the next label and has this port
-- begins with the label; else the label is a range of its own.
abbrev pub with_label : ℕ → ℕ → List LabelRange → List LabelRange
with_label label port [] = range label label port ∷ []
with_label label port (r ∷ rest) =
    if (r.from == label + 1) && (r.port == port) then range label r.to port ∷ rest else range label label port ∷ r ∷ rest

-- the ranges of the labels from one on, by the ports to them
abbrev pub ranges_from : ℕ → List (Option ℕ) → List LabelRange
ranges_from label [] = []
ranges_from label (None ∷ ports) = ranges_from (label + 1) ports
ranges_from label (Some port ∷ ports) = with_label label port (ranges_from (label + 1) ports)

-- the ranges of all labels
abbrev pub ranges_of : List (Option ℕ) → List LabelRange
ranges_of ports = ranges_from 0 ports

-- ---- what they are

-- the label is in the range
abbrev pub IsInRange : ℕ → LabelRange → Type 0
IsInRange label r = (r.from ≤ label) × (label ≤ r.to)

-- Each range has labels, and each label in it has its port; each label with a port is in a range.
pub record TellsPorts (ports : List (Option ℕ)) (set : List LabelRange) : Type 0 where
  pub filled : All (λ (r : LabelRange). r.from ≤ r.to) set
  pub agrees : All (λ (r : LabelRange). (label : ℕ) → IsInRange label r → port_to ports label ≡ Some r.port) set
  pub covered : (label port : ℕ) → port_to ports label ≡ Some port → Any (λ (r : LabelRange). IsInRange label r) set

-- a range ends before a later one begins, and where they touch they have different ports
abbrev pub IsApart : LabelRange → LabelRange → Type 0
IsApart r later = (r.to < later.from) × (r.to + 1 ≡ later.from → r.port ≢ later.port)

abbrev pub AreRangesApart : List LabelRange → Type 0
AreRangesApart set = AllPairs IsApart set

-- no ranges that give the ports are fewer
abbrev pub IsFewestRanges : List (Option ℕ) → ℕ → Type 0
IsFewestRanges ports count = (set : List LabelRange) → TellsPorts ports set → count ≤ length set
