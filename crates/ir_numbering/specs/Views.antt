-- What contracts see of the fields of a numbering.
use Rattle.ir_numbering.specs.Numbering.{Numbering}
use Rattle.ir_numbering.specs.declared.numbering.Numbering.TheInside.{Inside}

abbrev pub numbers_of : Inside → Numbering
numbers_of s = record { order = s.order.items; parents = s.parents.items; labels = s.labels.items; ports = s.ports.items }
