use Rattle.std.proofs.Common.{take, map}
use Rattle.ir_trace.specs.Reading.{PartsAreReadAs}
use Rattle.ir_trace.specs.Spelled.{part_held}
use Rattle.ir_trace.proofs.resolve.segments_of.Given as goal

abbrev pub invariant-loop-spelling : goal.invariant-loop-spelling
invariant-loop-spelling l = PartsAreReadAs l.graph (map part_held (take l.spelling-index l.spellings)) l.segments.items
