use Rattle.std.proofs.Common.{length, map}
use Rattle.ir_trace.specs.Spelled.{texts, part_held}
use Rattle.ir_trace.proofs.ReadParts.{AreReadTo}
use Rattle.ir_trace.proofs.words.spelled_segments.Given as goal

abbrev pub invariant-loop-rest : goal.invariant-loop-rest
invariant-loop-rest l = AreReadTo (texts l.words) (map part_held l.segments.items) (texts l.rest)

abbrev pub decreases-loop-rest : goal.decreases-loop-rest
decreases-loop-rest l = length l.rest
