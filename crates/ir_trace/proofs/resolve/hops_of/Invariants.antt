use Rattle.std.proofs.Common.{take}
use Rattle.ir_trace.specs.Spelled.{texts, AreHops}
use Rattle.ir_trace.proofs.resolve.hops_of.Given as goal

abbrev pub invariant-loop-word : goal.invariant-loop-word
invariant-loop-word l = AreHops l.graph (texts (take l.word-index l.words)) l.hops.items
