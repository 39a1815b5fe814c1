use Rattle.ir_model.specs.Graph.{names}
use Rattle.ir_trace.specs.Written.{name_at}
use Rattle.ir_show.specs.Blocks.{AreSpaced}
use Rattle.ir_show.proofs.plan_text.spaced_names.Given as goal

abbrev pub invariant-loop-u : goal.invariant-loop-u
invariant-loop-u l = AreSpaced (name_at (names l.graph)) l.u l.texts
