use Rattle.std.proofs.Common.{◌∙◌, sym, ap, map, Some, arith}
use Rattle.ir_model.specs.Graph.{names}
use Rattle.ir_trace.specs.Reading.{node_named}
use Rattle.ir_trace.proofs.ReadHops.{hops_more, no_hops_at}
use Rattle.ir_trace.proofs.resolve.hops_of.Goals as goal

pub returns-in-None : goal.returns-in-None
returns-in-None c hops is = no_hops_at (node_named (names c.args.graph.now)) c.args.words.now c.loop-word.word-index _ (omega arith) (sym c.in-None.ensures.place) hops is

pub loop-word-preserved : goal.loop-word-preserved
loop-word-preserved c =
    hops_more (node_named (names c.args.graph.now)) c.args.words.now c.loop-word.word-index _ c.loop-word.hops.items c.in-Some.place (omega arith) (sym c.in-Some.ensures.place) c.loop-word.invariant
    ∙ ap (map (λ u. Some u)) (sym c.in_ok-push-in-Some.ensures.items)
