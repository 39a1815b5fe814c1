use Rattle.std.proofs.Common.{ℕ, subst, arith, string_bytes}
use Rattle.std.proofs.lemmas.Result.{IfOk-weaker}
use Rattle.ir_model.specs.Graph.{names}
use Rattle.ir_show.specs.Stops.{AreStopsAmong}
use Rattle.ir_show.proofs.Walks.{stops_among, walk_told}
use Rattle.ir_show.proofs.walk.walk_text.Goals as goal

pub text_of-requires : goal.text_of-requires
text_of-requires c =
    subst (λ (n : ℕ). AreStopsAmong n c.in_ok-walk.walk) c.requires.nodes
    (stops_among c.args.plan.now c.invariant.ensures.plan c.args.from c.args.to (omega (arith, c.requires.from, c.requires.nodes)) (omega (arith, c.requires.to, c.requires.nodes)) c.in_ok-walk.walk c.in_ok-walk.ensures)

pub returns : goal.returns
returns c =
    IfOk-weaker c.text_of.result _ _
    (λ text told. walk_told (names c.args.graph.now) c.args.plan.now c.args.to c.invariant.ensures.plan (omega (arith, c.requires.to, c.requires.nodes)) c.args.from c.in_ok-walk.walk c.in_ok-walk.ensures (string_bytes text) told)
    c.text_of.ensures
