use Rattle.std.proofs.Common.{◌∷◌, arith}
use Rattle.ir_worker.proofs.Serves.{same_then}
use Rattle.ir_worker.proofs.serving.serve_with_bells.Goals as goal

pub returns-in_default-clause-turns : goal.returns-in_default-clause-turns
returns-in_default-clause-turns g c = (c.loop.invariant.turns.0, (c.loop.node, c.loop.invariant.turns.1, c.in_default.ensures))

pub loop-preserved : goal.loop-preserved
loop-preserved g c = record {
  turns = (c.in-Ok.turn ∷ c.loop.invariant.turns.0, (c.loop.node, c.loop.invariant.turns.1, c.in-Ok.ensures), (let many = c.loop.invariant.turns.2 in omega (arith, many)));
  same = same_then c.args.node c.loop.node c.turn.new.self c.loop.invariant.same c.in-Ok.ensures.same;
}
