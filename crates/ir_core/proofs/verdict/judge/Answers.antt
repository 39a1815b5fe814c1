use Rattle.std.proofs.Common.{sym}
use Rattle.std.proofs.lemmas.Option.{slice_get_within}
use Rattle.ir_model.specs.Topology.{ports_of}
use Rattle.ir_model.specs.Plan.{node_in}
use Rattle.ir_core.proofs.Walks.{port_there}
use Rattle.ir_core.proofs.verdict.judge.Goals as goal

pub hop-hop-requires-clause-port : goal.hop-hop-requires-clause-port
hop-hop-requires-clause-port c =
    let t = c.args.plan.now in
    let is = c.invariant.ensures.plan in
    let h = port_there t is c.args.at (node_in t c.args.address) c.requires.at_in (is.labels.node c.args.address c.requires.address_in) c.in-Some.port (sym c.in-Some.ensures) in
    slice_get_within (ports_of t.topology c.args.at) c.in-Some.port h.0 h.1
