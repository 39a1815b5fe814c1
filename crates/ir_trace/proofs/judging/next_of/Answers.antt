use Rattle.std.proofs.Common.{◌≡◌, sym, Some}
use Rattle.std.proofs.lemmas.Option.{slice_get_within}
use Rattle.ir_model.specs.Topology.{ports_of}
use Rattle.ir_model.specs.Plan.{node_in, table_port}
use Rattle.ir_core.proofs.Walks.{port_there}
use Rattle.ir_trace.proofs.judging.next_of.Goals as goal

pub hop-requires-clause-port : goal.hop-requires-clause-port
hop-requires-clause-port c =
    let t = c.args.plan.now in
    let is = c.invariant.ensures.plan in
    let there = is.labels.there c.args.dest c.requires.dest in
    let h = port_there t is c.args.at c.args.dest c.requires.at c.requires.dest c.in_ok-port.port (let e : table_port t c.args.at (node_in t c.label_of.result) ≡ Some c.in_ok-port.port = sym c.in_ok-port.ensures in rw (c.label_of.ensures, there) at e) in
    slice_get_within (ports_of t.topology c.args.at) c.in_ok-port.port h.0 h.1
