use Rattle.std.proofs.Common.{◌≡◌, ◌<◌, Some, length, refl, sym, ap, ◌∙◌, arith}
use Rattle.std.proofs.lemmas.Option.{slice_get_within, slice_get-get_or}
use Rattle.ir_model.specs.Topology.{node_count, ports_of}
use Rattle.ir_tables.specs.Listed.{listed_port}
use Rattle.ir_tables.proofs.Ways.{listed_next}
use Rattle.ir_tables.proofs.listed.hop_at.Goals as goal

pub unwrap-port-requires : goal.unwrap-port-requires
unwrap-port-requires c =
    let next = listed_next c.args.topology.now c.args.ports.now c.requires.list c.args.x c.args.d c.requires.node c.requires.end c.requires.other in
    rw (c.nodes-nodes.ensures.count, next.1.held) refl

pub bounds-ports-port : goal.bounds-ports-port
bounds-ports-port c =
    let next = listed_next c.args.topology.now c.args.ports.now c.requires.list c.args.x c.args.d c.requires.node c.requires.end c.requires.other in
    let held : listed_port (node_count c.args.topology.now) c.args.ports.now c.args.x c.args.d ≡ Some c.unwrap-port.result = ap (λ n. listed_port n c.args.ports.now c.args.x c.args.d) (sym c.nodes-nodes.ensures.count) ∙ c.unwrap-port.ensures in
    let same : next.1.port ≡ c.unwrap-port.result = cc (held, next.1.held) in
    let within : next.1.port < length (ports_of c.args.topology.now c.args.x) = slice_get_within (ports_of c.args.topology.now c.args.x) next.1.port next.0 next.1.there in
    omega (arith, same, within, ap length c.ports.ensures)

pub returns : goal.returns
returns c =
    let next = listed_next c.args.topology.now c.args.ports.now c.requires.list c.args.x c.args.d c.requires.node c.requires.end c.requires.other in
    let held : listed_port (node_count c.args.topology.now) c.args.ports.now c.args.x c.args.d ≡ Some c.unwrap-port.result = ap (λ n. listed_port n c.args.ports.now c.args.x c.args.d) (sym c.nodes-nodes.ensures.count) ∙ c.unwrap-port.ensures in
    let same : next.1.port ≡ c.unwrap-port.result = cc (held, next.1.held) in
    let within : next.1.port < length (ports_of c.args.topology.now c.args.x) = slice_get_within (ports_of c.args.topology.now c.args.x) next.1.port next.0 next.1.there in
    record { port = c.unwrap-port.result; held = held; there = rw (sym c.ports.ensures) (slice_get-get_or c.ports.result.now c.unwrap-port.result (record { node = 0; link = 0; weight = 0 }) (omega (arith, same, within, ap length c.ports.ensures))) }
