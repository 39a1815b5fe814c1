use Rattle.std.proofs.Common.{Bool, arith, sym, subst, ap, ◌<◌, ◌≤◌, ◌+◌, length}
use Rattle.std.proofs.lemmas.List.{take_all}
use Rattle.ir_model.specs.Topology.{ports_of}
use Rattle.ir_core.specs.Setting.{Setting}
use Rattle.ir_core.proofs.Rounds.{PortsSo, ports_none, ports_more, ports_all, port_read, port_channel}
use Rattle.ir_core.proofs.world.World.try_ports.Goals as goal

pub try_way-sent-requires-clause-channel : goal.try_way-sent-requires-clause-channel
try_way-sent-requires-clause-channel c =
    let s = c.loop-port.self in
    let same = c.loop-port.invariant.moves.opening in
    let first = ap length c.ports-count.ensures in
    let now = ap (λ (o : Setting). length (ports_of o.topology c.args.node)) same in
    let here = ap length c.ports.ensures in
    let lt : c.loop-port.port < length c.ports.result.now = omega arith in
    let at = port_read c.args.self.now s same c.args.node c.loop-port.port c.ports.result.now (record { node = 0; link = 0; weight = 0 }) c.ports.ensures lt in
    port_channel s.opening c.invariant.ensures.world.opening.topology c.args.node c.loop-port.port _ at.1

pub loop-port-preserved : goal.loop-port-preserved
loop-port-preserved c =
    let s = c.loop-port.self in
    let same = c.loop-port.invariant.moves.opening in
    let first = ap length c.ports-count.ensures in
    let now = ap (λ (o : Setting). length (ports_of o.topology c.args.node)) same in
    let here = ap length c.ports.ensures in
    let lt : c.loop-port.port < length c.ports.result.now = omega arith in
    let at = port_read c.args.self.now s same c.args.node c.loop-port.port c.ports.result.now (record { node = 0; link = 0; weight = 0 }) c.ports.ensures lt in
    subst (λ (b : Bool). PortsSo c.args.self.now c.args.node (c.loop-port.port + 1) b c.try_way-sent.new.self) (sym c.either-acted.ensures)
    (ports_more c.args.self.now s c.try_way-sent.new.self c.args.node c.loop-port.port c.loop-port.acted c.try_way-sent.result _ c.loop-port.invariant at.0 c.try_way-sent.ensures.moves c.try_way-sent.ensures.idle c.try_way-sent.ensures.hand c.try_way-sent.ensures.view)

pub returns-clause-idle : goal.returns-clause-idle
returns-clause-idle c =
    let first = ap length c.ports-count.ensures in
    let le : length (ports_of c.args.self.now.opening.topology c.args.node) ≤ c.loop-port.port = omega arith in
    (ports_all c.args.self.now c.loop-port.self c.args.node c.loop-port.port c.loop-port.acted c.loop-port.invariant le (take_all c.loop-port.port (ports_of c.args.self.now.opening.topology c.args.node) le)).1

pub returns-clause-moves : goal.returns-clause-moves
returns-clause-moves c =
    let first = ap length c.ports-count.ensures in
    let le : length (ports_of c.args.self.now.opening.topology c.args.node) ≤ c.loop-port.port = omega arith in
    (ports_all c.args.self.now c.loop-port.self c.args.node c.loop-port.port c.loop-port.acted c.loop-port.invariant le (take_all c.loop-port.port (ports_of c.args.self.now.opening.topology c.args.node) le)).0

pub loop-port-init : goal.loop-port-init
loop-port-init c = ports_none c.args.self.now c.args.node c.requires.hand c.requires.view
