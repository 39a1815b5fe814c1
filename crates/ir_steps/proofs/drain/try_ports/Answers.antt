use Rattle.std.proofs.Common.{◌∙◌, ◌<◌, ◌≤◌, ◌+◌, Bool, List, arith, sym, ap, subst, length, string_bytes}
use Rattle.std.proofs.lemmas.List.{take_all}
use Rattle.ir_model.specs.declared.Hop.{Hop}
use Rattle.ir_model.specs.Graph.{names}
use Rattle.ir_model.specs.Topology.{Topology, ports_of}
use Rattle.ir_core.specs.Setting.{Setting, nodes_of}
use Rattle.ir_core.specs.Drain.{after_ports}
use Rattle.ir_core.proofs.Rounds.{PortsSo, ports_none, ports_more, ports_all, port_read, port_channel}
use Rattle.ir_steps.specs.Parts.{AddsText}
use Rattle.ir_steps.proofs.Adding.{has_then, adds_none, ports_add}
use Rattle.ir_steps.proofs.drain.try_ports.Goals as goal

pub loop-port-init : goal.loop-port-init
loop-port-init c = record {
  so = ports_none c.args.world.now c.args.node c.requires.hand c.requires.view;
  adds = adds_none (names c.args.net.now.graph.now) c.args.net.now.topology.now c.args.line c.args.world.now (string_bytes c.args.text.now);
}

pub try_way-requires-clause-history : goal.try_way-requires-clause-history
try_way-requires-clause-history c = has_then _ _ c.args.world.now c.loop-port.world c.requires.history c.loop-port.invariant.so.moves

pub try_way-requires-clause-node_in : goal.try_way-requires-clause-node_in
try_way-requires-clause-node_in c = subst (λ (o : Setting). c.args.node < nodes_of o) (sym c.loop-port.invariant.so.moves.opening) c.requires.node_in

pub try_way-requires-clause-channel : goal.try_way-requires-clause-channel
try_way-requires-clause-channel c =
    let s = c.loop-port.world in
    let same = c.loop-port.invariant.so.moves.opening in
    let is = c.ports-ports.ensures ∙ ap (λ (t : Topology). ports_of t c.args.node) (c.requires.over ∙ sym (ap (λ (o : Setting). o.topology) same)) in
    let lt : c.loop-port.port < length c.ports-ports.result.now = omega arith in
    let at = port_read c.args.world.now s same c.args.node c.loop-port.port c.ports-ports.result.now (record { node = 0; link = 0; weight = 0 }) is lt in
    port_channel s.opening c.invariant.ensures.world.opening.topology c.args.node c.loop-port.port _ at.1

pub try_way-requires-clause-hand : goal.try_way-requires-clause-hand
try_way-requires-clause-hand c = c.loop-port.invariant.so.hand

pub try_way-requires-clause-view : goal.try_way-requires-clause-view
try_way-requires-clause-view c = c.loop-port.invariant.so.view

pub loop-port-preserved : goal.loop-port-preserved
loop-port-preserved c =
    let s = c.loop-port.world in
    let now = c.args.world.now in
    let new = c.try_way.new.world in
    let u = c.args.node in
    let k = c.loop-port.port in
    let same = c.loop-port.invariant.so.moves.opening in
    let is = c.ports-ports.ensures ∙ ap (λ (t : Topology). ports_of t c.args.node) (c.requires.over ∙ sym (ap (λ (o : Setting). o.topology) same)) in
    let lt : c.loop-port.port < length c.ports-ports.result.now = omega arith in
    let at = port_read now s same u k c.ports-ports.result.now (record { node = 0; link = 0; weight = 0 }) is lt in
    let way = c.in_ok-sent.ensures in
    record {
      so = subst (λ (b : Bool). PortsSo now u (k + 1) b new) (sym c.either-acted.ensures)
          (ports_more now s new u k c.loop-port.acted c.in_ok-sent.sent _ c.loop-port.invariant.so at.0 way.moves way.idle way.hand way.view);
      adds = ports_add (names c.args.net.now.graph.now) c.args.net.now.topology.now c.args.line now s u k c.loop-port.acted _ (string_bytes c.args.text.now) (string_bytes c.loop-port.text) (string_bytes c.try_way.new.text)
          c.loop-port.invariant.so.moves at.0 c.loop-port.invariant.adds way.lines;
    }

pub returns-clause-moves : goal.returns-clause-moves
returns-clause-moves c =
    let first = ap length (c.ports-ports.ensures ∙ ap (λ (t : Topology). ports_of t c.args.node) c.requires.over) in
    let le : length (ports_of c.args.world.now.opening.topology c.args.node) ≤ c.loop-port.port = omega arith in
    (ports_all c.args.world.now c.loop-port.world c.args.node c.loop-port.port c.loop-port.acted c.loop-port.invariant.so le (take_all c.loop-port.port (ports_of c.args.world.now.opening.topology c.args.node) le)).0

pub returns-clause-idle : goal.returns-clause-idle
returns-clause-idle c =
    let first = ap length (c.ports-ports.ensures ∙ ap (λ (t : Topology). ports_of t c.args.node) c.requires.over) in
    let le : length (ports_of c.args.world.now.opening.topology c.args.node) ≤ c.loop-port.port = omega arith in
    (ports_all c.args.world.now c.loop-port.world c.args.node c.loop-port.port c.loop-port.acted c.loop-port.invariant.so le (take_all c.loop-port.port (ports_of c.args.world.now.opening.topology c.args.node) le)).1

pub returns-clause-lines : goal.returns-clause-lines
returns-clause-lines c =
    let s = c.args.world.now in
    let first = ap length (c.ports-ports.ensures ∙ ap (λ (t : Topology). ports_of t c.args.node) c.requires.over) in
    let le : length (ports_of c.args.world.now.opening.topology c.args.node) ≤ c.loop-port.port = omega arith in
    subst (λ (hops : List Hop). AddsText (names c.args.net.now.graph.now) c.args.net.now.topology.now c.args.line (after_ports s.opening c.args.node hops) s (string_bytes c.args.text.now) (string_bytes c.loop-port.text))
    (take_all c.loop-port.port (ports_of s.opening.topology c.args.node) le) c.loop-port.invariant.adds
