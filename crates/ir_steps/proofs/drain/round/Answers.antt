use Rattle.std.proofs.Common.{◌≡◌, ◌∙◌, ◌+◌, Bool, arith, sym, ap, subst, string_bytes}
use Rattle.ir_model.specs.Graph.{names}
use Rattle.ir_core.specs.Setting.{Setting, nodes_of}
use Rattle.ir_core.specs.Drain.{after_visits}
use Rattle.ir_core.proofs.Rounds.{RoundSo, round_none, round_more, round_all}
use Rattle.ir_steps.specs.Parts.{AddsText}
use Rattle.ir_steps.proofs.Adding.{has_then, adds_none, round_adds}
use Rattle.ir_steps.proofs.drain.round.Goals as goal

pub loop-node-init : goal.loop-node-init
loop-node-init c = record {
  so = round_none c.args.world.now;
  adds = adds_none (names c.args.net.now.graph.now) c.args.net.now.topology.now c.args.line c.args.world.now (string_bytes c.args.text.now);
}

pub visit-requires-clause-over : goal.visit-requires-clause-over
visit-requires-clause-over c = c.requires.over ∙ sym (ap (λ (o : Setting). o.topology) c.loop-node.invariant.so.moves.opening)

pub visit-requires-clause-history : goal.visit-requires-clause-history
visit-requires-clause-history c = has_then _ _ c.args.world.now c.loop-node.world c.requires.history c.loop-node.invariant.so.moves

pub visit-requires-clause-node_in : goal.visit-requires-clause-node_in
visit-requires-clause-node_in c =
    let same = ap (λ (o : Setting). nodes_of o) c.loop-node.invariant.so.moves.opening in
    omega (arith, c.nodes-nodes.ensures.count)

pub loop-node-preserved : goal.loop-node-preserved
loop-node-preserved c =
    let s = c.args.world.now in
    let v = c.in_ok-sent.ensures in
    record {
      so = subst (λ (b : Bool). RoundSo s (c.loop-node.node + 1) b c.visit.new.world) (sym c.either-acted.ensures)
          (round_more s c.loop-node.world c.visit.new.world c.loop-node.node c.loop-node.acted c.in_ok-sent.sent c.loop-node.invariant.so v.moves v.quiet);
      adds = round_adds (names c.args.net.now.graph.now) c.args.net.now.topology.now c.args.line s c.loop-node.world c.loop-node.node c.loop-node.acted (string_bytes c.args.text.now) (string_bytes c.loop-node.text) (string_bytes c.visit.new.text)
          c.loop-node.invariant.so.moves c.loop-node.invariant.adds v.lines;
    }

pub returns-clause-moves : goal.returns-clause-moves
returns-clause-moves c =
    (round_all c.args.world.now c.loop-node.world c.loop-node.node c.nodes-nodes.result c.loop-node.acted c.loop-node.invariant.so c.nodes-nodes.ensures.count c.loop-node-test.false c.loop-node.auto.node-end).0

pub returns-clause-quiet : goal.returns-clause-quiet
returns-clause-quiet c =
    (round_all c.args.world.now c.loop-node.world c.loop-node.node c.nodes-nodes.result c.loop-node.acted c.loop-node.invariant.so c.nodes-nodes.ensures.count c.loop-node-test.false c.loop-node.auto.node-end).1

pub returns-clause-lines : goal.returns-clause-lines
returns-clause-lines c =
    let s = c.args.world.now in
    let same : c.loop-node.node ≡ nodes_of s.opening = omega (arith, c.nodes-nodes.ensures.count, c.loop-node-test.false, c.loop-node.auto.node-end) in
    subst (λ j. AddsText (names c.args.net.now.graph.now) c.args.net.now.topology.now c.args.line (after_visits s.opening j) s (string_bytes c.args.text.now) (string_bytes c.loop-node.text)) same c.loop-node.invariant.adds
