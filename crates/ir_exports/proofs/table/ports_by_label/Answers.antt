use Rattle.std.proofs.Common.{◌<◌, ◌∙◌, sym, subst, arith}
use Rattle.std.proofs.lemmas.List.{take_all}
use Rattle.ir_model.specs.Compiled.{Fits}
use Rattle.ir_model.specs.Topology.{node_count}
use Rattle.ir_model.specs.Row.{intervals_of}
use Rattle.ir_model.specs.Plan.{by_label, label_in}
use Rattle.ir_plan.proofs.Standing.{row_destinations}
use Rattle.ir_exports.proofs.NodeTables.{ports_more}
use Rattle.ir_exports.proofs.RangeTexts.{ports_many}
use Rattle.ir_exports.proofs.RowStarts.{filled, port_is}
use Rattle.ir_exports.proofs.table.ports_by_label.Goals as goal

pub port_behind-requires-clause-some : goal.port_behind-requires-clause-some
port_behind-requires-clause-some c other =
    let s = c.args.plan.now in
    filled (node_count s.topology) c.label_of-own.result (by_label s c.args.u) c.row-row.result.now
    (subst (λ own. Fits (node_count s.topology) own (by_label s c.args.u) (intervals_of c.row-row.result.now)) (sym c.label_of-own.ensures) c.row-row.ensures.fits)
    c.loop-label.label (omega arith) other

pub loop-label-preserved : goal.loop-label-preserved
loop-label-preserved c =
    let s = c.args.plan.now in
    let is = c.nodes-label-end.ensures.plan in
    let inside : c.loop-label.label < node_count s.topology = omega arith in
    let port = port_is (node_count s.topology) (label_in s c.args.u) (by_label s c.args.u) c.row-row.result.now (row_destinations s is c.args.u c.requires) c.row-row.ensures.fits c.loop-label.label c.port_behind.result inside
    (λ e. c.port_behind.ensures.own (e ∙ sym c.label_of-own.ensures)) (λ ne. c.port_behind.ensures.port (λ e. ne (e ∙ c.label_of-own.ensures))) (λ ne. c.port_behind.ensures.some (λ e. ne (e ∙ c.label_of-own.ensures))) in
    record {
      ports = ports_more s is c.args.u c.loop-label.label c.port_behind.result c.loop-label.ports.items c.push.new.self.items inside c.loop-label.invariant.ports port c.in_ok-push.ensures.items;
      below = c.starts_to-below.ensures;
    }

pub returns : goal.returns
returns c =
    let s = c.args.plan.now in
    let long = ports_many s c.nodes.ensures.plan c.args.u in
    c.loop-label.invariant.ports ∙ take_all c.loop-label.label (by_label s c.args.u) (omega (arith, c.loop-label-test.false, c.nodes-label-end.ensures.count, long))
