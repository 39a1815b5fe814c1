use Rattle.std.specs.Prelude.{◌≡◌, List}
use Rattle.std.proofs.Common.{sym, subst, arith}
use Rattle.ir_model.specs.Topology.{node_count}
use Rattle.ir_worker.specs.declared.node.Node.{Node}
use Rattle.ir_control.specs.declared.report.FinishError.{FinishError}
use Rattle.ir_control.specs.Parts.{AreNodesOf, AreFirstNodes}
use Rattle.ir_control.specs.Reports.{IsFinishRefusal}
use Rattle.ir_control.proofs.Returned.{first_apart}
use Rattle.ir_control.proofs.Back.{all_there}
use Rattle.std.specs.Prelude.{All}
use Rattle.ir_worker.specs.declared.parcel.Outcome.{Outcome}
use Rattle.std.proofs.Common.{refl}
use mathlib.Core.List.{IsPrefix}
use Rattle.ir_epochs.specs.Handles.{known, published, reader_board, writer_board}
use Rattle.ir_control.proofs.Agreement.{at_all, first_of_one, later_of_one}
use Rattle.ir_control.proofs.running.reported.Goals as goal

pub finish-requires-clause-nodes : goal.finish-requires-clause-nodes
finish-requires-clause-nodes g c =
    subst (λ (ns : List Node). AreNodesOf c.args.net.now ns) (sym c.in-Ok.ensures.nodes) (first_apart c.args.net.now (node_count c.args.net.now.topology) _ c.requires.nodes)

pub unreachable-requires : goal.unreachable-requires
unreachable-requires g c =
    let net = c.args.net.now in
    let n = node_count net.topology in
    let nodes : List Node = c.in-Ok.nodes.items in
    let first : AreFirstNodes net n nodes = subst (λ (ns : List Node). AreFirstNodes net n ns) (sym c.in-Ok.ensures.nodes) c.requires.nodes in
    let least = subst (λ (e : FinishError). IsFinishRefusal net nodes e) c.in-Err-Missing-default.field-0-0-is c.in-Err-Missing-default.ensures.0 in
    let none = least.missing in
    let some = all_there net n nodes first c.in-Err-Missing-default.field-0-0-0 least.in_range in
    omega (arith, none, some)

pub agree_all-requires : goal.agree_all-requires
agree_all-requires g c =
    let is = c.in-Ok-finish.ensures.0 in
    first_of_one c.args.net.now.opening c.args.run.stamps.items c.requires.registry is.outcomes is.of_net c.in-Ok-finish.report.stamps.items is.stamps

pub agree_rows-requires : goal.agree_rows-requires
agree_rows-requires g c =
    let is = c.in-Ok-finish.ensures.0 in
    later_of_one c.args.net.now.opening c.args.run.stamps.items c.requires.registry is.outcomes is.of_net (λ v. v.items) (λ (o : Outcome). o.later) (λ o. refl) c.in-Ok-finish.report.later.items is.later

pub returns-in-Ok-finish-clause-read : goal.returns-in-Ok-finish-clause-read
returns-in-Ok-finish-clause-read g c =
    subst (λ (ns : List Node). All (λ n. IsPrefix (known n.reader) (published c.args.run.parts.controller.writer)) ns) c.in-Ok.ensures.nodes c.lead_all.ensures.lead

pub returns-in-Ok-finish-clause-shown : goal.returns-in-Ok-finish-clause-shown
returns-in-Ok-finish-clause-shown g c = subst (λ (ns : List Node). All (g.S.Starter.came_back c.args.starter.now) ns) c.in-Ok.ensures.nodes c.in-Ok.ensures.shown
