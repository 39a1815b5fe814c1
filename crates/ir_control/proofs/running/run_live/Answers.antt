use Rattle.ir_worker.specs.Turns.{MayEnd}
use Rattle.std.proofs.Common.{sym, ◌∙◌}
use Rattle.ir_control.specs.Desks.{desk_of}
use Rattle.ir_control.proofs.Lived.{given, refused, unreported, nodes_back, injector_back, boards_back, stamps_of_net, lived}
use Rattle.ir_control.proofs.running.run_live.Goals as goal

pub reported-requires-clause-nodes : goal.reported-requires-clause-nodes
reported-requires-clause-nodes g c =
    nodes_back g.R.Moments.was_full g.R.Moments.was_empty g.R.Looks.looked (MayEnd g.F.Flag.was_set g.G.Gate.barred c.args.stop.now c.args.gate.now) c.args.net.now c.in-Some.parts.nodes.items (desk_of c.in-Some.parts) c.args.commands.now c.in-Ok-run_nodes.run' (given _ c.in-Ok.given c.in-Some.parts c.in-Some.is c.in-Ok.ensures) c.in-Ok-run_nodes.ensures.run

pub reported-requires-clause-injector : goal.reported-requires-clause-injector
reported-requires-clause-injector g c =
    injector_back g.R.Moments.was_full g.R.Moments.was_empty g.R.Looks.looked (MayEnd g.F.Flag.was_set g.G.Gate.barred c.args.stop.now c.args.gate.now) c.args.net.now c.in-Some.parts.nodes.items (desk_of c.in-Some.parts) c.args.commands.now c.in-Ok-run_nodes.run' (given _ c.in-Ok.given c.in-Some.parts c.in-Some.is c.in-Ok.ensures) c.in-Ok-run_nodes.ensures.run

pub reported-requires-clause-boards : goal.reported-requires-clause-boards
reported-requires-clause-boards g c =
    boards_back g.R.Moments.was_full g.R.Moments.was_empty g.R.Looks.looked (MayEnd g.F.Flag.was_set g.G.Gate.barred c.args.stop.now c.args.gate.now) c.args.net.now c.in-Some.parts.nodes.items (desk_of c.in-Some.parts) c.args.commands.now c.in-Ok-run_nodes.run' (given _ c.in-Ok.given c.in-Some.parts c.in-Some.is c.in-Ok.ensures) c.in-Ok-run_nodes.ensures.run

pub reported-requires-clause-registry : goal.reported-requires-clause-registry
reported-requires-clause-registry g c =
    stamps_of_net g.R.Moments.was_full g.R.Moments.was_empty g.R.Looks.looked (MayEnd g.F.Flag.was_set g.G.Gate.barred c.args.stop.now c.args.gate.now) c.args.net.now c.in-Some.parts.nodes.items (desk_of c.in-Some.parts) c.args.commands.now c.in-Ok-run_nodes.run' (given _ c.in-Ok.given c.in-Some.parts c.in-Some.is c.in-Ok.ensures) c.in-Ok-run_nodes.ensures.run

pub returns-in-Ok-run_nodes-clause-live : goal.returns-in-Ok-run_nodes-clause-live
returns-in-Ok-run_nodes-clause-live g c =
    lived g.R.Moments.was_full g.R.Moments.was_empty g.R.Looks.looked (MayEnd g.F.Flag.was_set g.G.Gate.barred c.args.stop.now c.args.gate.now) c.args.net.now c.in-Some.parts.nodes.items (desk_of c.in-Some.parts) c.args.commands.now c.in-Ok-run_nodes.run' (given _ c.in-Ok.given c.in-Some.parts c.in-Some.is c.in-Ok.ensures) c.in-Ok-run_nodes.ensures.run
    (g.S.Starter.came_back c.args.starter.now) (g.S.Starter.was_closed c.args.starter.now) c.in-Ok-run_nodes.ensures.closed c.reported.result c.reported.ensures.report c.reported.ensures.read c.reported.ensures.first c.reported.ensures.later c.reported.ensures.refusals c.reported.ensures.served c.reported.ensures.shown

pub returns-in-Ok-run_nodes-clause-refused : goal.returns-in-Ok-run_nodes-clause-refused
returns-in-Ok-run_nodes-clause-refused g c = unreported (g.S.Starter.unstarted c.args.starter.now) c.args.net.now c.reported.result c.reported.ensures.refused

pub returns-in-Err-clause-refused : goal.returns-in-Err-clause-refused
returns-in-Err-clause-refused g c =
    let fresh = given _ c.in-Ok.given c.in-Some.parts c.in-Some.is c.in-Ok.ensures in
    refused (g.S.Starter.unstarted c.args.starter.now) c.args.net.now _ c.in-Some.parts.nodes.items c.in-Err.why fresh.nodes_are c.in-Err.ensures.stopped

pub run_nodes-requires : goal.run_nodes-requires
run_nodes-requires g c =
    let fresh = given _ c.in-Ok.given c.in-Some.parts c.in-Some.is c.in-Ok.ensures in
    let opening = fresh.controller_opening ∙ sym fresh.injector_of.opening in
    λ k. (c.type_bounds.sync-R, (c.type_bounds.sync-G, (c.type_bounds.sync-F, opening)))
