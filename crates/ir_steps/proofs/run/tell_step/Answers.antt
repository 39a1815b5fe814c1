use Rattle.std.proofs.Common.{sym, subst, string_bytes}
use Rattle.std.specs.Prelude.{Ok}
use Rattle.ir_model.specs.Graph.{names}
use Rattle.ir_core.specs.declared.event.Reply.TheVariants.{Changed}
use Rattle.ir_core.specs.declared.event.Step.{Step}
use Rattle.ir_steps.specs.Parts.{AddsStep}
use Rattle.ir_steps.proofs.Telling.{step_event, step_drain}
use Rattle.ir_steps.proofs.run.tell_step.Goals as goal

pub returns-in_ok-push_line-in-Event : goal.returns-in_ok-push_line-in-Event
returns-in_ok-push_line-in-Event g c =
    let nodes = names c.args.net.now.graph.now in
    subst (λ (s : Step). AddsStep nodes c.args.line s c.apply_by-reply.result c.args.world.now c.apply_by-reply.new.self (string_bytes c.args.text.now) (string_bytes c.push_line.new.text)) (sym c.in-Event.is)
    (step_event nodes c.args.net.now.topology.now c.args.line c.in-Event.event c.apply_by-reply.result c.args.world.now c.apply_by-reply.new.self (string_bytes c.args.text.now) (string_bytes c.push_line.new.text)
    c.requires.over c.apply_by-reply.ensures.history c.apply_by-reply.ensures.same_opening c.in_ok-push_line-in-Event.ensures)

pub returns-in_ok-drain-in-Drain : goal.returns-in_ok-drain-in-Drain
returns-in_ok-drain-in-Drain g c =
    let nodes = names c.args.net.now.graph.now in
    subst (λ (s : Step). AddsStep nodes c.args.line s (Ok Changed) c.args.world.now c.drain.new.world (string_bytes c.args.text.now) (string_bytes c.drain.new.text)) (sym c.in-Drain.is)
    (step_drain nodes c.args.net.now.topology.now c.args.line c.args.world.now c.drain.new.world (string_bytes c.args.text.now) (string_bytes c.drain.new.text) c.requires.over c.in_ok-drain-in-Drain.ensures)
