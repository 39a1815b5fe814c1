use Rattle.std.proofs.Common.{◌≡◌, ◌∙◌, ℕ, List, None, ap, sym, length, subst, string_bytes}
use Rattle.ir_model.specs.Graph.{names}
use Rattle.ir_model.specs.Topology.{Topology}
use Rattle.ir_model.specs.OfGraph.{topology_of_graph}
use Rattle.ir_core.specs.declared.event.Step.{Step}
use Rattle.ir_core.specs.declared.opening.Opening.{Opening}
use Rattle.ir_core.specs.Opened.{IsOpenedWith, open_refused}
use Rattle.ir_cli.specs.Lines.{steps_text}
use Rattle.ir_cli.specs.Openings.{opening_by}
use Rattle.ir_steps.specs.Told.{IsTold}
use Rattle.ir_answer.specs.Plays.{IsStepsRun, listing_in, refused_text}
use Rattle.ir_answer.proofs.play.steps_asked.Goals as goal

pub tell_run_by-requires-clause-opening : goal.tell_run_by-requires-clause-opening
tell_run_by-requires-clause-opening g c = λ κs le. ap (λ (o : Opening). o.topology) c.in-Ok.ensures

pub tell_run_by-requires-clause-lines : goal.tell_run_by-requires-clause-lines
tell_run_by-requires-clause-lines g c = λ κs le. ap length c.lines-lines.ensures.lines ∙ c.lines-lines.ensures.numbered ∙ sym (ap length c.steps-steps.ensures.steps)

pub returns-in-Ok-told_texts : goal.returns-in-Ok-told_texts
returns-in-Ok-told_texts g c =
    let w = c.args.words.now in
    let asked = c.args.asked.now in
    let graph = asked.graph in
    let script = listing_in asked.script in
    let run = c.in-Ok-tell_run_by.played in
    let world = run.world in
    let replies = run.replies.items in
    let text : List ℕ = string_bytes c.in-Ok-told_texts.text in
    let refused : List ℕ = steps_text c.in-Ok-told_texts.refused.items in
    let opening : Opening = opening_by w (topology_of_graph graph) asked.root in
    let same : c.in-Ok.opening ≡ opening = c.in-Ok.ensures ∙ ap (λ (n : Topology). opening_by w n asked.root) c.requires in
    let steps = subst (λ (ls : List ℕ). IsTold (names graph) world.opening ls c.steps-steps.result.now replies world (string_bytes run.text)) c.lines-lines.ensures.lines c.in-Ok-tell_run_by.ensures.told in
    let whole : IsStepsRun graph w asked.root script text refused = record {
      setting = world.opening;
      replies = replies;
      world = world;
      accepted = subst (λ (o : Opening). open_refused o ≡ None) same c.in-Ok-tell_run_by.ensures.accepted;
      opened = subst (λ (o : Opening). IsOpenedWith o world.opening) same c.in-Ok-tell_run_by.ensures.opened;
      steps = subst (λ (t : List ℕ). IsTold (names graph) world.opening script.lines script.steps replies world t) (sym c.in-Ok-told_texts.ensures.text)
          (subst (λ (s : List Step). IsTold (names graph) world.opening script.lines s replies world (string_bytes run.text)) c.steps-steps.ensures.steps steps);
      in_memory = c.in-Ok-told_texts.ensures.in_memory;
      told = subst (λ (ls : List ℕ). refused ≡ refused_text ls replies) c.lines-lines.ensures.lines c.in-Ok-told_texts.ensures.told;
    } in whole
