use Rattle.std.proofs.Common.{◌≡◌, ◌∙◌, ℕ, List, None, ap, subst, string_bytes}
use Rattle.ir_model.specs.Graph.{names}
use Rattle.ir_model.specs.Topology.{Topology}
use Rattle.ir_model.specs.OfGraph.{topology_of_graph}
use Rattle.ir_core.specs.declared.event.Step.{Step}
use Rattle.ir_core.specs.declared.opening.Opening.{Opening}
use Rattle.ir_core.specs.Opened.{IsOpenedWith, open_refused}
use Rattle.ir_core.specs.Run.{IsPlayed}
use Rattle.ir_cli.specs.Lines.{steps_text}
use Rattle.ir_cli.specs.Openings.{opening_by}
use Rattle.ir_answer.specs.Plays.{IsScriptRun, listing_in, refused_text, run_text}
use Rattle.ir_answer.proofs.play.trace_asked.Goals as goal

pub returns-in-Ok-run_texts : goal.returns-in-Ok-run_texts
returns-in-Ok-run_texts g c =
    let w = c.args.words.now in
    let asked = c.args.asked.now in
    let graph = asked.graph in
    let script = listing_in asked.script in
    let world = c.in-Ok-play_by.played.world in
    let replies = c.in-Ok-play_by.played.replies.items in
    let text : List ℕ = string_bytes c.in-Ok-run_texts.trace in
    let refused : List ℕ = steps_text c.in-Ok-run_texts.refused.items in
    let opening : Opening = opening_by w (topology_of_graph graph) asked.root in
    let same : c.in-Ok.opening ≡ opening = c.in-Ok.ensures ∙ ap (λ (n : Topology). opening_by w n asked.root) c.requires in
    let run : IsScriptRun graph w asked.root script text refused = record {
      setting = world.opening;
      replies = replies;
      world = world;
      accepted = subst (λ (o : Opening). open_refused o ≡ None) same c.in-Ok-play_by.ensures.accepted;
      opened = subst (λ (o : Opening). IsOpenedWith o world.opening) same c.in-Ok-play_by.ensures.opened;
      played = subst (λ (s : List Step). IsPlayed world.opening s replies world) c.steps.ensures.steps c.in-Ok-play_by.ensures.played;
      in_memory = c.in-Ok-run_texts.ensures.in_memory;
      trace = subst (λ (n : Topology). text ≡ run_text w.restamps (names graph) n world.records) c.requires c.in-Ok-run_texts.ensures.trace;
      told = subst (λ (ls : List ℕ). refused ≡ refused_text ls replies) c.lines-lines.ensures.lines c.in-Ok-run_texts.ensures.told;
    } in run
