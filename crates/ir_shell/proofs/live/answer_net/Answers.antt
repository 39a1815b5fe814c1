use Rattle.std.proofs.Common.{◌≡◌, ◌≢◌, ◌∙◌, ◌≤◌, ℕ, List, inr, refl, sym, ap, subst}
use Rattle.std.specs.Borrow.{Bor}
use Rattle.ir_model.specs.Graph.{names}
use Rattle.ir_model.specs.Topology.{Topology, node_count}
use Rattle.ir_model.specs.OfGraph.{topology_of_graph}
use Rattle.ir_cli.specs.Openings.{opening_by}
use Rattle.ir_core.specs.declared.TheConstants.{MAX_NODES}
use Rattle.ir_epochs.specs.Stamps.{knows}
use Rattle.ir_control.specs.Lives.{IsLive, IsRefusal}
use Rattle.ir_control.specs.declared.live.LiveError.{LiveError}
use Rattle.ir_core.specs.declared.event.OpenError.TheVariants.{TooManyReaders, NoMemory}
use Rattle.ir_cli.specs.Answer.{Refused}
use Rattle.ir_cli.specs.Lines.{opening_line}
use Rattle.ir_shell.specs.Lives.{refusals_text, ends_unbarred, AnswersLive}
use Rattle.ir_answer.specs.Plays.{run_text, listing_in}
use Rattle.ir_answer.proofs.Answering.{stops_more}
use Rattle.ir_shell.proofs.Lived.{live_records, few_nodes}
use Rattle.ir_shell.proofs.live.answer_net.Goals as goal

pub live_texts-requires-clause-records : goal.live_texts-requires-clause-records
live_texts-requires-clause-records g c =
    let over : (knows c.args.net.now.opening).topology ≡ c.args.asked.now.topology = c.requires.opened.opened.first.over ∙ sym c.requires.over in
    let w = c.args.words.now in
    let few : node_count c.args.asked.now.topology ≤ MAX_NODES = subst (λ (n : Topology). node_count n ≤ MAX_NODES) (sym c.requires.over) (few_nodes (opening_by w (topology_of_graph c.args.asked.now.graph) c.args.asked.now.root) c.requires.opened.accepted) in
    live_records g.T.Moments.was_full g.T.Moments.was_empty g.T.Looks.looked (ends_unbarred (g.T.Starter.was_stopped c.args.rt.now)) (g.T.Starter.came_back c.args.rt.now) (g.T.Starter.was_closed c.args.rt.now) c.args.net.now c.steps.result.now c.in-Ok.live c.in-Ok.ensures.live c.args.asked.now.topology c.invariant.ensures.topology few over

pub returns-in_ok-trace-in-Ok : goal.returns-in_ok-trace-in-Ok
returns-in_ok-trace-in-Ok g c =
    let w = c.args.words.now in
    let records = c.in-Ok.live.report.records.items in
    record {
      net = c.args.net.now;
      live = c.in-Ok.live;
      opened = c.requires.opened;
      ran = subst (λ commands. IsLive _ g.T.Moments.was_full g.T.Moments.was_empty g.T.Looks.looked (ends_unbarred (g.T.Starter.was_stopped c.args.rt.now)) (g.T.Starter.came_back c.args.rt.now) (g.T.Starter.was_closed c.args.rt.now) c.args.net.now commands c.in-Ok.live) c.steps.ensures.steps c.in-Ok.ensures.live;
      in_memory = c.in_ok-trace-in-Ok.ensures.in_memory;
      trace = c.in_ok-trace-in-Ok.ensures.trace ∙ ap (λ (n : Topology). run_text w.restamps (names c.args.asked.now.graph) n records) c.requires.over;
      told = c.in_ok-trace-in-Ok.ensures.told ∙ ap (λ lines. refusals_text lines c.in-Ok.live.refusals.items) c.lines.ensures.lines;
    }

pub returns-in-Err-TooManyReaders : goal.returns-in-Err-TooManyReaders
returns-in-Err-TooManyReaders g c =
    let asked = c.args.asked.now in
    stops_more (λ (line : List ℕ). (TooManyReaders ≢ NoMemory) × (line ≡ opening_line TooManyReaders))
    (λ (line : List ℕ). AnswersLive g.T.Moments g.T.Looks g.T.Starter c.args.rt.now asked.graph c.args.words.now (listing_in asked.script) asked.root (Refused line))
    (λ line holds. (TooManyReaders, holds.0, inr (refl, c.args.net.now, c.requires.opened), holds.1)) c.opening_stop.result c.opening_stop.ensures

pub returns-in-Err-NoThread : goal.returns-in-Err-NoThread
returns-in-Err-NoThread g c = (
  c.args.net.now,
  c.requires.opened,
  subst (λ (e : LiveError). IsRefusal (g.T.Starter.unstarted c.args.rt.now) c.args.net.now e) c.in-Err-NoThread.field-0-is c.in-Err-NoThread.ensures.refused,
)

pub returns-in-Err-Spent : goal.returns-in-Err-Spent
returns-in-Err-Spent g c = tt
