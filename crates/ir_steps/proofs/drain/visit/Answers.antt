use Rattle.std.proofs.Common.{◌∙◌, ◌<◌, Bool, refl, sym, ap, subst, string_bytes}
use Rattle.std.specs.Prelude.{◌||◌}
use Rattle.ir_model.specs.Graph.{names}
use Rattle.ir_core.specs.Setting.{Setting, nodes_of}
use Rattle.ir_core.specs.Drain.{after_visit}
use Rattle.ir_core.specs.Quiet.{Moves}
use Rattle.ir_core.proofs.Rounds.{visit_done}
use Rattle.ir_steps.proofs.Adding.{has_then, visit_adds}
use Rattle.ir_steps.proofs.drain.visit.Goals as goal

pub try_act-requires-clause-history : goal.try_act-requires-clause-history
try_act-requires-clause-history c = has_then _ _ c.args.world.now c.read_newest.new.world c.requires.history c.in_ok-read_newest.ensures.moves

pub try_act-requires-clause-node_in : goal.try_act-requires-clause-node_in
try_act-requires-clause-node_in c = subst (λ (o : Setting). c.args.node < nodes_of o) (sym c.in_ok-read_newest.ensures.moves.opening) c.requires.node_in

pub try_way-requires-clause-history : goal.try_way-requires-clause-history
try_way-requires-clause-history c =
    has_then _ _ c.read_newest.new.world c.try_act.new.world (has_then _ _ c.args.world.now c.read_newest.new.world c.requires.history c.in_ok-read_newest.ensures.moves) c.in_ok-held.ensures.moves

pub try_way-requires-clause-node_in : goal.try_way-requires-clause-node_in
try_way-requires-clause-node_in c =
    subst (λ (o : Setting). c.args.node < nodes_of o) (sym (c.in_ok-held.ensures.moves.opening ∙ c.in_ok-read_newest.ensures.moves.opening)) c.requires.node_in

pub try_way-requires-clause-channel : goal.try_way-requires-clause-channel
try_way-requires-clause-channel c = (c.args.node, refl)

pub try_ports-requires-clause-over : goal.try_ports-requires-clause-over
try_ports-requires-clause-over c =
    c.requires.over ∙ sym (ap (λ (o : Setting). o.topology) (c.in_ok-taken.ensures.moves.opening ∙ c.in_ok-held.ensures.moves.opening ∙ c.in_ok-read_newest.ensures.moves.opening))

pub try_ports-requires-clause-history : goal.try_ports-requires-clause-history
try_ports-requires-clause-history c =
    has_then _ _ c.try_act.new.world c.try_way.new.world
    (has_then _ _ c.read_newest.new.world c.try_act.new.world (has_then _ _ c.args.world.now c.read_newest.new.world c.requires.history c.in_ok-read_newest.ensures.moves) c.in_ok-held.ensures.moves)
    c.in_ok-taken.ensures.moves

pub try_ports-requires-clause-node_in : goal.try_ports-requires-clause-node_in
try_ports-requires-clause-node_in c =
    subst (λ (o : Setting). c.args.node < nodes_of o) (sym (c.in_ok-taken.ensures.moves.opening ∙ c.in_ok-held.ensures.moves.opening ∙ c.in_ok-read_newest.ensures.moves.opening)) c.requires.node_in

pub returns-clause-moves : goal.returns-clause-moves
returns-clause-moves c =
    let same = c.either-2.ensures ∙ ap (λ (b : Bool). b || c.in_ok-came.came) c.either.ensures in
    subst (λ (b : Bool). Moves (after_visit c.args.world.now.opening c.args.node) b c.args.world.now c.try_ports.new.world) (sym same)
    (visit_done c.args.world.now c.read_newest.new.world c.try_act.new.world c.try_way.new.world c.try_ports.new.world c.args.node c.in_ok-held.held c.in_ok-taken.taken c.in_ok-came.came
    c.in_ok-read_newest.ensures.moves c.in_ok-held.ensures.moves c.in_ok-taken.ensures.moves c.in_ok-taken.ensures.idle c.in_ok-taken.ensures.hand c.in_ok-came.ensures.moves c.in_ok-came.ensures.idle).0

pub returns-clause-quiet : goal.returns-clause-quiet
returns-clause-quiet c = λ e.
    let same = c.either-2.ensures ∙ ap (λ (b : Bool). b || c.in_ok-came.came) c.either.ensures in
    ((visit_done c.args.world.now c.read_newest.new.world c.try_act.new.world c.try_way.new.world c.try_ports.new.world c.args.node c.in_ok-held.held c.in_ok-taken.taken c.in_ok-came.came
    c.in_ok-read_newest.ensures.moves c.in_ok-held.ensures.moves c.in_ok-taken.ensures.moves c.in_ok-taken.ensures.idle c.in_ok-taken.ensures.hand c.in_ok-came.ensures.moves c.in_ok-came.ensures.idle).1 (sym same ∙ e)).1

pub returns-clause-lines : goal.returns-clause-lines
returns-clause-lines c =
    visit_adds (names c.args.net.now.graph.now) c.args.net.now.topology.now c.args.line c.args.world.now c.read_newest.new.world c.try_act.new.world c.try_way.new.world c.args.node c.in_ok-held.held c.in_ok-taken.taken
    (string_bytes c.args.text.now) (string_bytes c.read_newest.new.text) (string_bytes c.try_act.new.text) (string_bytes c.try_way.new.text) (string_bytes c.try_ports.new.text)
    c.in_ok-read_newest.ensures.moves c.in_ok-held.ensures.moves c.in_ok-taken.ensures.moves c.in_ok-read_newest.ensures.lines c.in_ok-held.ensures.lines c.in_ok-taken.ensures.lines c.in_ok-came.ensures.lines
