use Rattle.std.proofs.Common.{Bool, sym, subst, refl, ap, ◌∙◌}
use Rattle.std.specs.Prelude.{◌||◌}
use Rattle.ir_core.specs.Drain.{after_visit}
use Rattle.ir_core.specs.Quiet.{Moves}
use Rattle.ir_core.proofs.Rounds.{visit_done}
use Rattle.ir_core.proofs.world.World.visit.Goals as goal

pub try_way-taken-requires-clause-channel : goal.try_way-taken-requires-clause-channel
try_way-taken-requires-clause-channel c = (c.args.node, refl)

pub returns-clause-moves : goal.returns-clause-moves
returns-clause-moves c =
    let same = c.either-2.ensures ∙ ap (λ (b : Bool). b || c.try_ports-came.result) c.either.ensures in
    subst (λ (b : Bool). Moves (after_visit c.args.self.now.opening c.args.node) b c.args.self.now c.try_ports-came.new.self) (sym same)
    (visit_done c.args.self.now c.read_newest.new.self c.try_act-held.new.self c.try_way-taken.new.self c.try_ports-came.new.self c.args.node c.try_act-held.result c.try_way-taken.result c.try_ports-came.result
    c.read_newest.ensures.moves c.try_act-held.ensures.moves c.try_way-taken.ensures.moves c.try_way-taken.ensures.idle c.try_way-taken.ensures.hand c.try_ports-came.ensures.moves c.try_ports-came.ensures.idle).0

pub returns-clause-quiet : goal.returns-clause-quiet
returns-clause-quiet c = λ e.
    let same = c.either-2.ensures ∙ ap (λ (b : Bool). b || c.try_ports-came.result) c.either.ensures in
    ((visit_done c.args.self.now c.read_newest.new.self c.try_act-held.new.self c.try_way-taken.new.self c.try_ports-came.new.self c.args.node c.try_act-held.result c.try_way-taken.result c.try_ports-came.result
    c.read_newest.ensures.moves c.try_act-held.ensures.moves c.try_way-taken.ensures.moves c.try_way-taken.ensures.idle c.try_way-taken.ensures.hand c.try_ports-came.ensures.moves c.try_ports-came.ensures.idle).1 (sym same ∙ e)).1
