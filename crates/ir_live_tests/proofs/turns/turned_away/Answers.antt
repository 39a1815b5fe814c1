use Rattle.ir_live_tests.proofs.Kept.{away_same}
use Rattle.ir_live_tests.proofs.turns.turned_away.Goals as goal

pub bring_back-requires : goal.bring_back-requires
bring_back-requires g c =
    away_same c.take_away.new.self.net c.take_away.new.self.parts c.in_ok-node.node c.turned_there-node.result.0 c.in_ok-node.ensures.away c.turned_there-node.ensures
