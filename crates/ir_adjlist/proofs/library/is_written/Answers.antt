use Rattle.std.proofs.Common.{sym}
use Rattle.ir_model.specs.Graph.{names}
use Rattle.ir_adjlist.proofs.Writing.{place_among_first, no_place_among_first}
use Rattle.ir_adjlist.proofs.library.is_written.Goals as goal

pub returns-in-Some : goal.returns-in-Some
returns-in-Some c = sym (place_among_first (names c.args.graph.now) c.args.name.now c.args.count c.in-Some.place c.in-Some.ensures.place)

pub returns-in-None : goal.returns-in-None
returns-in-None c = sym (no_place_among_first (names c.args.graph.now) c.args.name.now c.args.count c.in-None.ensures.place)
