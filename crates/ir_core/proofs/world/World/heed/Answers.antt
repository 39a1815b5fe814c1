use Rattle.std.proofs.Common.{arith, ap, sym, ◌∙◌}
use Rattle.ir_core.specs.Inside.{world_of}
use Rattle.ir_core.specs.declared.board.Board.{Board}
use Rattle.ir_core.proofs.Refusals.{none_there, heed_free}
use Rattle.ir_core.proofs.Keeps.{keep_change, newest_known}
use Rattle.ir_core.proofs.world.World.heed.Goals as goal

pub invariant_of-self-2 : goal.invariant_of-self-2
invariant_of-self-2 c =
    let n = newest_known _ _ c.self.view_is c.newest-newest.result c.newest-newest.ensures.value in
    let version = ap (λ (b : Board). b.version) n in
    let current = ap (λ (b : Board). b.current) n in
    let floor = ap (λ (b : Board). b.floor) n in
    let epochs = c.self.invariant.world.boards.current in
    let live = c.self.invariant.world.boards.floor in
    let free = heed_free c.links.result c.newest-newest.result c.args.link c.args.heed (sym c.heed_refusal.ensures ∙ none_there c.heed_refusal.result c.in_default.not-Some) in
    record {
      world = rw (c.in-Ok.ensures.kept, c.heeding.ensures)
          (keep_change (world_of c.self.inside) c.self.invariant.world _ (omega (arith, version)) (omega (arith, version, free.1)) current (omega (arith, current, floor, epochs, live)));
      room = c.self.invariant.room;
    }
