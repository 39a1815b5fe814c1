use Rattle.std.proofs.Common.{arith, ap, sym, ◌∙◌}
use Rattle.ir_core.specs.Inside.{world_of}
use Rattle.ir_core.specs.declared.board.Board.{Board}
use Rattle.ir_core.proofs.Refusals.{none_there, floor_free}
use Rattle.ir_core.proofs.Keeps.{keep_change, newest_known}
use Rattle.ir_core.proofs.world.World.retire.Goals as goal

pub invariant_of-self-2 : goal.invariant_of-self-2
invariant_of-self-2 c =
    let n = newest_known _ _ c.self.view_is c.newest-newest.result c.newest-newest.ensures.value in
    let version = ap (λ (b : Board). b.version) n in
    let current = ap (λ (b : Board). b.current) n in
    let free = floor_free c.newest-newest.result c.args.floor (sym c.retire_refusal.ensures ∙ none_there c.retire_refusal.result c.in_default.not-Some) in
    record {
      world = rw (c.in-Ok.ensures.kept, c.retired_below.ensures) (keep_change (world_of c.self.inside) c.self.invariant.world _ (omega (arith, version)) (omega (arith, version, free.1)) current free.0);
      room = c.self.invariant.room;
    }
