use Rattle.std.specs.Prelude.{Option, IfSome, ◌<◌}
use Rattle.std.proofs.Common.{subst, sym}
use Rattle.ir_core.specs.declared.event.Refused.{Refused}
use Rattle.ir_core.specs.Codes.{change_number}
use Rattle.ir_control.proofs.Numbered.{mark}
use Rattle.ir_control.proofs.controller.Controller.mark_refusal.Goals as goal

pub returns-clause-number : goal.returns-clause-number
returns-clause-number g c =
    subst (λ (x : Option Refused). IfSome x (λ e. 0 < change_number e)) (sym c.mark_refusal.ensures) (mark c.links.result c.board.result c.args.link c.args.up)
