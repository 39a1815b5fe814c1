use Rattle.std.specs.Prelude.{Option, IfSome, ◌<◌}
use Rattle.std.proofs.Common.{subst, sym}
use Rattle.ir_core.specs.declared.event.Refused.{Refused}
use Rattle.ir_core.specs.Codes.{change_number}
use Rattle.ir_control.proofs.Numbered.{heed}
use Rattle.ir_control.proofs.controller.Controller.heed_refusal.Goals as goal

pub returns-clause-number : goal.returns-clause-number
returns-clause-number g c =
    subst (λ (x : Option Refused). IfSome x (λ e. 0 < change_number e)) (sym c.heed_refusal.ensures) (heed c.links.result c.board.result c.args.link c.args.heed)
