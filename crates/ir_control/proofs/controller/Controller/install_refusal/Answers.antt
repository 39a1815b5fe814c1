use Rattle.std.specs.Prelude.{Option, IfSome, ◌<◌}
use Rattle.std.proofs.Common.{subst, sym}
use Rattle.ir_core.specs.declared.event.Refused.{Refused}
use Rattle.ir_core.specs.Codes.{install_number}
use Rattle.ir_control.proofs.Numbered.{install}
use Rattle.ir_control.proofs.controller.Controller.install_refusal.Goals as goal

pub returns-clause-number : goal.returns-clause-number
returns-clause-number g c =
    subst (λ (x : Option Refused). IfSome x (λ e. 0 < install_number e)) (sym c.install_refusal.ensures) (install c.nodes.result c.args.self.now.used c.board.result c.args.root)
