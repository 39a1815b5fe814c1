use Rattle.std.specs.Prelude.{Option, IfSome, ◌<◌}
use Rattle.std.proofs.Common.{subst, sym, ◌∙◌}
use Rattle.ir_core.specs.declared.event.Refused.{Refused}
use Rattle.ir_core.specs.Codes.{change_number}
use Rattle.ir_control.proofs.Numbered.{retirement}
use Rattle.ir_control.proofs.controller.Controller.retire.Goals as goal

pub returns-in-Some-clause-number : goal.returns-in-Some-clause-number
returns-in-Some-clause-number g c =
    subst (λ (x : Option Refused). IfSome x (λ e. 0 < change_number e)) (sym c.retire_refusal.ensures ∙ c.in-Some.is) (retirement c.board.result c.args.floor)
