use Rattle.ir_cli.proofs.Given.{is_none_then}
use Rattle.ir_cli.proofs.typed.detour_in.Goals as goal

pub returns-in_err-landmarks : goal.returns-in_err-landmarks
returns-in_err-landmarks c =
    is_none_then c.from_residual.result _ _ c.from_residual.ensures (λ detour is. c.in_err-landmarks.ensures detour.landmarks is.landmarks)

pub returns-in_err-stretch : goal.returns-in_err-stretch
returns-in_err-stretch c =
    is_none_then c.from_residual-in_err-stretch.result _ _ c.from_residual-in_err-stretch.ensures (λ detour is. c.in_err-stretch.ensures detour.stretch is.stretch)
