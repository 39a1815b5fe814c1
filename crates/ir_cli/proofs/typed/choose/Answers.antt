use Rattle.ir_cli.proofs.Given.{is_none_then}
use Rattle.ir_cli.proofs.typed.choose.Goals as goal

pub returns-in_err-number_or : goal.returns-in_err-number_or
returns-in_err-number_or c =
    is_none_then c.from_residual-in_err-number_or.result _ _ c.from_residual-in_err-number_or.ensures (λ all are. c.in_err-number_or.ensures all.capacity are.capacity)

pub returns-in_err-number_or-2 : goal.returns-in_err-number_or-2
returns-in_err-number_or-2 c =
    is_none_then c.from_residual-in_err-number_or-2.result _ _ c.from_residual-in_err-number_or-2.ensures (λ all are. c.in_err-number_or-2.ensures all.packets are.packets)

pub returns-in_err-number_or-3 : goal.returns-in_err-number_or-3
returns-in_err-number_or-3 c =
    is_none_then c.from_residual-in_err-number_or-3.result _ _ c.from_residual-in_err-number_or-3.ensures (λ all are. c.in_err-number_or-3.ensures all.restamps are.restamps)

pub returns-in_err-number_or-4 : goal.returns-in_err-number_or-4
returns-in_err-number_or-4 c =
    is_none_then c.from_residual-in_err-number_or-4.result _ _ c.from_residual-in_err-number_or-4.ensures (λ all are. c.in_err-number_or-4.ensures all.epoch are.epoch)

pub returns-in_err-detour_in : goal.returns-in_err-detour_in
returns-in_err-detour_in c =
    is_none_then c.from_residual-in_err-detour_in.result _ _ c.from_residual-in_err-detour_in.ensures (λ all are. c.in_err-detour_in.ensures all.detour are.detour)
