use Rattle.std.specs.Prelude.{◌≡◌, ◌∷◌, List, take}
use Rattle.ir_control.specs.Answers.{CommandAnswer, refusals_from}
use Rattle.ir_control.specs.Planned.{stamps_in}
use Rattle.ir_control.specs.Carried.{AreCarriedOut}
use Rattle.ir_control.specs.Desks.{desk_of}
use Rattle.ir_control.proofs.carrying.carry_out_all.Given as goal

abbrev pub invariant-loop-place : goal.invariant-loop-place
invariant-loop-place g l =
    (answers : List CommandAnswer) × AreCarriedOut g.R.Moments.was_full (take l.place l.commands) (desk_of l.fn.parts) answers (desk_of l.parts) × (l.refusals.items ≡ refusals_from 0 answers) × (l.stamps.items ≡ l.net.opening ∷ stamps_in answers) × (l.parts.controller.opening ≡ l.parts.injector.opening)
