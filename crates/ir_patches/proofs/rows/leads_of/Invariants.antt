use Rattle.std.proofs.Common.{◌≡◌, map, take}
use Rattle.ir_model.specs.Plan.{row_in}
use Rattle.ir_patches.specs.DiffText.{lead_of}
use Rattle.ir_patches.proofs.rows.leads_of.Given as goal

abbrev pub invariant-loop-place : goal.invariant-loop-place
invariant-loop-place l = l.leads.items ≡ map (lead_of l.numbers l.plan.topology l.u) (take l.place (row_in l.plan l.u))
