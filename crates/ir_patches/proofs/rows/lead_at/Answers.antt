use Rattle.std.proofs.Common.{◌<◌, ℕ, length, sym, subst}
use Rattle.ir_model.specs.Plan.{row_in}
use Rattle.ir_model.specs.Topology.{ports_of}
use Rattle.ir_show.proofs.Pieces.{start_read}
use Rattle.ir_show.proofs.PlanLines.{leads}
use Rattle.ir_patches.proofs.rows.lead_at.Goals as goal

pub hop-hop-requires-clause-port : goal.hop-hop-requires-clause-port
hop-hop-requires-clause-port c =
    let s = c.args.plan.now in
    let row = row_in s c.args.u in
    let port = start_read (λ t. t.port) row c.row-row.result.now c.args.place c.port.result c.port.ensures c.row-row.ensures.row c.requires.place in
    subst (λ (q : ℕ). q < length (ports_of s.topology c.args.u)) (sym port) (leads s c.requires.plan c.args.u c.args.place c.requires.node c.requires.place).port
