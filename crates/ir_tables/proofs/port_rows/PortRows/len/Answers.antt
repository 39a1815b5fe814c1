use Rattle.std.proofs.Common.{length, ap, arith}
use Rattle.ir_tables.proofs.Cuts.{cuts_length}
use Rattle.ir_tables.proofs.port_rows.PortRows.len.Goals as goal

pub returns : goal.returns
returns c =
    let few = cuts_length c.self.inside.begins.items c.self.inside.hops.items c.self.invariant in
    let rows = ap length c.self.view_is in
    omega (arith, few, rows, c.len.ensures, c.self.inside.begins.ok.0)
