use Rattle.std.proofs.Common.{◌≡◌, ℕ, ◌+◌, ◌*◌, Option, None, ap, slice_index_or}
use Rattle.ir_model.specs.Topology.{node_count}
use Rattle.ir_tables.specs.Listed.{listed_port}
use Rattle.ir_tables.proofs.Columns.{read_next}
use Rattle.ir_tables.proofs.table.listed_column.Goals as goal

pub loop-u-preserved : goal.loop-u-preserved
loop-u-preserved c =
    let ports = c.args.ports.now in
    let held : ℕ → Option ℕ = λ v. listed_port (node_count c.args.topology.now) ports v c.args.d in
    let own : slice_index_or ports (c.loop-u.u * c.nodes-nodes.result + c.args.d) None ≡ held c.loop-u.u =
    ap (λ (n : ℕ). slice_index_or ports (c.loop-u.u * n + c.args.d) None) c.nodes-nodes.ensures.count in
    let more = read_next held c.loop-u.u c.loop-u.held.items c.push.new.self.items (slice_index_or ports (c.loop-u.u * c.nodes-nodes.result + c.args.d) None)
    c.loop-u.invariant.len c.loop-u.invariant.entries c.in_ok-push.ensures.items own in
    record { len = more.0; entries = more.1 }
