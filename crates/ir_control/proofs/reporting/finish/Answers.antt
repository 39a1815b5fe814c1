use Rattle.std.specs.Prelude.{◌≡◌, ◌<◌, ℕ, List, sum_by}
use Rattle.std.proofs.Common.{arith}
use Rattle.ir_model.specs.Topology.{node_count}
use Rattle.ir_worker.specs.declared.node.Node.{Node}
use Rattle.ir_control.specs.Parts.{node_number}
use Rattle.ir_control.specs.Slots.{hit}
use Rattle.ir_control.proofs.reporting.finish.Goals as goal

-- none was missing among so many
all_there : (nodes : List Node) (count n : ℕ) → count ≡ n → ((u : ℕ) → u < count → 0 < sum_by (hit node_number u) nodes) → (u : ℕ) → u < n → 0 < sum_by (hit node_number u) nodes
all_there nodes count n is all u lt = all u (omega (arith, is, lt))

pub reported-requires-clause-all : goal.reported-requires-clause-all
reported-requires-clause-all g c =
    let n = c.args.net.now.inboxes_are.count in
    let e = c.len-count.ensures in
    all_there c.args.parts.nodes.items c.len-count.result (node_count c.args.net.now.topology) (omega (arith, n, e)) (rw c.in_default.is at c.missing.ensures)

pub returns : goal.returns
returns g c =
    let n = c.args.net.now.inboxes_are.count in
    let e = c.len-count.ensures in
    (c.reported.ensures, all_there c.args.parts.nodes.items c.len-count.result (node_count c.args.net.now.topology) (omega (arith, n, e)) (rw c.in_default.is at c.missing.ensures))
