-- Two plans as the program holds them, and what it has made of a node.
use Rattle.std.specs.Prelude.{◌≡◌, ℕ, ◌≤◌, ◌+◌, length}
use Rattle.ir_model.specs.Graph.{names}
use Rattle.ir_model.specs.Topology.{node_count}
use Rattle.ir_model.specs.Plan.{IsPlan}
use Rattle.ir_patches.specs.declared.rows.NodeChanges as held
use Rattle.ir_patches.specs.declared.rows.TwoSides.{TwoSides}
use Rattle.ir_patches.specs.declared.counts.Counts.{Counts}
use Rattle.ir_patches.specs.Nodes.{numbers_in}
use Rattle.ir_patches.specs.DiffText.{NodeChanges, TwoPlans, as_count, is_changed, is_relabelled}

-- each plan is one over its graph's network, and the numbers are those that the old network has for the nodes of each
pub record AreSides (sides : TwoSides) : Type 0 where
  pub old : IsPlan sides.old.now
  pub new : IsPlan sides.new.now
  pub old_nodes : node_count sides.old.now.topology ≡ length sides.old_graph.now
  pub new_nodes : node_count sides.new.now.topology ≡ length sides.new_graph.now
  pub old_numbers : sides.old_numbers.items ≡ numbers_in (names sides.old_graph.now) (names sides.old_graph.now)
  pub new_numbers : sides.new_numbers.items ≡ numbers_in (names sides.old_graph.now) (names sides.new_graph.now)

-- the plans that they are
abbrev pub plans_of : TwoSides → TwoPlans
plans_of sides = record { old_nodes = names sides.old_graph.now; old = sides.old.now; new_nodes = names sides.new_graph.now; new = sides.new.now }

-- what a value of the program says that a node changes
abbrev pub changes_held : held.NodeChanges → NodeChanges
changes_held c = record { was = c.was; label = c.label; removed = c.row.removed.items; put = c.row.put.items }

-- with one node more
abbrev pub counts_with : Counts → NodeChanges → Counts
counts_with counts c = record {
  changed = counts.changed + as_count (is_changed c);
  relabelled = counts.relabelled + as_count (is_relabelled c);
  removed = counts.removed + length c.removed;
  put = counts.put + length c.put;
}

-- the counts are each at most this number
pub record AreAtMost (counts : Counts) (most : ℕ) : Type 0 where
  pub changed : counts.changed ≤ most
  pub relabelled : counts.relabelled ≤ most
  pub removed : counts.removed ≤ most
  pub put : counts.put ≤ most
