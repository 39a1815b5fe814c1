-- The forwarding tables of a plan's nodes.
use Rattle.std.specs.Prelude.{◌≡◌, ℕ, ◌<◌, Bool, true, false, List, [], length, slice_index_or}
use Rattle.ir_model.specs.Topology.{node_count}
use Rattle.ir_model.specs.Plan.{Plan, by_label}
use Rattle.ir_prefix.specs.Longest.{IsWidth}
use Rattle.ir_prefix.specs.Forwarding.{AreLongestFirst, IsDisjointTable, IsFewestDisjoint, IsFewestLines, IsForwardingTable, IsWellFormed, KeepsMatches, NamesPorts}
use Rattle.ir_prefix.specs.declared.line.TableLine.{TableLine}

-- The lines of the node u whose longest match names u's port to each other label: the fewest that forward so, the
-- longest first, and of one length in the order of their values.
pub record AreNestedLines (plan : Plan) (bits u : ℕ) (table : List TableLine) : Type 0 where
  pub well : IsWellFormed bits table
  pub forwards : IsForwardingTable (node_count plan.topology) bits (by_label plan u) table
  pub fewest : IsFewestLines (node_count plan.topology) bits (by_label plan u) (length table)
  pub ports : NamesPorts (by_label plan u) table
  pub order : AreLongestFirst table
  pub loads : KeepsMatches bits table

-- The lines of the node u of which one alone holds each other label, and has u's port to it: the fewest that do, in the
-- same order.
pub record AreDisjointLines (plan : Plan) (bits u : ℕ) (table : List TableLine) : Type 0 where
  pub well : IsWellFormed bits table
  pub disjoint : IsDisjointTable (node_count plan.topology) bits (by_label plan u) table
  pub fewest : IsFewestDisjoint (node_count plan.topology) bits (by_label plan u) (length table)
  pub ports : NamesPorts (by_label plan u) table
  pub order : AreLongestFirst table

-- the lines of the node u, disjoint or not
abbrev pub AreLinesOf : Bool → Plan → ℕ → ℕ → List TableLine → Type 0
AreLinesOf false plan bits u table = AreNestedLines plan bits u table
AreLinesOf true plan bits u table = AreDisjointLines plan bits u table

-- The lines of each node of a plan, by the least width that tells its labels apart.
pub record AreTablesOf (is_disjoint : Bool) (plan : Plan) (bits : ℕ) (tables : List (List TableLine)) : Type 0 where
  pub width : IsWidth (node_count plan.topology) bits
  pub every : length tables ≡ node_count plan.topology
  pub each : (u : ℕ) → u < node_count plan.topology → AreLinesOf is_disjoint plan bits u (slice_index_or tables u [])
