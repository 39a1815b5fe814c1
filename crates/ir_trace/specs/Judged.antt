-- That the installs of a script leave a check one answer.
use Rattle.std.specs.Prelude.{◌≡◌, ◌≢◌, ℕ, ◌<◌, ◌≤◌, List, length}
use Rattle.ir_model.specs.Topology.{Topology, node_count}
use Rattle.ir_model.specs.Plan.{Plan, table_port}
use Rattle.ir_core.specs.declared.built.Install.{Install}
use Rattle.ir_trace.specs.declared.finding.FindingKind.{FindingKind}
use Rattle.ir_trace.specs.declared.finding.FindingKind.TheVariants.{NoMemory}
use Rattle.ir_trace.specs.Row.{TraceRow}
use Rattle.ir_trace.specs.Checked.{plan_at, AreRowsOver, ArePlansOf, Finds}
use Rattle.ir_trace.specs.Sound.{IsSoundTrace}

-- Two plans route alike: over one network they have the same labels, the same port at each node for each destination, and
-- the same rows.
pub record RoutesAs (p q : Plan) : Type 0 where
  pub topology : p.topology ≡ q.topology
  pub labels : p.labels ≡ q.labels
  pub ports : (u d : ℕ) → u < node_count p.topology → d < node_count p.topology → table_port p u d ≡ table_port q u d
  pub rows : p.rows ≡ q.rows

-- Two lists of plans route alike: they have as many epochs, and the two plans of each epoch route alike.
pub record RouteAlike (plans others : List Plan) : Type 0 where
  pub every : length plans ≡ length others
  pub each : (e : ℕ) → 0 < e → e ≤ length plans → RoutesAs (plan_at plans e) (plan_at others e)

-- nothing is found in the rows, want of memory aside
abbrev pub FindsNothing : Topology → List Install → List TraceRow → Type 0
FindsNothing topology installs rows = (line : ℕ) (kind : FindingKind) → Finds topology installs rows line kind → kind ≡ NoMemory

-- A finding is the only one: the rows are not sound too, and nothing else is found in them, want of memory aside.
pub record IsOnlyFinding (topology : Topology) (installs : List Install) (rows : List TraceRow) (line : ℕ) (kind : FindingKind) : Type 0 where
  pub unsound : IsSoundTrace topology installs rows → ⊥
  pub only : (other : ℕ) (found : FindingKind) → Finds topology installs rows other found → found ≢ NoMemory → (other ≡ line) × (found ≡ kind)

-- ---- laws

-- any two lists of plans that installs may have route alike
abbrev pub PlansRouteAlike : Type 0
PlansRouteAlike = (topology : Topology) (installs : List Install) (plans others : List Plan)
    → ArePlansOf topology installs plans → ArePlansOf topology installs others → RouteAlike plans others

-- nothing is found in sound rows
abbrev pub SoundFindsNothing : Type 0
SoundFindsNothing = (topology : Topology) (installs : List Install) (rows : List TraceRow)
    → AreRowsOver (node_count topology) rows → IsSoundTrace topology installs rows → FindsNothing topology installs rows

-- a finding is the only one, want of memory aside
abbrev pub FindingIsOnly : Type 0
FindingIsOnly = (topology : Topology) (installs : List Install) (rows : List TraceRow) (line : ℕ) (kind : FindingKind)
    → AreRowsOver (node_count topology) rows → Finds topology installs rows line kind → kind ≢ NoMemory
    → IsOnlyFinding topology installs rows line kind
