-- What a report says of the parts of a net.
use Rattle.std.specs.Prelude.{◌≡◌, ℕ, ◌+◌, ◌<◌, ◌≤◌, List, [], All, None, length, map, sum_by, slice_index_or, vec_capacity}
use Rattle.ir_core.specs.declared.packet.Fate.TheVariants.{Left}
use Rattle.ir_model.specs.Topology.{node_count}
use Rattle.ir_worker.specs.declared.node.Node.{Node}
use Rattle.ir_worker.specs.declared.parcel.Outcome.{Outcome}
use Rattle.ir_worker.specs.Account.{head_of}
use Rattle.ir_worker.specs.Seen.{Parcel, IsSoundByStamps, stamps_of}
use Rattle.ir_control.specs.declared.report.FinishError.{FinishError}
use Rattle.ir_control.specs.declared.report.FinishError.TheVariants.{Missing, NoMemory}
use Rattle.ir_control.specs.declared.report.Report.{Report}
use Rattle.ir_control.specs.declared.report.Room.{Room}
use Rattle.ir_control.specs.declared.injector.Injector.{Injector}
use Rattle.ir_control.specs.declared.net.Net.{Net}
use Rattle.ir_control.specs.Heads.{head_at}
use Rattle.ir_control.specs.Parts.{node_number}
use Rattle.ir_control.specs.Reported.{AreEmptyPartRows, AreAllThere}
use Rattle.ir_control.specs.Rowed.{node_settled, node_taken, node_sent}
use Rattle.ir_control.specs.Slots.{hit}
use Rattle.ir_control.specs.Told.{Told, outcome_told, told_left, IsOutcomeIn}

-- an empty report, which has room for so many packets
pub record IsEmptyReport (m : ℕ) (report : Report) : Type 0 where
  pub records : (report.records.items ≡ []) × (m ≤ vec_capacity report.records)
  pub stamps : (report.stamps.items ≡ []) × (m ≤ vec_capacity report.stamps)
  pub later : (report.later.items ≡ []) × (m ≤ vec_capacity report.later)

-- room for a report of so many packets
pub record HasReportRoom (n ways m : ℕ) (room : Room) : Type 0 where
  pub rows : AreEmptyPartRows n ways room.rows
  pub channels : (room.channels.items ≡ []) × (n + ways ≤ vec_capacity room.channels)
  pub slots_count : length room.slots.items ≡ m
  pub slots_empty : (k : ℕ) → slice_index_or room.slots.items k None ≡ None
  pub report : IsEmptyReport m room.report

-- A record is of its first stamp's epoch and sound by its stamps.
abbrev pub IsSoundOutcome : Outcome → Type 0
IsSoundOutcome o = (o.packet.epoch ≡ o.stamp.epoch) × ∥ IsSoundByStamps (stamps_of o.stamp o.later.items) o.packet ∥₁

-- The report has these outcomes: their heads are those of the accepted packets, in order. Each is sound by its stamps,
-- which are of the net, and has no more restamps than the net allows. They are what the nodes settled and what is left,
-- each as often. What is left is what was sent and not taken, and has the fate Left.
pub record IsReport (net : Net) (nodes : List Node) (injector : Injector) (report : Report) : Type 0 where
  pub outcomes : List Outcome
  pub records : report.records.items ≡ map (λ o. o.packet) outcomes
  pub stamps : report.stamps.items ≡ map (λ o. o.stamp) outcomes
  pub later : report.later.items ≡ map (λ o. o.later) outcomes
  pub heads : map (λ o. head_of o.packet) outcomes ≡ map head_at injector.accepted.items
  pub sound : All IsSoundOutcome outcomes
  pub of_net : All (IsOutcomeIn net.opening) outcomes
  pub few : All (λ o. length o.packet.restamps ≤ net.restamps) outcomes
  pub left : List Parcel
  pub left_is : (w : Parcel → ℕ) → sum_by (λ s. sum_by w s.sent) injector.outs.items + sum_by (node_sent w) nodes ≡ sum_by (node_taken w) nodes + sum_by w left
  pub fates : All (λ x. x.packet.fate ≡ Left) left
  pub told_are : (w : Told → ℕ) → sum_by (λ o. w (outcome_told o)) outcomes ≡ sum_by (node_settled (λ o. w (outcome_told o))) nodes + sum_by (λ x. w (told_left x)) left

-- each node below this number is there
abbrev pub AreThereBelow : ℕ → List Node → Type 0
AreThereBelow n nodes = (u : ℕ) → u < n → 0 < sum_by (hit node_number u) nodes

-- a report of all nodes of a net, none of which is missing
abbrev pub IsWholeReport : Net → List Node → Injector → Report → Type 0
IsWholeReport net nodes injector report = IsReport net nodes injector report × AreAllThere net nodes

-- two reports have the same records, in the same order
abbrev pub HaveSameRecords : Report → Report → Type 0
HaveSameRecords report other = report.records.items ≡ other.records.items

-- the least node that is not among the parts
pub record IsLeastMissing (net : Net) (nodes : List Node) (v : ℕ) : Type 0 where
  pub in_range : v < node_count net.topology
  pub missing : sum_by (hit node_number v) nodes ≡ 0
  pub earlier : (u : ℕ) → u < v → 0 < sum_by (hit node_number u) nodes

abbrev pub finish_code : FinishError → ℕ
finish_code (Missing v) = 1
finish_code NoMemory = 2

-- the least node that is missing; or none is, and a growth was refused
abbrev pub IsFinishRefusal : Net → List Node → FinishError → Type 0
IsFinishRefusal net nodes (Missing v) = IsLeastMissing net nodes v
IsFinishRefusal net nodes NoMemory = AreAllThere net nodes
