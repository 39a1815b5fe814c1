use Rattle.std.proofs.Common.{◌≡◌, ◌≤◌, ◌<◌, ◌^◌, ℕ, List, length, sym, subst, slice_index, arith}
use Rattle.ir_model.specs.Topology.{Topology, node_count, ports_of, IsTopology}
use Rattle.ir_lanes.specs.Lanes.{AreNear, in_lane}
use Rattle.ir_lanes.specs.Equation.{AreMet, IsSourceStart}
use Rattle.ir_lanes.specs.Outward.{AreOutwardLanes}
use Rattle.ir_lanes.proofs.Solved.{lanes_solved}
use Rattle.ir_lanes.proofs.outward.OutwardLanes.from.Goals as goal

-- what the calls give
solved_here : (net : Topology) → IsTopology net → (given sources keys starts read : List ℕ) (bits unit degree : ℕ) → bits ≤ 15 → unit ≡ 2 ^ bits → sources ≡ given → read ≡ starts
    → length given ≡ 16 → ((k : ℕ) → k < 16 → slice_index given k < node_count net) → AreNear net keys
    → ((k : ℕ) → k < 16 → IsSourceStart net unit (slice_index given k) (in_lane starts k))
    → ((u : ℕ) → u < node_count net → length (ports_of net u) ≤ degree) → degree ≤ 2 ^ bits
    → AreMet net unit read keys → AreOutwardLanes net (record { sources = sources; bits = bits; keys = keys })
solved_here net ok given sources keys starts read bits unit degree few unit_is same same_starts sixteen nodes near begun ports enough met =
    let P : List ℕ → Type 0 = λ xs. length xs ≡ 16 in
    let Q : List ℕ → Type 0 = λ xs. (k : ℕ) → k < 16 → slice_index xs k < node_count net in
    let R : List ℕ → Type 0 = λ xs. (k : ℕ) → k < 16 → IsSourceStart net (2 ^ bits) (slice_index xs k) (in_lane starts k) in
    let S : ℕ → Type 0 = λ m. (k : ℕ) → k < 16 → IsSourceStart net m (slice_index given k) (in_lane starts k) in
    let U : ℕ → Type 0 = λ m. AreMet net m read keys in
    let V : List ℕ → Type 0 = λ xs. AreMet net (2 ^ bits) xs keys in
    lanes_solved net ok (record { sources = sources; bits = bits; keys = keys }) starts few (subst P (sym same) sixteen) near
    (subst Q (sym same) nodes) (subst R (sym same) (subst S unit_is begun)) (λ u u_in. omega (arith, ports u u_in, enough)) (subst V same_starts (subst U unit_is met))

pub returns-clause-ways : goal.returns-clause-ways
returns-clause-ways c =
    let met = rw c.in-Some.is at c.in_ok-keys.ensures.met in
    let near = rw c.in-Some.is at c.in_ok-keys.ensures.near in
    solved_here c.args.topology.now c.invariant.ensures.topology c.args.sources.now c.in_ok-from_slice.field-0.items c.in-Some.keys.items
    c.in_ok-starts.starts.items c.as_slice.result.now c.bits_for-bits.result c.unit_of-unit.result c.greatest_degree.result
    c.bits_for-bits.ensures.few c.unit_of-unit.ensures.unit c.in_ok-from_slice.ensures.items c.as_slice.ensures.value
    c.requires.sixteen c.requires.nodes near c.in_ok-starts.ensures.starts c.greatest_degree.ensures.greatest c.bits_for-bits.ensures.enough met

pub bits_for-bits-requires : goal.bits_for-bits-requires
bits_for-bits-requires c = c.greatest_degree.ensures.few

pub unit_of-unit-requires : goal.unit_of-unit-requires
unit_of-unit-requires c = c.bits_for-bits.ensures.few

pub source_starts-requires-clause-unit : goal.source_starts-requires-clause-unit
source_starts-requires-clause-unit c = c.unit_of-unit.ensures.few

pub source_starts-requires-clause-sixteen : goal.source_starts-requires-clause-sixteen
source_starts-requires-clause-sixteen c = c.requires.sixteen

pub source_starts-requires-clause-nodes : goal.source_starts-requires-clause-nodes
source_starts-requires-clause-nodes c = c.requires.nodes

pub source_starts-requires-clause-ports : goal.source_starts-requires-clause-ports
source_starts-requires-clause-ports c u u_in = omega (arith, c.greatest_degree.ensures.greatest u u_in, c.bits_for-bits.ensures.enough, c.unit_of-unit.ensures.unit)

pub bounds-sources : goal.bounds-sources
bounds-sources c = omega (arith, c.requires.sixteen)

pub settled-requires-clause-unit : goal.settled-requires-clause-unit
settled-requires-clause-unit c = c.unit_of-unit.ensures.few

pub settled-requires-clause-node : goal.settled-requires-clause-node
settled-requires-clause-node c = c.requires.nodes 8 (omega arith)

pub settled-requires-clause-starts : goal.settled-requires-clause-starts
settled-requires-clause-starts c = rw c.as_slice.ensures.value c.in_ok-starts.ensures.near

pub returns-clause-sources : goal.returns-clause-sources
returns-clause-sources c = c.in_ok-from_slice.ensures.items
