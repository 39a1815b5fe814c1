use Rattle.std.proofs.Common.{◌≡◌, ◌∙◌, ℕ, List, ap, subst}
use Rattle.std.proofs.lemmas.Result.{IfOk-weaker}
use Rattle.std.specs.Prelude.{slice_index}
use Rattle.std.specs.Global.{Vec}
use Rattle.ir_model.specs.Topology.{Topology, node_count}
use Rattle.ir_model.specs.Landmark.{AreBlocks}
use Rattle.ir_numbering.specs.Numbering.{IsListing}
use Rattle.ir_bounds.specs.Plans.{AreBlockLabels}
use Rattle.ir_bounds.proofs.detours.block_labels.Goals as goal

-- what blocks are of
listed : (net : Topology) (landmarks order : List ℕ) → AreBlocks net landmarks order → IsListing (node_count net) order
listed net landmarks order are = let d = are.depth_first in record { every = d.every; nodes = d.nodes; once = d.once }

pub returns-clause-blocks : goal.returns-clause-blocks
returns-clause-blocks c =
    let net = c.args.topology.now in
    let owners = c.in_ok-owners.owners in
    let landmarks : List ℕ = c.in_ok-landmarks.landmarks.items in
    let same : owners.landmarks.items ≡ landmarks = ap (λ (v : Vec ℕ). v.items) c.in_ok-owners.ensures.landmarks in
    IfOk-weaker c.block_order.result (λ (order : Vec ℕ). AreBlocks net owners.landmarks.items order.items) (λ (order : Vec ℕ). AreBlockLabels net c.args.root c.args.detour.landmarks order.items)
    (λ order are. record { landmarks = landmarks; chosen = c.in_ok-landmarks.ensures.chosen; blocks = subst (λ (ls : List ℕ). AreBlocks net ls order.items) same are }) c.block_order.ensures

pub returns-clause-listing : goal.returns-clause-listing
returns-clause-listing c =
    let net = c.args.topology.now in
    let landmarks : List ℕ = c.in_ok-owners.owners.landmarks.items in
    IfOk-weaker c.block_order.result (λ (order : Vec ℕ). AreBlocks net landmarks order.items) (λ (order : Vec ℕ). IsListing (node_count net) order.items) (λ order are. listed net landmarks order.items are) c.block_order.ensures

pub returns-clause-first : goal.returns-clause-first
returns-clause-first c =
    let net = c.args.topology.now in
    let owners = c.in_ok-owners.owners in
    let landmarks : List ℕ = c.in_ok-landmarks.landmarks.items in
    let same : owners.landmarks.items ≡ landmarks = ap (λ (v : Vec ℕ). v.items) c.in_ok-owners.ensures.landmarks in
    let chosen = c.in_ok-landmarks.ensures.chosen in
    IfOk-weaker c.block_order.result (λ (order : Vec ℕ). AreBlocks net owners.landmarks.items order.items) (λ (order : Vec ℕ). slice_index order.items 0 ≡ c.args.root)
    (λ order are. (let d = are.depth_first in d.root_first) ∙ ap (λ (xs : List ℕ). slice_index xs 0) same ∙ chosen.root_first) c.block_order.ensures

pub block_order-requires-clause-landmarks : goal.block_order-requires-clause-landmarks
block_order-requires-clause-landmarks c =
    let same = ap (λ (v : Vec ℕ). v.items) c.in_ok-owners.ensures.landmarks in
    rw same c.in_ok-landmarks.ensures.landmarks

pub block_order-requires-clause-owners : goal.block_order-requires-clause-owners
block_order-requires-clause-owners c =
    let same = ap (λ (v : Vec ℕ). v.items) c.in_ok-owners.ensures.landmarks in
    rw same c.in_ok-owners.ensures.owners
