use Rattle.std.proofs.Common.{◌≡◌, ◌<◌, ◌≤◌, ℕ, List, length, get_or, Some, ap, subst, arith}
use Rattle.std.specs.Prelude.{slice_get}
use Rattle.std.proofs.lemmas.Option.{slice_get-get_or}
use Rattle.ir_model.specs.declared.Hop.{Hop}
use Rattle.ir_model.specs.Topology.{ports_of}
use Rattle.ir_model.proofs.Reach.{connected_distances}
use Rattle.ir_model.proofs.Walks.{port_facts}
use Rattle.ir_bounds.specs.Blocks.{IsInward}
use Rattle.ir_bounds.proofs.Blocks.{least_begun, least_kept, least_taken, parent_is}
use Rattle.ir_bounds.proofs.trees.block_parent.Goals as goal
use Rattle.ir_bounds.proofs.trees.block_parent.Goals.{then-is_inward, else-is_inward}

abbrev none : Hop
none = record { node = 0; link = 0; weight = 0 }

-- a port at a place of the ports that are gone over
port_here : (ports own : List Hop) → ports ≡ own → (i : ℕ) → i < length ports → slice_get own i ≡ Some (get_or ports i none)
port_here ports own same i within = subst (λ (xs : List Hop). slice_get xs i ≡ Some (get_or ports i none)) same (slice_get-get_or ports i none within)

pub loop-hop-init : goal.loop-hop-init
loop-hop-init c = least_begun _ _

pub is_inward-requires-clause-nodes : goal.is_inward-requires-clause-nodes
is_inward-requires-clause-nodes c = omega (arith, c.requires.node, c.requires.owners.nodes_len)

pub is_inward-requires-clause-radii : goal.is_inward-requires-clause-radii
is_inward-requires-clause-radii c = omega (arith, c.requires.owners.radii_len, c.requires.owners.nodes_len)

pub is_inward-requires-clause-hop : goal.is_inward-requires-clause-hop
is_inward-requires-clause-hop c =
    let net = c.args.topology.now in
    let at = port_here c.ports-ports.result.now (ports_of net c.args.v) c.ports-ports.ensures c.loop-hop.hop-index c.loop-hop-test.true in
    let to = (port_facts net c.invariant.ensures.topology c.args.v c.loop-hop.hop-index (get_or c.ports-ports.result.now c.loop-hop.hop-index none) at).to in
    omega (arith, to, c.requires.owners.nodes_len)

pub loop-hop-preserved : goal.loop-hop-preserved
loop-hop-preserved c =
    let net = c.args.topology.now in
    let v : ℕ = c.args.v in
    let i : ℕ = c.loop-hop.hop-index in
    let here : Hop = get_or c.ports-ports.result.now i none in
    let owners = c.args.owners.now in
    let at = port_here c.ports-ports.result.now (ports_of net v) c.ports-ports.ensures i c.loop-hop-test.true in
    elim c.if-is_inward.branch [
      | then-is_inward w ↦
          rw w.best-is
          (least_taken (IsInward owners.nodes.items owners.radii.items v) (ports_of net v) i here at c.loop-hop.best w.least.result c.loop-hop.invariant (c.is_inward.ensures.0 w.if-is_inward.true) w.least.ensures.at_most
          w.least.ensures.best w.least.ensures.one)
      | else-is_inward w ↦
          rw w.best-is
          (least_kept (IsInward owners.nodes.items owners.radii.items v) (ports_of net v) i here at c.loop-hop.best c.loop-hop.invariant
          (λ good. (let yes_it = c.is_inward.ensures.1 good in let no_it = w.if-is_inward.false in cc (yes_it, no_it))))
    ]

pub returns : goal.returns
returns c =
    let net = c.args.topology.now in
    let ok = c.invariant.ensures.topology in
    let owners = c.args.owners.now in
    let all : length (ports_of net c.args.v) ≤ c.loop-hop.hop-index = omega (arith, ap (λ (xs : List Hop). length xs) c.ports-ports.ensures, c.loop-hop-test.false) in
    parent_is net ok (connected_distances net ok c.requires.connected) owners.landmarks.items owners.nodes.items owners.radii.items c.requires.owners c.args.v c.requires.node c.loop-hop.hop-index c.loop-hop.best
    c.loop-hop.invariant all c.or_itself.result c.or_itself.ensures.none c.or_itself.ensures.some
