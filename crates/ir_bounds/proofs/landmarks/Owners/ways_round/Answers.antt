use Rattle.std.proofs.Common.{◌≡◌, ◌<◌, ap, ℕ, ◌+◌, arith}
use Rattle.std.specs.Prelude.{slice_index}
use Rattle.std.proofs.lemmas.List.{get_or_read}
use Rattle.ir_model.specs.Topology.{node_count}
use Rattle.ir_bounds.specs.Near.{IsWayRound}
use Rattle.ir_bounds.proofs.Numbers.{distance_small, owner_in, number_pushed}
use Rattle.ir_bounds.proofs.Parts.{owner_distance}
use Rattle.ir_bounds.proofs.landmarks.Owners.ways_round.Goals as goal

pub index-requires-in-loop-d : goal.index-requires-in-loop-d
index-requires-in-loop-d c =
    let net = c.args.topology.now in
    let d = c.loop-d.d in
    let self = c.args.self.now in
    let hd : d < node_count net = omega (arith, c.loop-d-test.true, c.loop-d.auto.d-end, c.nodes-nodes.ensures.count) in
    let of = c.requires.owners.each d hd in
    let read = get_or_read self.nodes.items d c.index.result.now (omega (arith, hd, c.requires.owners.nodes_len)) c.index.ensures 0 in
    let l = owner_in net c.nodes-nodes.ensures.topology self.landmarks.items d (slice_index self.nodes.items d) (slice_index self.radii.items d) of in
    omega (arith, read, l.0, c.in_ok-around.ensures.every, c.in_ok-around.around.ok.0)

pub overflow_add-index : goal.overflow_add-index
overflow_add-index c =
    let net = c.args.topology.now in
    let ok = c.nodes-nodes.ensures.topology in
    let d = c.loop-d.d in
    let self = c.args.self.now in
    let around = c.in_ok-around.around.items in
    let hd : d < node_count net = omega (arith, c.loop-d-test.true, c.loop-d.auto.d-end, c.nodes-nodes.ensures.count) in
    let of = c.requires.owners.each d hd in
    let owner : ℕ = slice_index self.nodes.items d in
    let radius : ℕ = slice_index self.radii.items d in
    let node = get_or_read self.nodes.items d c.index.result.now (omega (arith, hd, c.requires.owners.nodes_len)) c.index.ensures 0 in
    let l = owner_in net ok self.landmarks.items d owner radius of in
    let own = get_or_read around c.index.result.now c.index-in-loop-d.result.now (omega (arith, node, l.0, c.in_ok-around.ensures.every)) c.index-in-loop-d.ensures 0 in
    let read = get_or_read self.radii.items d c.index-in-loop-d-2.result.now (omega (arith, hd, c.requires.owners.radii_len)) c.index-in-loop-d-2.ensures 0 in
    let far = distance_small net ok c.args.u owner (slice_index around owner) (owner_distance net self.landmarks.items c.args.u d owner radius around c.in_ok-around.ensures of) in
    let same : slice_index around c.index.result.now ≡ slice_index around owner = ap (slice_index around) node in
    omega (arith, own, read, far, l.1, same)

pub loop-d-preserved : goal.loop-d-preserved
loop-d-preserved c =
    let net = c.args.topology.now in
    let ok = c.nodes-nodes.ensures.topology in
    let d = c.loop-d.d in
    let u : ℕ = c.args.u in
    let self = c.args.self.now in
    let around = c.in_ok-around.around.items in
    let hd : d < node_count net = omega (arith, c.loop-d-test.true, c.loop-d.auto.d-end, c.nodes-nodes.ensures.count) in
    let of = c.requires.owners.each d hd in
    let owner : ℕ = slice_index self.nodes.items d in
    let radius : ℕ = slice_index self.radii.items d in
    let node = get_or_read self.nodes.items d c.index.result.now (omega (arith, hd, c.requires.owners.nodes_len)) c.index.ensures 0 in
    let l = owner_in net ok self.landmarks.items d owner radius of in
    let own = get_or_read around c.index.result.now c.index-in-loop-d.result.now (omega (arith, node, l.0, c.in_ok-around.ensures.every)) c.index-in-loop-d.ensures 0 in
    let read = get_or_read self.radii.items d c.index-in-loop-d-2.result.now (omega (arith, hd, c.requires.owners.radii_len)) c.index-in-loop-d-2.ensures 0 in
    let same : slice_index around c.index.result.now ≡ slice_index around owner = ap (slice_index around) node in
    let x : ℕ = c.index-in-loop-d.result.now + c.index-in-loop-d-2.result.now in
    let way : IsWayRound net self.landmarks.items u d x = record {
      landmark = owner;
      radius = radius;
      around = slice_index around owner;
      of_end = of;
      to_landmark = owner_distance net self.landmarks.items u d owner radius around c.in_ok-around.ensures of;
      is = omega (arith, own, read, same);
    } in
    let more = number_pushed (IsWayRound net self.landmarks.items u) d c.loop-d.row.items c.push.new.self.items x c.loop-d.invariant.every c.loop-d.invariant.each c.in_ok-push.ensures.items way in
    record { every = more.0; each = more.1 }
