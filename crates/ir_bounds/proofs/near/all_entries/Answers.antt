use Rattle.std.proofs.Common.{◌≡◌, ◌<◌, ℕ, ap, ◌∙◌, arith}
use Rattle.std.specs.Prelude.{slice_index}
use Rattle.std.proofs.lemmas.List.{get_or_read}
use Rattle.ir_model.specs.Topology.{node_count}
use Rattle.ir_model.specs.Landmark.{IsLandmarkBound, bound_by}
use Rattle.ir_bounds.proofs.Numbers.{distance_small, owner_in}
use Rattle.ir_bounds.proofs.Parts.{all_taken}
use Rattle.ir_bounds.proofs.near.all_entries.Goals as goal

pub bounds-away-index : goal.bounds-away-index
bounds-away-index c =
    let net = c.args.topology.now in
    let d = c.loop-d.d in
    let owners = c.args.owners.now in
    let hd : d < node_count net = omega (arith, c.loop-d-test.true, c.nodes-nodes.ensures.count) in
    let of = c.requires.owners.each d hd in
    let read = get_or_read owners.nodes.items d c.index.result.now (omega (arith, hd, c.requires.owners.nodes_len)) c.index.ensures 0 in
    let l = owner_in net c.nodes-nodes.ensures.topology owners.landmarks.items d (slice_index owners.nodes.items d) (slice_index owners.radii.items d) of in
    omega (arith, read, l.0, c.requires.distances.every)

pub bound-requires-clause-around : goal.bound-requires-clause-around
bound-requires-clause-around c =
    let net = c.args.topology.now in
    let d = c.loop-d.d in
    let owners = c.args.owners.now in
    let hd : d < node_count net = omega (arith, c.loop-d-test.true, c.nodes-nodes.ensures.count) in
    let of = c.requires.owners.each d hd in
    let read = get_or_read owners.nodes.items d c.index.result.now (omega (arith, hd, c.requires.owners.nodes_len)) c.index.ensures 0 in
    let l = owner_in net c.nodes-nodes.ensures.topology owners.landmarks.items d (slice_index owners.nodes.items d) (slice_index owners.radii.items d) of in
    rw read (distance_small net c.nodes-nodes.ensures.topology c.args.u (slice_index owners.nodes.items d) _ (c.requires.distances.each (slice_index owners.nodes.items d) l.0))

pub bound-requires-clause-radius : goal.bound-requires-clause-radius
bound-requires-clause-radius c =
    let net = c.args.topology.now in
    let d = c.loop-d.d in
    let owners = c.args.owners.now in
    let hd : d < node_count net = omega (arith, c.loop-d-test.true, c.nodes-nodes.ensures.count) in
    let of = c.requires.owners.each d hd in
    let read = get_or_read owners.radii.items d c.index-radius.result.now (omega (arith, hd, c.requires.owners.radii_len)) c.index-radius.ensures 0 in
    let l = owner_in net c.nodes-nodes.ensures.topology owners.landmarks.items d (slice_index owners.nodes.items d) (slice_index owners.radii.items d) of in
    omega (arith, read, l.1)

pub loop-d-preserved : goal.loop-d-preserved
loop-d-preserved c =
    let net = c.args.topology.now in
    let d = c.loop-d.d in
    let u : ℕ = c.args.u in
    let owners = c.args.owners.now in
    let hd : d < node_count net = omega (arith, c.loop-d-test.true, c.nodes-nodes.ensures.count) in
    let of = c.requires.owners.each d hd in
    let owner : ℕ = slice_index owners.nodes.items d in
    let radius : ℕ = slice_index owners.radii.items d in
    let away = c.args.away.now in
    let node = get_or_read owners.nodes.items d c.index.result.now (omega (arith, hd, c.requires.owners.nodes_len)) c.index.ensures 0 in
    let read = get_or_read owners.radii.items d c.index-radius.result.now (omega (arith, hd, c.requires.owners.radii_len)) c.index-radius.ensures 0 in
    let l = owner_in net c.nodes-nodes.ensures.topology owners.landmarks.items d owner radius of in
    let is : c.bound.result ≡ bound_by c.args.stretch (slice_index away d) radius (slice_index away owner) =
    c.bound.ensures ∙ ap (λ (x : ℕ). bound_by c.args.stretch (slice_index away d) x (slice_index away c.index.result.now)) read
    ∙ ap (λ (x : ℕ). bound_by c.args.stretch (slice_index away d) radius (slice_index away x)) node in
    let held : IsLandmarkBound net owners.landmarks.items c.args.stretch u d c.bound.result =
    record { landmark = owner; radius = radius; away = slice_index away d; around = slice_index away owner; of_end = of; direct = c.requires.distances.each d hd; to_landmark = c.requires.distances.each owner l.0; is = is } in
    let halves = c.in_ok-put_number.ensures in
    all_taken net owners.landmarks.items c.args.stretch u d c.bound.result halves.0 halves.1 c.loop-d.entries.items c.put_number.new.halves.items c.loop-d.invariant halves.2 halves.3 held
