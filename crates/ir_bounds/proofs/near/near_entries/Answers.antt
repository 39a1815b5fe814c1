use Rattle.std.proofs.Common.{◌≡◌, ◌<◌, ◌∙◌, ℕ, true, false, [], ◌∷◌, ◌++◌, ap, sym, subst, arith}
use Rattle.std.specs.Prelude.{slice_index}
use Rattle.std.proofs.lemmas.List.{get_or_read}
use Rattle.ir_model.specs.Topology.{node_count}
use Rattle.ir_model.specs.Walk.{IsDistance}
use Rattle.ir_model.specs.Landmark.{IsLandmarkBound, is_far}
use Rattle.ir_bounds.proofs.Numbers.{owner_in}
use Rattle.ir_bounds.proofs.Parts.{near_taken, near_passed, far_round, near_distance}
use Rattle.ir_bounds.proofs.near.near_entries.Goals as goal
use Rattle.ir_bounds.proofs.near.near_entries.Goals.{then-not-lies_far+in_ok-put_number+in_ok-push, else-not-lies_far}

pub loop-d-preserved : goal.loop-d-preserved
loop-d-preserved c =
    let net = c.args.topology.now in
    let ok = c.nodes-d-end.ensures.topology in
    let d = c.loop-d.d in
    let u : ℕ = c.args.u in
    let stretch : ℕ = c.args.stretch in
    let owners = c.args.owners.now in
    let landmarks = owners.landmarks.items in
    let hd : d < node_count net = omega (arith, c.loop-d-test.true, c.loop-d.auto.d-end, c.nodes-d-end.ensures.count) in
    let of = c.requires.owners.each d hd in
    let owner : ℕ = slice_index owners.nodes.items d in
    let radius : ℕ = slice_index owners.radii.items d in
    let away : ℕ = slice_index c.args.away.now d in
    let read = get_or_read owners.radii.items d c.index.result.now (omega (arith, hd, c.requires.owners.radii_len)) c.index.ensures 0 in
    let told = rw read at c.lies_far.ensures in
    let l = owner_in net ok landmarks d owner radius of in
    let tells = c.requires.near.each d hd in
    let there = c.requires.near.each owner l.0 in
    elim c.if-not-lies_far.branch [
      | then-not-lies_far+in_ok-put_number+in_ok-push w ↦
          let far : is_far stretch away radius ≡ false = sym told ∙ w.if-not-lies_far.true in
          let direct : IsDistance net u d away = subst (λ (n : ℕ). IsDistance net u d n) (sym (tells.near (sym tells.far ∙ far))) tells.direct in
          let bound : IsLandmarkBound net landmarks stretch u d away = near_distance net landmarks stretch u d owner radius away there.away of direct there.direct far in
          let halves = w.in_ok-put_number.ensures in
          rw (w.entries-is, w.count-is)
          (near_taken net landmarks stretch u d c.loop-d.count away halves.0 halves.1 c.loop-d.entries.items w.push.new.self.items c.loop-d.invariant (w.in_ok-push.ensures.items ∙ ap (λ xs. xs ++ (d ∷ [])) halves.2) halves.3 bound)
      | else-not-lies_far w ↦
          let far : is_far stretch away radius ≡ true = sym told ∙ w.if-not-lies_far.false in
          rw (w.entries-is, w.count-is)
          (near_passed net landmarks stretch u d c.loop-d.count c.loop-d.entries.items c.loop-d.invariant (far_round net landmarks stretch u d owner radius tells.away of tells.direct (sym tells.far ∙ far)))
    ]
