use Rattle.std.proofs.Common.{◌≡◌, ◌∷◌, ℕ, List}
use Rattle.std.specs.Global.{Vec}
use Rattle.std.proofs.lemmas.Result.{IfOk-weaker}
use Rattle.ir_bounds.specs.Near.{IsNearPart}
use Rattle.ir_bounds.proofs.Parts.{named_part, plain_part}
use Rattle.ir_bounds.proofs.Reaching.{distances_tell}
use Rattle.ir_bounds.proofs.near.near_part.Goals as goal

pub near_entries-requires-clause-near : goal.near_entries-requires-clause-near
near_entries-requires-clause-near c = distances_tell c.args.topology.now c.args.stretch c.args.u c.args.owners.now.radii.items c.args.away.now c.requires.distances

pub returns-then-len-nodes : goal.returns-then-len-nodes
returns-then-len-nodes c =
    let net = c.args.topology.now in
    let count : ℕ = c.in_ok-count.count in
    let near : List ℕ = c.in_ok-count.near.items in
    let landmarks : List ℕ = c.args.owners.now.landmarks.items in
    IfOk-weaker c.part_of.result (λ (part : Vec ℕ). part.items ≡ count ∷ 3 ∷ near) (λ (part : Vec ℕ). IsNearPart net landmarks c.args.stretch c.args.u part.items)
    (λ part is. named_part net landmarks c.args.stretch c.args.u count near part.items is c.in_ok-count.ensures) (rw c.as_slice.ensures.value at c.part_of.ensures)

pub returns : goal.returns
returns c =
    let net = c.args.topology.now in
    let n : ℕ = c.nodes-nodes.result in
    let all : List ℕ = c.in_ok-all.all.items in
    let landmarks : List ℕ = c.args.owners.now.landmarks.items in
    IfOk-weaker c.part_of-2.result (λ (part : Vec ℕ). part.items ≡ n ∷ 2 ∷ all) (λ (part : Vec ℕ). IsNearPart net landmarks c.args.stretch c.args.u part.items)
    (λ part is. plain_part net landmarks c.args.stretch c.args.u n all part.items c.nodes-nodes.ensures.count is c.in_ok-all.ensures) (rw c.as_slice-2.ensures.value at c.part_of-2.ensures)
