use Rattle.std.proofs.Common.{◌≡◌, ◌∷◌, ℕ, List}
use Rattle.std.specs.Global.{Vec}
use Rattle.std.proofs.lemmas.Result.{IfOk-weaker}
use Rattle.ir_bounds.specs.Near.{IsNearPart}
use Rattle.ir_bounds.proofs.Parts.{named_part}
use Rattle.ir_bounds.proofs.Reaching.{within_tells}
use Rattle.ir_bounds.proofs.near.sought_part.Goals as goal

pub returns-then-len-nodes : goal.returns-then-len-nodes
returns-then-len-nodes c =
    let net = c.args.topology.now in
    let count : ℕ = c.in_ok-count.count in
    let near : List ℕ = c.in_ok-count.near.items in
    let landmarks : List ℕ = c.args.owners.now.landmarks.items in
    IfOk-weaker c.part_of.result (λ (part : Vec ℕ). part.items ≡ count ∷ 3 ∷ near) (λ (part : Vec ℕ). IsNearPart net landmarks c.args.stretch c.args.u part.items)
    (λ part is. named_part net landmarks c.args.stretch c.args.u count near part.items is c.in_ok-count.ensures) (rw c.as_slice-then-len-nodes.ensures.value at c.part_of.ensures)
