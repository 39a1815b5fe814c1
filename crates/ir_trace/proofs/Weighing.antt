-- The weight of a front of a walk.
use Rattle.std.proofs.Common.{◌≡◌, ℕ, zero, suc, ◌+◌, ◌-◌, ◌<◌, ◌≤◌, List, [], ◌∷◌, length, take, get_or, add-one, arith}
use Rattle.ir_model.specs.Topology.{Topology}
use Rattle.ir_model.specs.Walk.{link_weight, weight_from, walk_weight}

-- the way through one node more
weight_from-take : (net : Topology) (u : ℕ) (rest : List ℕ) (k : ℕ) → k < length rest
    → weight_from net u (take (suc k) rest) ≡ weight_from net u (take k rest) + link_weight net (get_or (u ∷ rest) k 0) (get_or rest k 0)
weight_from-take net u [] k lt = absurd (omega arith)
weight_from-take net u (v ∷ rest) zero lt = omega arith
weight_from-take net u (v ∷ rest) (suc k) lt =
    omega (arith, weight_from-take net v rest k (omega arith))

-- one hop more
pub walk_weight-take : (net : Topology) (hops : List ℕ) (i : ℕ) → 1 ≤ i → i < length hops
    → walk_weight net (take (i + 1) hops) ≡ walk_weight net (take i hops) + link_weight net (get_or hops (i - 1) 0) (get_or hops i 0)
walk_weight-take net [] i some lt = absurd (omega arith)
walk_weight-take net (u ∷ rest) zero some lt = absurd (omega arith)
walk_weight-take net (u ∷ rest) (suc k) some lt =
    let before : suc k - 1 ≡ k = omega arith in
    rw (add-one, before) (weight_from-take net u rest k (omega arith))
