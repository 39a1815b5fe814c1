-- Networks over some of the links of another.
use Rattle.std.proofs.Common.{◌≡◌, ℕ, Bool, true, false, List, [], length, replicate, filter, map, Some, ap, sym, ◌∙◌, slice_get, slice_index_or}
use Rattle.std.proofs.lemmas.List.{get_or-replicate, length-replicate}
use Rattle.std.proofs.lemmas.Option.{slice_get_within}
use Rattle.std.proofs.Math.Logic.{∥∥₁_elim, ∥∥₁_prop}
use Rattle.std.proofs.Math.Nat.{ℕ_set}
use Rattle.ir_model.specs.declared.Hop.{Hop}
use Rattle.ir_model.specs.Topology.{Topology, IsTopology, node_count, is_up}
use Rattle.ir_model.specs.Plan.{Plan, IsPlan}
use Rattle.ir_model.proofs.Restrict.{rows_all, node_count-restrict}
use Rattle.ir_epochs.specs.Over.{IsOver}

-- a network is the one over all of its links
pub over_self : (net : Topology) → IsTopology net → IsOver net net
over_self net is =
    let up : List Bool = replicate (length net.links) true in
    let all : (u p : ℕ) (hop : Hop) → slice_get (slice_index_or net.ports u []) p ≡ Some hop → is_up up hop ≡ true =
    λ u p hop at. (let port = is.ports u p hop at in get_or-replicate (length net.links) hop.link true false (slice_get_within net.links hop.link port.0 port.1)) in
    let same : map (filter (is_up up)) net.ports ≡ net.ports = rows_all (is_up up) net.ports all in
    ∣ (up, length-replicate (length net.links) true, ap (λ (ports : List (List Hop)). record { links = net.links; ports = ports }) (sym same)) ∣₁

-- and so is the network of each routing plan
pub over_itself : (s : Plan) → ∥ IsPlan s ∥₁ → IsOver s.topology s.topology
over_itself s is = ∥∥₁_elim is ∥∥₁_prop (λ h. over_self s.topology h.topology)

-- the nodes of a network over some links of another are that one's
pub over_nodes : (net over : Topology) → IsOver net over → node_count over ≡ node_count net
over_nodes net over o = ∥∥₁_elim o (ℕ_set _ _) (λ w. ap node_count w.2 ∙ node_count-restrict w.0 net)
