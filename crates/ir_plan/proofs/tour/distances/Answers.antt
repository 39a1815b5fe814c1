use Rattle.std.proofs.Common.{subst}
use Rattle.std.specs.Prelude.{IfOk}
use Rattle.ir_model.specs.Topology.{Topology}
use Rattle.ir_plan.specs.Distances.{AreShortestDistances, far_between}
use Rattle.ir_plan.specs.declared.distances.Distances.{Distances}
use Rattle.ir_plan.proofs.tour.distances.Goals as goal

pub returns-clause-shortest : goal.returns-clause-shortest
returns-clause-shortest g c =
    subst (λ (net : Topology). IfOk c.of-2.result (λ (far : Distances). AreShortestDistances net (far_between far.rows.items))) c.in_ok-shortest.ensures.topology c.of-2.ensures.shortest

pub of-requires-clause-few : goal.of-requires-clause-few
of-requires-clause-few g c κs within = c.requires

pub of-requires-2-clause-few : goal.of-requires-2-clause-few
of-requires-2-clause-few g c κs within = rw c.in_ok-shortest.ensures.topology c.requires

pub of-requires-2-clause-shortest : goal.of-requires-2-clause-shortest
of-requires-2-clause-shortest g c κs within = c.in_ok-shortest.ensures.shortest

pub returns-then-eq : goal.returns-then-eq
returns-then-eq g c = record { nodes = c.of.ensures.nodes; shortest = c.of.ensures.shortest }

pub returns-clause-nodes : goal.returns-clause-nodes
returns-clause-nodes g c = rw c.in_ok-shortest.ensures.topology at c.of-2.ensures.nodes
