use Rattle.std.proofs.Common.{◌<◌, None, subst}
use Rattle.ir_model.specs.Topology.{Topology, node_count}
use Rattle.ir_figures.specs.Waits.{whole_number, WaitsInEither, WaitsBeside}
use Rattle.ir_figures.proofs.InParts.{beside_of, either_of, ring_too, without_too}
use Rattle.ir_figures.proofs.Results.{ok_none_then, ok_some_then}
use Rattle.ir_figures.proofs.waits.waiting_ring_together.Goals as goal

pub ring_beside-requires-clause-within : goal.ring_beside-requires-clause-within
ring_beside-requires-clause-within c = λ x lt. subst (λ (net : Topology). x < node_count net) c.requires lt

pub returns-clause-acyclic : goal.returns-clause-acyclic
returns-clause-acyclic c =
    let s = c.args.plan.now in
    let t = c.args.second.now in
    ok_none_then c.ring_beside.result
    (without_too (WaitsBeside s (whole_number None) t) (WaitsInEither s t) (beside_of s t c.invariant.ensures.plan c.invariant-2.ensures.plan c.requires)) c.ring_beside.ensures.acyclic

pub returns-clause-ring : goal.returns-clause-ring
returns-clause-ring c =
    let s = c.args.plan.now in
    let t = c.args.second.now in
    ok_some_then c.ring_beside.result
    (λ named told. (told.0, ring_too (WaitsBeside s (whole_number None) t) (WaitsInEither s t) (either_of s t c.invariant.ensures.plan c.invariant-2.ensures.plan c.requires) named.items told.0 told.1))
    c.ring_beside.ensures.ring
