use Rattle.std.proofs.Common.{◌≡◌, ◌≤◌, ◌<◌, ℕ, length, arith, ap, ⊎_elim}
use Rattle.std.proofs.lemmas.Bool.{cases_lt}
use Rattle.ir_model.specs.Topology.{node_count, ports_of}
use Rattle.ir_model.proofs.Walks.{degree_bound}
use Rattle.ir_lanes.proofs.outward.greatest_degree.Goals as goal

pub loop-u-preserved : goal.loop-u-preserved
loop-u-preserved c =
    let net = c.args.topology.now in
    let ok = c.nodes-u-end.ensures.topology in
    let own = degree_bound net ok c.loop-u.u in
    let few : node_count net ≤ 32768 = ok.few_nodes in
    let is = ap length c.ports.ensures in
    record {
      greatest = λ v lt. ⊎_elim
          (λ (less : v < c.loop-u.u). omega (arith, c.loop-u.invariant.greatest v less, c.max-most.ensures))
          (λ (ge : c.loop-u.u ≤ v). let same : v ≡ c.loop-u.u = omega (arith, ge, lt) in
          let e : length (ports_of net v) ≡ length (ports_of net c.loop-u.u) = ap (λ (x : ℕ). length (ports_of net x)) same in
          omega (arith, e, is, c.max-most.ensures))
          (cases_lt v c.loop-u.u);
      few = omega (arith, own, few, is, c.loop-u.invariant.few, c.max-most.ensures);
    }
