use Rattle.std.proofs.Common.{◌≡◌, ◌≤◌, ◌<◌, ◌∷◌, ◌++◌, [], ℕ, List, length, refl, ap, rules, arith}
use Rattle.std.proofs.lemmas.List.{length_push}
use Rattle.ir_model.specs.Topology.{node_count}
use Rattle.ir_model.proofs.Walks.{degree_bound}
use Rattle.ir_lanes.proofs.Words.{before_more}
use Rattle.ir_lanes.proofs.Batches.{begins_more}
use Rattle.ir_lanes.proofs.marks.begins_of.Goals as goal

pub loop-u-init : goal.loop-u-init
loop-u-init c = record {
  every = ap (λ (xs : List ℕ). length xs) c.in_ok-begins.ensures.items;
  each = λ v less. absurd (omega (arith, less));
  here = refl;
  few = omega arith;
}

pub overflow_add-begin : goal.overflow_add-begin
overflow_add-begin c =
    let ok = c.nodes-nodes.ensures.topology in
    let u_in = c.loop-u-test.true in
    let is = ap length c.ports.ensures in
    let count = c.nodes-nodes.ensures.count in
    let degree = degree_bound c.args.topology.now ok c.loop-u.u in
    record { fits = omega (arith, degree, is, c.loop-u.invariant.few, u_in, count, ok.few_nodes) }

pub loop-u-preserved : goal.loop-u-preserved
loop-u-preserved c =
    let net = c.args.topology.now in
    let u : ℕ = c.loop-u.u in
    let i = c.loop-u.invariant in
    let pushed : c.push.new.self.items ≡ c.loop-u.begins.items ++ c.loop-u.begin ∷ [] = search rules in
    let u_in : u < node_count net = omega (arith, c.loop-u-test.true, c.nodes-nodes.ensures.count) in
    let ok = c.nodes-nodes.ensures.topology in
    let few : node_count net ≤ 32768 = ok.few_nodes in
    let more = before_more net u u_in in
    let is = ap length c.ports.ensures in
    rw pushed (record {
      every = omega (arith, length_push c.loop-u.begins.items c.loop-u.begin, i.every);
      each = begins_more net u c.loop-u.begins.items c.loop-u.begin i.every i.here i.each;
      here = omega (arith, more, is, i.here);
      few = omega (arith, degree_bound net ok u, few, is, i.few);
    })

pub returns : goal.returns
returns c =
    let i = c.loop-u.invariant in
    let past = c.loop-u-test.false in
    let count = c.nodes-nodes.ensures.count in
    record {
      every = omega (arith, i.every, past, c.loop-u.auto.u-end, count);
      each = λ u u_in. i.each u (omega (arith, u_in, past, count));
    }
