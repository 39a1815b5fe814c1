use Rattle.std.proofs.Common.{◌≡◌, ◌<◌, ◌≤◌, ◌∙◌, ◌∷◌, [], ℕ, length, ap, sym, subst, arith, ⊎_elim}
use Rattle.std.proofs.lemmas.Bool.{cases_lt}
use Rattle.std.proofs.lemmas.List.{get_or_append_left, get_or_push, length_push}
use Rattle.ir_model.specs.Walk.{IsDistance}
use Rattle.ir_lanes.specs.Outward.{lane_weight, source_at}
use Rattle.ir_lanes.proofs.outward.OutwardLanes.distances.Goals as goal

pub returns : goal.returns
returns c =
    let net = c.args.topology.now in
    let ways = c.args.self.now in
    let k = c.args.lane in
    record {
      node = c.requires.ways.node k c.requires.lane;
      every = omega (arith, c.loop-v.invariant.every, c.nodes-nodes.ensures.count, c.loop-v-test.false, c.loop-v.auto.v-end);
      each = λ d d_in. subst (λ (w : ℕ). IsDistance net (source_at ways k) d w) (sym (c.loop-v.invariant.each d (omega (arith, d_in, c.nodes-nodes.ensures.count, c.loop-v-test.false)))) (c.requires.ways.weight k d c.requires.lane d_in);
    }

pub loop-v-init : goal.loop-v-init
loop-v-init c = record {
  every = ap length c.in_ok-weights.ensures.items;
  each = λ d d_in. absurd (omega (arith, d_in));
}

pub weight-requires : goal.weight-requires
weight-requires c = record {
  sources = omega (arith, c.requires.ways.sixteen, c.requires.lane);
  keys = omega (arith, c.requires.ways.every, c.requires.lane, c.loop-v-test.true, c.nodes-nodes.ensures.count);
  bits = c.requires.ways.few_bits;
}

pub loop-v-preserved : goal.loop-v-preserved
loop-v-preserved c =
    let old = c.loop-v.weights.items in
    let new : ℕ = c.weight.result in
    let v : ℕ = c.loop-v.v in
    let i = c.loop-v.invariant in
    rw (c.in_ok-push.ensures.items) (record {
      every = omega (arith, length_push old new, i.every);
      each = λ d d_in.
          ⊎_elim (λ (less : d < v). get_or_append_left old (new ∷ []) 0 d (omega (arith, less, i.every)) ∙ i.each d less)
          (λ (ge : v ≤ d). let is : d ≡ v = omega (arith, d_in, ge) in
          get_or_push old new 0 d (i.every ∙ sym is) ∙ c.weight.ensures ∙ ap (λ (x : ℕ). lane_weight c.args.self.now c.args.lane x) (sym is)) (cases_lt d v);
    })
