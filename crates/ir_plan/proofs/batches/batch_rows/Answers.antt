use Rattle.std.proofs.Common.{◌*◌, ◌∙◌, ℕ, List, length, ap, arith}
use Rattle.std.specs.Prelude.{slice_index}
use Rattle.ir_model.specs.Topology.{node_count}
use Rattle.ir_plan.proofs.BatchRows.{each_source}
use Rattle.ir_plan.proofs.batches.batch_rows.Goals as goal

pub overflow_mul-first : goal.overflow_mul-first
overflow_mul-first c =
    let batch = c.requires.batch in
    let few = c.nodes-nodes.ensures.topology.few_nodes in
    record { fits = omega (arith, batch, few) }

pub sixteen_from-requires : goal.sixteen_from-requires
sixteen_from-requires c =
    let count = c.nodes-nodes.ensures.count in
    let batch = c.requires.batch in
    let few = c.nodes-nodes.ensures.topology.few_nodes in
    record { first = omega (arith, batch, count); few = omega (arith, few, count) }

pub ways_from-requires : goal.ways_from-requires
ways_from-requires c =
    let is = c.as_slice.ensures.value in
    record {
      sixteen = ap (λ (xs : List ℕ). length xs) is ∙ c.in_ok-sources.ensures.sixteen;
      nodes = λ k low.
          let each = ap (λ (xs : List ℕ). slice_index xs k) is ∙ c.in_ok-sources.ensures.each k low in
          let count = c.nodes-nodes.ensures.count in
          let batch = c.requires.batch in
          omega (arith, each, count, batch);
    }

pub lane_rows-requires : goal.lane_rows-requires
lane_rows-requires c = record {
  labels = c.requires.labels;
  connected = c.requires.connected;
  first = c.requires.batch;
  ways = c.in_ok-ways.ensures.ways;
  sources = each_source c.in_ok-ways.ways c.as_slice.result.now c.in_ok-sources.sources.items (c.args.batch * 16) c.nodes-nodes.result (node_count c.args.topology.now)
      c.in_ok-ways.ensures.sources c.as_slice.ensures.value c.nodes-nodes.ensures.count c.in_ok-sources.ensures.each;
}

pub returns : goal.returns
returns c = c.lane_rows.ensures
