use Rattle.std.proofs.Common.{◌+◌, ◌*◌, ◌∙◌, arith}
use Rattle.ir_lanes.proofs.Starts.{ports_have, ports_light}
use Rattle.ir_lanes.proofs.sweeps.pull.Goals as goal

pub overflow_mul-u : goal.overflow_mul-u
overflow_mul-u c = record { fits = omega (arith, c.requires.node, c.invariant.ensures.topology.few_nodes) }

pub overflow_mul-u-2 : goal.overflow_mul-u-2
overflow_mul-u-2 c = record { fits = omega (arith, c.requires.node, c.invariant.ensures.topology.few_nodes) }

pub load-own-requires : goal.load-own-requires
load-own-requires c = omega (arith, c.requires.lanes.every, c.requires.node)

pub least_over-requires : goal.least_over-requires
least_over-requires c =
    let net = c.args.topology.now in
    let ok = c.invariant.ensures.topology in
    let ports = c.ports.result.now in
    record {
      have = ports_have net ok c.args.lanes.now c.requires.lanes c.args.u ports c.ports.ensures;
      light = ports_light net ok c.args.unit c.requires.unit c.args.u ports c.ports.ensures;
      near = c.requires.lanes.near;
    }

pub lesser-less-requires : goal.lesser-less-requires
lesser-less-requires c = record { left = c.load-own.ensures.long; right = c.least_over.ensures.long }

pub are_same-requires : goal.are_same-requires
are_same-requires c = record { left = c.load-own.ensures.long; right = c.lesser-less.ensures.long }

pub store-requires : goal.store-requires
store-requires c =
    let near = c.requires.lanes.near in
    record {
      room = omega (arith, c.requires.lanes.every, c.requires.node);
      long = c.lesser-less.ensures.long;
      near = near;
      low = λ k k_in.
          omega (arith, c.lesser-less.ensures.each k k_in, c.load-own.ensures.each k k_in, near (c.args.u * 16 + k));
    }

pub returns : goal.returns
returns c = record { every = c.store.ensures.length ∙ c.requires.lanes.every; near = c.store.ensures.near }

pub returns-then-are_same : goal.returns-then-are_same
returns-then-are_same c = c.requires.lanes
