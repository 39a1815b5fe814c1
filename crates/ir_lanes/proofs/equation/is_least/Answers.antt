use Rattle.std.proofs.Common.{◌<◌, ◌≤◌, ℕ, arith, inl, inr, ⊎_elim}
use Rattle.std.proofs.lemmas.Bool.{cases_lt}
use Rattle.std.proofs.lemmas.Option.{slice_get_within}
use Rattle.std.specs.Prelude.{slice_index}
use Rattle.ir_model.specs.Topology.{ports_of}
use Rattle.ir_lanes.specs.Lanes.{in_lane}
use Rattle.ir_lanes.proofs.equation.is_least.Goals as goal

pub load-requires : goal.load-requires
load-requires c = omega (arith, c.requires.starts.every, c.requires.node)

pub load-own-requires : goal.load-own-requires
load-own-requires c = omega (arith, c.requires.lanes.every, c.requires.node)

pub overflow_mul-u : goal.overflow_mul-u
overflow_mul-u c = record { fits = omega (arith, c.requires.node, c.invariant.ensures.topology.few_nodes) }

pub overflow_mul-u-2 : goal.overflow_mul-u-2
overflow_mul-u-2 c = record { fits = omega (arith, c.requires.node, c.invariant.ensures.topology.few_nodes) }

pub are_same-requires : goal.are_same-requires
are_same-requires c = record { left = c.load-own.ensures.long; right = c.lesser-wanted.ensures.long }

pub returns-then-are_same : goal.returns-then-are_same
returns-then-are_same c found k k_in =
    let net = c.args.topology.now in
    let u : ℕ = c.args.u in
    let offered : ℕ = slice_index c.args.offered k in
    let start : ℕ = in_lane c.args.starts.now k u in
    let is = c.are_same.ensures c.if-are_same.true k k_in in
    let own = c.load-own.ensures.each k k_in in
    let there = c.load.ensures.each k k_in in
    let least = c.lesser-wanted.ensures.each k k_in in
    let near = c.are_found.ensures found k k_in in
    record {
      near = omega (arith, near, own);
      low = omega (arith, is, own, there, least);
      tight = λ p hop at_p. omega (arith, is, own, least, c.requires.offered.below k p hop k_in (slice_get_within (ports_of net u) p hop at_p) at_p);
      met = ⊎_elim (λ (less : offered < start).
          let by = c.requires.offered.met k k_in (omega (arith, is, own, there, least, near, less)) in
          inr (by.0, by.1, by.2, omega (arith, is, own, there, least, less, by.3)))
          (λ (ge : start ≤ offered). inl (omega (arith, is, own, there, least, ge))) (cases_lt offered start);
    }
