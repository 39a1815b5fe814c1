use Rattle.std.proofs.Common.{◌≡◌, ap, length, arith}
use Rattle.ir_model.specs.Topology.{node_count}
use Rattle.ir_plan.proofs.Lists.{of_both}
use Rattle.ir_plan.proofs.ties.Ties.row.Goals as goal

pub returns-clause-marked : goal.returns-clause-marked
returns-clause-marked c =
    of_both c.row.result _ _ _ c.row.ensures.marks c.row.ensures.marked
    (λ made are marked.
    let every : length made.0.items ≡ node_count c.args.topology.now = omega (arith, are.every, ap length c.as_slice.ensures.value, c.requires.every) in
    record {
      label = λ d has. omega (arith, marked.place d has, every);
      every = λ d hd m. marked.each d (omega (arith, hd, every)) m;
    })
