use Rattle.std.proofs.Common.{◌∙◌, None, ap, length}
use Rattle.ir_model.specs.Topology.{node_count}
use Rattle.ir_model.proofs.Restrict.{node_count-restrict}
use Rattle.ir_plan.specs.Building.{labelling_of}
use Rattle.ir_figures.specs.Failures.{all_but, labelling_left, without_link}
use Rattle.ir_figures.proofs.Results.{on_ok_then}
use Rattle.ir_figures.proofs.FailureLines.{may_label_left, has_root_left, words_over, own_numbers}
use Rattle.ir_figures.proofs.failures.push_left.Goals as goal

pub push_plan-requires-clause-labels : goal.push_plan-requires-clause-labels
push_plan-requires-clause-labels c =
    let plan = c.args.plan.now in
    may_label_left plan c.args.order c.args.l c.in_ok-left.left c.kind.result (labelling_of c.in_ok-labels.labels) c.invariant.ensures.plan c.in_ok-left.ensures c.kind.ensures c.in_ok-labels.ensures

pub push_plan-requires-clause-root : goal.push_plan-requires-clause-root
push_plan-requires-clause-root c =
    let plan = c.args.plan.now in
    λ some. has_root_left plan c.args.order c.args.l c.in_ok-left.left (labelling_of c.in_ok-labels.labels) c.invariant.ensures.plan c.in_ok-left.ensures c.in_ok-labels.ensures

pub push_plan-requires-clause-numbers : goal.push_plan-requires-clause-numbers
push_plan-requires-clause-numbers c =
    let net = c.args.plan.now.topology in
    own_numbers c.args.other.now net (node_count c.in_ok-left.left) c.requires.over (ap node_count c.in_ok-left.ensures ∙ node_count-restrict (all_but (length net.links) c.args.l) net)

pub returns : goal.returns
returns c =
    let plan = c.args.plan.now in
    on_ok_then c.push_plan.result
    (λ told. (
      told.0,
      words_over c.args.other.now None (without_link plan.topology c.args.l) c.in_ok-left.left plan.kind c.kind.result (labelling_left plan c.args.order) (labelling_of c.in_ok-labels.labels) told.0 c.in_ok-left.ensures c.kind.ensures c.in_ok-labels.ensures told.1,
      told.2,
    ))
    c.push_plan.ensures
