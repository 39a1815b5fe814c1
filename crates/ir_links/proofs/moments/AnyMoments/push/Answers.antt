use Rattle.std.proofs.Common.{arith, ap}
use Rattle.crossbeam_queue.specs.Passes.{view as pass_view, ruled_capacity}
use Rattle.ir_links.proofs.Keeps.{pushes, learns_sent}
use Rattle.ir_links.proofs.moments.AnyMoments.push.Goals as goal

pub push_as-requires-clause-rule : goal.push_as-requires-clause-rule
push_as-requires-clause-rule g c =
    let shared = c.args.shared.now in
    let pass = c.args.pass.now in
    let knows = c.requires.knows in
    let may = ap (λ v. v.sends) knows in (
      pushes g.T.Bound.goes_to _ pass.id shared.place (ruled_capacity shared.queue) (pass_view pass) c.args.item may (ap (λ v. v.terms) knows) (omega arith) c.requires.goes,
      learns_sent g.T.Bound.goes_to pass.id (pass_view pass) may,
    )
