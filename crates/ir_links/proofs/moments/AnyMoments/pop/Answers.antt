use Rattle.std.proofs.Common.{ap}
use Rattle.crossbeam_queue.specs.Passes.{view as pass_view, ruled_capacity}
use Rattle.ir_links.proofs.Keeps.{takes, learns_taken}
use Rattle.ir_links.proofs.moments.AnyMoments.pop.Goals as goal

pub pop_as-requires-clause-rule : goal.pop_as-requires-clause-rule
pop_as-requires-clause-rule g c =
    let shared = c.args.shared.now in
    let pass = c.args.pass.now in
    let knows = c.requires.knows in
    let may = ap (λ v. v.takes) knows in (
      takes g.T.Bound.goes_to pass.id shared.place (ruled_capacity shared.queue) (pass_view pass) may (ap (λ v. v.terms) knows),
      learns_taken g.T.Bound.goes_to pass.id (pass_view pass) may,
    )
