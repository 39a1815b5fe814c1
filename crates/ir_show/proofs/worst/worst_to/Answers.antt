use Rattle.std.proofs.Common.{◌≡◌, ◌<◌, ℕ, arith, subst}
use Rattle.ir_show.specs.Before.{IsWorstBefore}
use Rattle.ir_show.proofs.Pairs.{next_node}
use Rattle.ir_show.proofs.worst.worst_to.Goals as goal

pub loop-u-preserved : goal.loop-u-preserved
loop-u-preserved c = λ n walk distance d_in walks distances positive before.
    let u : ℕ = c.loop-u.u in
    let u_in : u < n = omega (arith, walks.every) in
    c.worse_of-worst.ensures n walk distance u_in d_in positive (walks.each u u_in, distances.each u u_in) (c.loop-u.invariant n walk distance d_in walks distances positive before)

pub returns : goal.returns
returns c = λ n walk distance d_in walks distances positive before.
    let all : c.loop-u.u ≡ n = omega (arith, walks.every) in
    let P : ℕ → Type 0 = λ u. IsWorstBefore n walk distance u c.args.d c.loop-u.worst in
    next_node n walk distance c.args.d c.loop-u.worst (subst P all (c.loop-u.invariant n walk distance d_in walks distances positive before))
