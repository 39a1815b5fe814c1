use Rattle.std.proofs.Common.{◌≡◌, ◌<◌, ℕ, Option, IsSome, refl, subst, sym, length}
use Rattle.std.proofs.lemmas.Option.{slice_get_within}
use Rattle.ir_model.specs.Topology.{ports_of}
use Rattle.ir_model.specs.Plan.{table_port}
use Rattle.ir_show.proofs.WalkLines.{plan_next, port_to_node}
use Rattle.ir_show.proofs.walk.hop_towards.Goals as goal

pub unwrap-port-requires : goal.unwrap-port-requires
unwrap-port-requires c =
    let s = c.args.plan.now in
    let next = plan_next s c.requires.plan c.args.u c.args.to c.requires.node c.requires.end c.requires.other in
    let port : c.port.result ≡ table_port s c.args.u c.args.to = port_to_node s c.requires.plan c.args.u c.args.to c.label_of.result c.port.result c.requires.end c.label_of.ensures c.port.ensures in
    let P : Option ℕ → Type 0 = λ o. IsSome o in
    subst P (sym port) (subst P (sym next.1.held) refl)

pub hop-requires-clause-port : goal.hop-requires-clause-port
hop-requires-clause-port c =
    let s = c.args.plan.now in
    let next = plan_next s c.requires.plan c.args.u c.args.to c.requires.node c.requires.end c.requires.other in
    let held : c.port.result ≡ table_port s c.args.u c.args.to = port_to_node s c.requires.plan c.args.u c.args.to c.label_of.result c.port.result c.requires.end c.label_of.ensures c.port.ensures in
    let port : next.1.port ≡ c.unwrap-port.result = cc (held, next.1.held, c.unwrap-port.ensures) in
    let P : ℕ → Type 0 = λ p. p < length (ports_of s.topology c.args.u) in
    subst P port (slice_get_within (ports_of s.topology c.args.u) next.1.port next.0 next.1.there)
