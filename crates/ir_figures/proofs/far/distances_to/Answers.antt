use Rattle.std.proofs.Common.{◌≡◌, ℕ, Option, subst}
use Rattle.std.specs.Prelude.{IfSome}
use Rattle.std.specs.Global.{Vec}
use Rattle.std.proofs.lemmas.Result.{IfOk-weaker}
use Rattle.ir_model.specs.Topology.{Topology}
use Rattle.ir_lanes.specs.Outward.{OutwardLanes, source_at}
use Rattle.ir_tables.specs.FromNode.{AreFrom}
use Rattle.ir_tables.specs.Relaxation.{IsRelaxed}
use Rattle.ir_show.specs.Figures.{AreDistancesTo}
use Rattle.ir_show.proofs.Destinations.{relaxed_to}
use Rattle.ir_figures.proofs.FarAway.{from_is_to}
use Rattle.ir_figures.proofs.far.distances_to.Goals as goal

pub returns-in-Some : goal.returns-in-Some
returns-in-Some c =
    let net = c.args.plan.now.topology in
    let is = c.invariant.ensures.plan in
    let ways = c.in-Some.ways in
    let source : source_at ways c.args.lane ≡ c.args.d = subst (λ (found : Option OutwardLanes). IfSome found (λ w. source_at w c.args.lane ≡ c.args.d)) c.in-Some.is c.requires.source in
    IfOk-weaker c.distances.result _ (λ (weights : Vec ℕ). AreDistancesTo net c.args.d weights.items)
    (λ weights from. from_is_to net is.topology c.args.d (source_at ways c.args.lane) weights.items source
    (subst (λ (n : Topology). AreFrom n (source_at ways c.args.lane) weights.items) c.topology.ensures from)) c.distances.ensures

pub returns-in-None : goal.returns-in-None
returns-in-None c =
    let net = c.args.plan.now.topology in
    let is = c.invariant.ensures.plan in
    IfOk-weaker c.weights_to.result _ (λ (weights : Vec ℕ). AreDistancesTo net c.args.d weights.items)
    (λ weights done. relaxed_to net is.topology is.connected c.args.d c.requires.node weights.items
    (subst (λ (n : Topology). IsRelaxed n c.args.d weights.items) c.topology-in-None.ensures done)) c.weights_to.ensures
