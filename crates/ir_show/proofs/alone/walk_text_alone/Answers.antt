use Rattle.std.proofs.Common.{◌≡◌, ◌<◌, ◌∙◌, ℕ, ap, subst, arith, length, string_bytes}
use Rattle.ir_model.specs.Graph.{names}
use Rattle.ir_model.specs.Topology.{node_count}
use Rattle.ir_plan.specs.Building.{labelling_of}
use Rattle.ir_show.specs.Stops.{AreStopsAmong}
use Rattle.ir_show.proofs.Plans.{plan_by}
use Rattle.ir_show.proofs.Walks.{stops_among, walk_told}
use Rattle.ir_show.proofs.alone.walk_text_alone.Goals as goal

pub text_of-requires : goal.text_of-requires
text_of-requires c =
    let made = c.in_ok-walk.ensures in
    let n : node_count made.0.topology ≡ length c.args.graph.now = ap node_count made.1.over ∙ c.requires.nodes in
    let some : 0 < length c.args.graph.now = omega (arith, c.in_ok-numbering.ensures.some, c.requires.nodes) in
    subst (λ (n : ℕ). AreStopsAmong n c.in_ok-walk.walk) n
    (stops_among made.0 made.1.valid c.args.ends.0 c.args.ends.1 (omega (arith, c.requires.from some, n)) (omega (arith, c.requires.to some, n)) c.in_ok-walk.walk made.2)

pub returns-clause-walk : goal.returns-clause-walk
returns-clause-walk c =
    let made = c.in_ok-walk.ensures in
    let n : node_count made.0.topology ≡ length c.args.graph.now = ap node_count made.1.over ∙ c.requires.nodes in
    let some : 0 < length c.args.graph.now = omega (arith, c.in_ok-numbering.ensures.some, c.requires.nodes) in
    record {
      plan = made.0;
      built = plan_by c.args.topology.now c.args.kind c.in_ok-numbering.numbering made.0 made.1 c.requires.kind (labelling_of c.args.labels) c.requires.alone c.in_ok-numbering.ensures.order;
      walks = walk_told (names c.args.graph.now) made.0 c.args.ends.1 made.1.valid (omega (arith, c.requires.to some, n)) c.args.ends.0 c.in_ok-walk.walk made.2 (string_bytes c.in_ok-text_of.field-0) c.in_ok-text_of.ensures;
    }
