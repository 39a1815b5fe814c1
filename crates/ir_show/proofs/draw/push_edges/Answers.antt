use Rattle.std.specs.Prelude.{if◌then◌else◌}
use Rattle.std.proofs.Common.{◌<◌, ◌∙◌, ℕ, List, [], ◌++◌, nat_lt, ap, arith, length, string_bytes, get_or}
use Rattle.ir_model.specs.declared.Hop.{Hop}
use Rattle.ir_model.specs.Graph.{names}
use Rattle.ir_show.specs.Drawing.{edge_line}
use Rattle.ir_show.proofs.Drawn.{edges_more}
use Rattle.ir_show.proofs.draw.push_edges.Goals as goal

pub loop-hop-preserved : goal.loop-hop-preserved
loop-hop-preserved c =
    let line = edge_line (names c.args.graph.now) c.args.plan.now c.args.walk.now c.args.u in
    let none : Hop = record { node = 0; link = 0; weight = 0 } in
    let ports = c.ports-ports.result.now in
    let within : c.loop-hop.hop-index < length ports = omega (arith, c.loop-hop-test.true) in
    let more = edges_more line (λ (hop : Hop). nat_lt c.args.u hop.node) ports c.loop-hop.hop-index none within (string_bytes c.args.text.now) in
    let hop = get_or ports c.loop-hop.hop-index none in
    c.in_ok-push_edge.ensures ∙ ap (λ (t : List ℕ). t ++ (if nat_lt c.args.u hop.node then line hop else [])) c.loop-hop.invariant ∙ more
