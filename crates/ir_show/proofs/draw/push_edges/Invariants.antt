use Rattle.std.proofs.Common.{◌≡◌, ◌++◌, nat_lt, take, filter, flat_map, string_bytes}
use Rattle.ir_model.specs.declared.Hop.{Hop}
use Rattle.ir_model.specs.Graph.{names}
use Rattle.ir_show.specs.Drawing.{edge_line}
use Rattle.ir_show.proofs.draw.push_edges.Given as goal

abbrev pub invariant-loop-hop : goal.invariant-loop-hop
invariant-loop-hop l =
    string_bytes l.text ≡ string_bytes l.fn.text ++ flat_map (edge_line (names l.graph) l.plan l.walk l.u) (filter (λ (hop : Hop). nat_lt l.u hop.node) (take l.hop-index l.ports))
